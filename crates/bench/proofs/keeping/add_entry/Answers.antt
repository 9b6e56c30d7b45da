use Rattle.std.proofs.Common.{◌∷◌, sym, ◌∙◌, ap}
use Rattle.std.specs.Prelude.{take, if◌then◌else◌}
use Rattle.std.specs.Option.{is_some}
use Rattle.std.proofs.lemmas.List.{take_all}
use Rattle.bench.specs.Bench.{entry_limit, kept_by}
use Rattle.bench.proofs.keeping.add_entry.Goals as goal

pub returns-in_default-clause-added : goal.returns-in_default-clause-added
returns-in_default-clause-added c = take_all 256 c.args.kept.now c.requires.few ∙ sym (ap (λ o. kept_by o c.args.kept.now) c.in_default.is)

pub returns-then-is_some-clause-added : goal.returns-then-is_some-clause-added
returns-then-is_some-clause-added c =
    take_all 256 c.args.kept.now c.requires.few
    ∙ sym (ap (λ o. kept_by o c.args.kept.now) c.in-Some.is
    ∙ ap (λ b. if b then c.args.kept.now else take entry_limit ((c.in-Some.flow, c.in-Some.found) ∷ c.args.kept.now)) (ap is_some (sym c.peek.ensures) ∙ sym c.is_some.ensures ∙ c.if-is_some.true))
