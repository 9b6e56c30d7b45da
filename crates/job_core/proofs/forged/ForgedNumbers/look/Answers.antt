use Rattle.std.proofs.Common.{◌≡◌, ℕ, List, sym, ◌∙◌, ap, subst}
use Rattle.std.specs.Option.{option_copied}
use Rattle.flow_id.specs.Hashes.{marked}
use Rattle.job_core.proofs.Numbers.{kept_is}
use Rattle.job_core.proofs.forged.ForgedNumbers.look.Goals as goal

pub returns-in-Some : goal.returns-in-Some
returns-in-Some c =
    subst (λ (secret : List ℕ). c.in-Some.forged.now ≡ (marked secret c.args.flow.now).forged) c.self.view_is
    (kept_is c.self.inside.secret c.args.flow.now c.self.inside.kept.entries c.in-Some.forged.now c.self.invariant (sym c.get.ensures.value ∙ ap option_copied c.in-Some.is))
