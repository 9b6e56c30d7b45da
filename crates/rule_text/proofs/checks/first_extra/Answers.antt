use Rattle.std.proofs.Common.{ap, find, map, not, string_bytes, sym, ◌∙◌}
use Rattle.rule_text.specs.Checks.{is_among}
use Rattle.rule_text.proofs.TomlLemmas.{keys_of-view}
use Rattle.rule_text.proofs.checks.first_extra.Goals as goal

pub loop-key-init : goal.loop-key-init
loop-key-init c =
    let keys = c.into_iter-key-iterator.ensures.into_iter_gives ∙ c.keys-key-items.ensures.rest in
    let same = keys_of-view c.args.table.now.entries ∙ ap (map string_bytes) (sym keys) in
    (tt, tt, ap (find (λ k. not (is_among (map (λ n. n.now) c.args.known.now) k))) same)
