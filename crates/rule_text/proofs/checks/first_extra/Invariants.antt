use Rattle.std.proofs.Common.{◌≡◌, find, map, not, string_bytes}
use Rattle.toml.specs.View.{table_view}
use Rattle.rule_text.specs.Checks.{is_among, keys_of}
use Rattle.rule_text.proofs.checks.first_extra.Given as goal

abbrev pub invariant-loop-key : goal.invariant-loop-key
invariant-loop-key l =
    (goal.iterator-loop-key).can_next l.key-iterator × (goal.iterator-loop-key).is_finite l.key-iterator
    × (find (λ k. not (is_among (map (λ n. n.now) l.known) k)) (keys_of (table_view l.table))
    ≡ find (λ k. not (is_among (map (λ n. n.now) l.known) k)) (map string_bytes l.key-iterator))
