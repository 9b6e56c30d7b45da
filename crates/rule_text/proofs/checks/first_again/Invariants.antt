use Rattle.std.proofs.Common.{◌≡◌, [], drop, map, take}
use Rattle.rule_text.specs.Checks.{first_clash, is_among}
use Rattle.rule_text.proofs.checks.first_again.Given as goal

abbrev pub invariant-loop-n : goal.invariant-loop-n
invariant-loop-n l =
    first_clash is_among [] (map (λ n. n.now) l.names)
    ≡ first_clash is_among (map (λ n. n.now) (take l.n l.names)) (map (λ n. n.now) (drop l.n l.names))
