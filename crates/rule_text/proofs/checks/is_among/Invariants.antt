use Rattle.std.proofs.Common.{◌≡◌, drop, map}
use Rattle.rule_text.specs.Checks.{is_among}
use Rattle.rule_text.proofs.checks.is_among.Given as goal

abbrev pub invariant-loop-n : goal.invariant-loop-n
invariant-loop-n l =
    is_among (map (λ n. n.now) l.names) l.name ≡ is_among (map (λ n. n.now) (drop l.n-index l.names)) l.name
