use Rattle.std.proofs.Common.{◌≡◌, drop, map}
use Rattle.rule_text.specs.Checks.{every, once}
use Rattle.rule_text.specs.WrittenViews.{written}
use Rattle.rule_text.proofs.checks.all_once.Given as goal

abbrev pub invariant-loop-rule : goal.invariant-loop-rule
invariant-loop-rule l =
    every (λ n. once) 0 (map written l.rules) ≡ every (λ n. once) l.rule-index (map written (drop l.rule-index l.rules))
