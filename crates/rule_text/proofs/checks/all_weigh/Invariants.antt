use Rattle.std.proofs.Common.{◌≡◌, drop}
use Rattle.rule_text.specs.Checks.{every, weighs}
use Rattle.rule_text.proofs.checks.all_weigh.Given as goal

abbrev pub invariant-loop-n : goal.invariant-loop-n
invariant-loop-n l = every weighs 0 l.rules ≡ every weighs l.n (drop l.n l.rules)
