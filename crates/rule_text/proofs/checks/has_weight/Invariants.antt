use Rattle.std.proofs.Common.{◌≡◌, take}
use Rattle.weighted_pick.specs.Pick.{total_weight}
use Rattle.rule_text.proofs.checks.has_weight.Given as goal

abbrev pub invariant-loop-weight : goal.invariant-loop-weight
invariant-loop-weight l = total_weight (take l.weight-index l.choices) ≡ 0
