use Rattle.std.proofs.Common.{◌≡◌, take}
use Rattle.weighted_pick.specs.Pick.{total_weight}
use Rattle.weighted_pick.proofs.total_of.Given as goal

abbrev pub invariant-loop-weight : goal.invariant-loop-weight
invariant-loop-weight l = l.total ≡ total_weight (take l.weight-index l.choices)
