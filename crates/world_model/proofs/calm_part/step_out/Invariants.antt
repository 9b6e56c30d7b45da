use Rattle.std.proofs.Common.{◌≡◌, ℕ}
use Rattle.std.specs.List.{fold, range_with_len}
use Rattle.world_model.specs.Schedule.{stepped_on}
use Rattle.world_model.specs.World.{World}
use Rattle.world_model.proofs.calm_part.step_out.Given as goal

abbrev pub invariant-loop-step : goal.invariant-loop-step
invariant-loop-step l = l.world ≡ fold (λ (w : World) (step : ℕ). stepped_on l.instance l.shard w) l.fn.world (range_with_len 0 l._step)
