use Rattle.std.proofs.Common.{◌≡◌}
use Rattle.std.specs.List.{fold, range_with_len}
use Rattle.world_model.specs.Schedule.{moment, out_taken}
use Rattle.world_model.proofs.calm_part.deliver_outs.Given as goal

abbrev pub invariant-loop-place : goal.invariant-loop-place
invariant-loop-place l = moment l.world l.plan ≡ fold (out_taken l.bytes) (moment l.fn.world l.fn.plan) (range_with_len l.from l.place)
