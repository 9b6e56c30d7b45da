use Rattle.std.proofs.Common.{◌≡◌, map}
use Rattle.std.specs.List.{range_with_len}
use Rattle.drive_plan.specs.Streams.{server_byte_at}
use Rattle.world_model.proofs.driving.server_text.Given as goal

abbrev pub invariant-loop-place : goal.invariant-loop-place
invariant-loop-place l = l.text.items ≡ map server_byte_at (range_with_len 0 l.place)
