use Rattle.std.proofs.Common.{◌≡◌, ◌++◌, map}
use Rattle.std.specs.List.{range_with_len}
use Rattle.drive_plan.specs.Streams.{client_byte_at}
use Rattle.world_model.proofs.driving.add_client_bytes.Given as goal

abbrev pub invariant-loop-place : goal.invariant-loop-place
invariant-loop-place l = l.text.items ≡ l.fn.text.items ++ map (client_byte_at l.client) (range_with_len 0 l.place)
