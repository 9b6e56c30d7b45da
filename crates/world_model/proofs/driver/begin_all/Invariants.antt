use Rattle.std.proofs.Common.{◌≡◌}
use Rattle.std.specs.List.{fold, range_with_len}
use Rattle.world_model.specs.Schedule.{began}
use Rattle.world_model.proofs.driver.begin_all.Given as goal

abbrev pub invariant-loop-client : goal.invariant-loop-client
invariant-loop-client l = l.world ≡ fold (began l.bytes) l.fn.world (range_with_len 0 l.client)
