use Rattle.std.proofs.Common.{◌≡◌, ◌≤◌}
use Rattle.std.specs.Prelude.{count_by}
use Rattle.std.specs.List.{range_with_len}
use Rattle.world_model.specs.Schedule.{is_reset}
use Rattle.world_model.specs.World.{end_of_client}
use Rattle.world_model.proofs.driver.count_reset.Given as goal

abbrev pub invariant-loop-client : goal.invariant-loop-client
invariant-loop-client l = record {
  count : l.count ≡ count_by (λ k. is_reset (end_of_client l.world k)) (range_with_len 0 l.client);
  few : l.count ≤ l.client;
}
