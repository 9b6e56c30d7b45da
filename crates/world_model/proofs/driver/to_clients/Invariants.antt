use Rattle.std.proofs.Common.{◌≡◌}
use Rattle.std.specs.List.{range_with_len, sum_by}
use Rattle.world_model.specs.Summaries.{received_by, told}
use Rattle.world_model.specs.World.{end_of_client}
use Rattle.world_model.proofs.driver.to_clients.Given as goal

abbrev pub invariant-loop-client : goal.invariant-loop-client
invariant-loop-client l = l.total ≡ told (sum_by (λ k. received_by (end_of_client l.world k)) (range_with_len 0 l.client))
