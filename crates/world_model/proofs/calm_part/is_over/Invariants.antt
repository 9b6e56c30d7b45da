use Rattle.std.proofs.Common.{◌≡◌, true}
use Rattle.std.specs.List.{list_all, range_with_len}
use Rattle.world_model.specs.Schedule.{is_finished}
use Rattle.world_model.specs.World.{end_of_client}
use Rattle.world_model.proofs.calm_part.is_over.Given as goal

abbrev pub invariant-loop-client : goal.invariant-loop-client
invariant-loop-client l = list_all (λ k. is_finished (end_of_client l.world k)) (range_with_len 0 l.client) ≡ true
