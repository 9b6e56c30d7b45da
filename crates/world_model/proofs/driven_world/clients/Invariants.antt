use Rattle.std.proofs.Common.{◌≡◌, map}
use Rattle.std.specs.List.{range_with_len}
use Rattle.world_model.specs.DrivenSetup.{after_draws, driven_client}
use Rattle.world_model.proofs.driven_world.clients.Given as goal

abbrev pub invariant-loop-number : goal.invariant-loop-number
invariant-loop-number l = record {
  made : l.clients.items ≡ map (driven_client l.fn.plan) (range_with_len 0 l.number);
  draws : l.plan ≡ after_draws l.fn.plan l.number;
}
