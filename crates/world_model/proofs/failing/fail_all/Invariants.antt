use Rattle.std.proofs.Common.{◌≡◌}
use Rattle.std.specs.List.{flat_map, range_with_len}
use Rattle.world_model.specs.Runs.{after_all}
use Rattle.world_model.specs.Steps.{fails_at}
use Rattle.world_model.specs.World.{World}
use Rattle.world_model.proofs.Everywhere.{AreOwn}
use Rattle.world_model.proofs.failing.fail_all.Given as goal

abbrev pub invariant-loop-shard : goal.invariant-loop-shard
invariant-loop-shard l = record {
  own : AreOwn l.setup l.shards;
  called : (w : World) → w.shards ≡ l.fn.shards → record w { shards = l.shards } ≡ after_all w (flat_map (fails_at l.setup l.fn.replica) (range_with_len 0 l.shard));
}
