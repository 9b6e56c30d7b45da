use Rattle.std.proofs.Common.{◌≡◌, map}
use Rattle.std.specs.List.{range_with_len}
use Rattle.bench.specs.declared.call.Call.TheVariants.{Crash}
use Rattle.world_model.specs.Events.{calls}
use Rattle.world_model.specs.Runs.{after_all}
use Rattle.world_model.specs.World.{World}
use Rattle.world_model.proofs.Everywhere.{AreOwn}
use Rattle.world_model.proofs.crashing.crash_all.Given as goal

abbrev pub invariant-loop-shard : goal.invariant-loop-shard
invariant-loop-shard l = record {
  own : AreOwn l.setup l.shards;
  called : (w : World) → w.shards ≡ l.fn.shards → record w { shards = l.shards } ≡ after_all w (map (λ g. calls g (Crash l.fn.instance)) (range_with_len 0 l.shard));
}
