use Rattle.std.proofs.Common.{[], ◌∷◌, map, refl}
use Rattle.std.specs.List.{range_with_len}
use Rattle.bench.specs.declared.call.Call.TheVariants.{Crash}
use Rattle.world_model.specs.Events.{calls}
use Rattle.world_model.proofs.Everywhere.{goes_further, map_range}
use Rattle.world_model.proofs.crashing.crash_all.Goals as goal

pub loop-shard-preserved : goal.loop-shard-preserved
loop-shard-preserved c =
    record {
      own = c.crash_at.ensures.own;
      called = λ w same.
          goes_further w c.loop-shard.shards c.crash_at.new.shards (map (λ g. calls g (Crash c.args.instance)) (range_with_len 0 c.loop-shard.shard)) (calls c.loop-shard.shard (Crash c.args.instance) ∷ []) _
          (c.loop-shard.invariant.called w same) (c.crash_at.ensures.called (record w { shards = c.loop-shard.shards }) refl)
          (map_range (λ g. calls g (Crash c.args.instance)) c.loop-shard.shard);
    }
