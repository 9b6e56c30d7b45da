use Rattle.std.proofs.Common.{refl}
use Rattle.std.specs.List.{flat_map, range_with_len}
use Rattle.world_model.specs.Steps.{fails_at}
use Rattle.world_model.proofs.Everywhere.{goes_further, flat_range}
use Rattle.world_model.proofs.failing.fail_all.Goals as goal

pub loop-shard-preserved : goal.loop-shard-preserved
loop-shard-preserved c =
    let fails = fails_at c.args.setup.now c.args.replica in record {
      own = c.fail_at.ensures.own;
      called = λ w same.
          goes_further w c.loop-shard.shards c.fail_at.new.shards (flat_map fails (range_with_len 0 c.loop-shard.shard)) (fails c.loop-shard.shard) _
          (c.loop-shard.invariant.called w same) (c.fail_at.ensures.called (record w { shards = c.loop-shard.shards }) refl)
          (flat_range fails c.loop-shard.shard);
    }
