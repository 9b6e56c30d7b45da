use Rattle.bench.specs.Blocks.{fail_at}
use Rattle.run_threads.proofs.Crews.{made_more, flat_range}
use Rattle.run_threads.proofs.crew.fail_all.Goals as goal

pub loop-shard-preserved : goal.loop-shard-preserved
loop-shard-preserved g c =
    let calls = fail_at c.args.setup.now c.args.replica in record {
      made = made_more c.args.setup.now c.args.locks.now c.args.seats.now c.loop-shard.seats c.fail_shard.new.seats _ (calls c.loop-shard.shard) _
          c.loop-shard.invariant.made c.in_ok-fail_shard.ensures.made (flat_range calls c.loop-shard.shard);
      crew = c.fail_shard.ensures.crew;
      named = λ i base so. c.fail_shard.ensures.named i base (c.loop-shard.invariant.named i base so);
    }

pub returns-in_err-fail_shard-clause-named : goal.returns-in_err-fail_shard-clause-named
returns-in_err-fail_shard-clause-named g c i base so = c.fail_shard.ensures.named i base (c.loop-shard.invariant.named i base so)
