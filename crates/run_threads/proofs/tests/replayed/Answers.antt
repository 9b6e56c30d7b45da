use Rattle.run_threads.proofs.Replays.{call_now}
use Rattle.run_threads.proofs.tests.replayed.Goals as goal

pub make-requires : goal.make-requires
make-requires c =
    let l = c.loop-entry in
    call_now c.args.setup.now l.bench.state.setup c.args.shard l.bench.state.shard c.args.history.now l.entry-index c.entry-item.result c.requires c.loop-entry-test.true c.entry-item.is l.invariant.setup l.invariant.shard
