use Rattle.std.proofs.Common.{◌≡◌}
use Rattle.run_threads.proofs.tests.replayed.Given as goal

abbrev pub invariant-loop-entry : goal.invariant-loop-entry
invariant-loop-entry l = record {
  setup : l.bench.state.setup ≡ l.setup;
  shard : l.bench.state.shard ≡ l.fn.shard;
}
