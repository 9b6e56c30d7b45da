use Rattle.std.proofs.Common.{◌≡◌}
use Rattle.bench.proofs.tests.finish.Given as goal

abbrev pub invariant-loop-made : goal.invariant-loop-made
invariant-loop-made l = (l.bench.state.setup ≡ l.fn.setup) × (l.bench.state.shard ≡ l.fn.bench.state.shard)
