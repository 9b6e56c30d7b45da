use Rattle.std.proofs.Common.{◌≡◌}
use Rattle.bench.proofs.tests.gone_so.Given as goal

abbrev pub invariant-loop-index : goal.invariant-loop-index
invariant-loop-index l = (l.bench.state.setup ≡ l.fn.setup) × (l.bench.state.shard ≡ 3)
