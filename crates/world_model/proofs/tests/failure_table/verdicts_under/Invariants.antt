use Rattle.std.proofs.Common.{◌≡◌}
use Rattle.world_model.proofs.tests.failure_table.verdicts_under.Given as goal

abbrev pub invariant-loop-index : goal.invariant-loop-index
invariant-loop-index l = (l.bench.state.setup ≡ l.setup) × (l.bench.state.shard ≡ 3)
