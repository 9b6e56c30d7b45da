use Rattle.std.proofs.Common.{◌≡◌}
use Rattle.world_model.proofs.tests.failure_table.judge.Given as goal

abbrev pub invariant-loop-steps : goal.invariant-loop-steps
invariant-loop-steps l = (l.bench.state.setup ≡ l.fn.setup) × (l.bench.state.shard ≡ 3)
