use Rattle.run_threads.specs.Pool.{AreFresh, AreCrews}
use Rattle.run_threads.proofs.pool.crews_of.Given as goal

abbrev pub invariant-loop-worker : goal.invariant-loop-worker
invariant-loop-worker l = record {
  crews : AreCrews l.setup.shards l.worker l.locks l.crews.items;
  first : AreFresh 0 l.worker l.setup.shards l.locks l.first;
}
