use Rattle.run_threads.specs.Pool.{AreLocks, AreFresh}
use Rattle.run_threads.proofs.pool.open_locks.Given as goal

abbrev pub invariant-loop-shard : goal.invariant-loop-shard
invariant-loop-shard l = record {
  locks : AreLocks l.setup l.shard l.locks.items;
  seats : AreFresh 0 0 l.shard l.locks.items l.seats.items;
}
