use Rattle.run_threads.specs.Pool.{AreFresh, IsSplit}
use Rattle.std.proofs.Common.{◌+◌}
use Rattle.run_threads.proofs.pool.next_crew.Given as goal

abbrev pub invariant-loop-place : goal.invariant-loop-place
invariant-loop-place l = record {
  seats : AreFresh (l.fn.worker + 1) 0 l.place l.locks l.seats.items;
  split : IsSplit l.fn.worker l.place l.locks l.first;
}
