use Rattle.std.proofs.Common.{◌≡◌, ◌≤◌, length, take}
use Rattle.run_threads.specs.Pool.{JoinsFrom}
use Rattle.run_threads.proofs.pool.join_all.Given as goal

abbrev pub invariant-loop-seat : goal.invariant-loop-seat
invariant-loop-seat l = record {
  rest : l.seats.items ≡ take (length l.seats.items) l.fn.seats.items;
  few : length l.seats.items ≤ length l.locks;
  joins : JoinsFrom (length l.seats.items) l.locks l.fn.first l.first l.fn.seats.items;
}

abbrev pub decreases-loop-seat : goal.decreases-loop-seat
decreases-loop-seat l = length l.seats.items
