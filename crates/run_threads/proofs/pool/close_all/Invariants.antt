use Rattle.std.proofs.Common.{◌≡◌, length, take, map}
use Rattle.run_threads.specs.Pool.{AreHistories}
use Rattle.run_threads.proofs.pool.close_all.Given as goal

abbrev pub invariant-loop-lock : goal.invariant-loop-lock
invariant-loop-lock l = record {
  locks : l.locks.items ≡ take (length l.locks.items) l.fn.locks.items;
  seats : l.first.items ≡ take (length l.first.items) l.fn.first.items;
  same : length l.first.items ≡ length l.locks.items;
  histories : AreHistories l.setup.instances l.setup.shards (length l.locks.items) l.fn.first.items (map (λ x. x.items) l.histories.items);
}

abbrev pub decreases-loop-lock : goal.decreases-loop-lock
decreases-loop-lock l = length l.locks.items
