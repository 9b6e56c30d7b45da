use Rattle.std.proofs.Common.{◌≡◌, ◌≤◌, length, take}
use Rattle.run_threads.specs.Handles.{AreHandles, AreOpen}
use Rattle.run_threads.proofs.run.begin_all.Given as goal

abbrev pub invariant-loop-worker : goal.invariant-loop-worker
invariant-loop-worker g l = record {
  rest : l.workers.items ≡ take (length l.workers.items) l.fn.workers.items;
  few : length l.workers.items ≤ length l.fn.workers.items;
  handles : AreHandles l.inputs 0 l.locks l.handles;
  open_ones : AreOpen l.handles;
}

abbrev pub decreases-loop-worker : goal.decreases-loop-worker
decreases-loop-worker g l = length l.workers.items
