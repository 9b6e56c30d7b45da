use Rattle.run_threads.specs.Handles.{AreHandles, AreOpen}
use Rattle.run_threads.proofs.run.feed_all.Given as goal

abbrev pub invariant-loop-item : goal.invariant-loop-item
invariant-loop-item g l = record {
  handles : AreHandles l.inputs l.item l.locks l.handles;
  open_ones : AreOpen l.handles;
}
