use Rattle.std.proofs.Common.{◌≡◌, ℕ, ◌≤◌, ◌<◌, List, length}
use Rattle.std.specs.Prelude.{slice_index_or}
use Rattle.bench.specs.declared.input.inputs.Inputs.{Inputs}
use Rattle.run_threads.specs.Handles.{AreHandles, IsOpen}
use Rattle.run_threads.specs.Seats.{BenchLock}
use Rattle.run_threads.specs.declared.handle.Handle.{Handle}
use Rattle.run_threads.proofs.run.end_all.Given as goal

abbrev pub invariant-loop-place : goal.invariant-loop-place
invariant-loop-place g l = record {
  many : length l.handles ≡ length l.fn.handles;
  same : (inputs : Inputs) (n : ℕ) (locks : List BenchLock) → AreHandles inputs n locks l.fn.handles → AreHandles inputs n locks l.handles;
  open_ones : (k : ℕ) (h : Handle) → l.place ≤ k → k < length l.handles → IsOpen (slice_index_or l.handles k h);
}
