use Rattle.std.proofs.Common.{◌≡◌, ℕ, ◌<◌, ◌≤◌, [], take}
use Rattle.std.specs.List.{filter}
use Rattle.run_threads.specs.Due.{is_due}
use Rattle.run_threads.proofs.due.room_of.Given as goal

abbrev pub invariant-loop-line : goal.invariant-loop-line
invariant-loop-line l = record {
  few : l.room ≤ l.fn.records;
  none : (item : ℕ) → item < l.fn.records → l.room ≤ item → filter (is_due item) (take l.line-index l.lines) ≡ [];
}
