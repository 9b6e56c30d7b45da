use Rattle.std.proofs.Common.{◌≤◌, ◌-◌}
use Rattle.run_threads.proofs.Handled.{GoesAhead}
use Rattle.run_threads.proofs.handling.handle.Given as goal

abbrev pub invariant-loop-made : goal.invariant-loop-made
invariant-loop-made g l = record {
  within : l.made ≤ l.most;
  ahead : GoesAhead l.fn.instance l.fn.item l.fn.aim l.fn.seg l.lock l.fn.seat l.seat l.made l.reply;
}

abbrev pub decreases-loop-made : goal.decreases-loop-made
decreases-loop-made g l = l.most - l.made
