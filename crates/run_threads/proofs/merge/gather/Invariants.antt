use Rattle.run_threads.proofs.Merging.{IsTaken}
use Rattle.run_threads.proofs.merge.gather.Given as goal

abbrev pub invariant-loop-left : goal.invariant-loop-left
invariant-loop-left l = IsTaken l.inputs l.inputs.frames l.fn.all l.all l.left l.lines.items l.sent.items

abbrev pub decreases-loop-left : goal.decreases-loop-left
decreases-loop-left l = l.left
