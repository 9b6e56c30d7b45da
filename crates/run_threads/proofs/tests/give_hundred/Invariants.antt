use Rattle.std.proofs.Common.{◌≡◌, false}
use Rattle.run_threads.proofs.tests.give_hundred.Given as goal

abbrev pub invariant-loop-item : goal.invariant-loop-item
invariant-loop-item g l = (l.giver.inbox ≡ l.fn.giver.inbox) × (l.giver.ended ≡ false)
