use Rattle.std.proofs.Common.{◌≡◌}
use Rattle.run_threads.proofs.handle.give.Given as goal

abbrev pub invariant-loop : goal.invariant-loop
invariant-loop g l = l.giver ≡ l.fn.giver
