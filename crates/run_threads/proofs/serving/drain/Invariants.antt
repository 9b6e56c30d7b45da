use Rattle.std.proofs.Common.{◌≡◌}
use Rattle.run_threads.proofs.serving.drain.Given as goal

abbrev pub invariant-loop : goal.invariant-loop
invariant-loop g l = l.taker.inbox ≡ l.fn.taker.inbox
