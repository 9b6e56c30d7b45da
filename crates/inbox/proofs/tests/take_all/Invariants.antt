use Rattle.std.proofs.Common.{◌≡◌}
use Rattle.inbox.proofs.tests.take_all.Given as goal

abbrev pub invariant-loop : goal.invariant-loop
invariant-loop g l = l.taker.inbox ≡ l.fn.taker.inbox
