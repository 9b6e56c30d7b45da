use Rattle.std.proofs.Common.{◌≡◌, false}
use Rattle.inbox.proofs.tests.give_all.Given as goal

abbrev pub invariant-loop : goal.invariant-loop
invariant-loop g l = (l.giver.inbox ≡ l.fn.giver.inbox) × (l.giver.ended ≡ false)
