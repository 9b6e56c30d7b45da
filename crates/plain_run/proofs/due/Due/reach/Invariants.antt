use Rattle.std.proofs.Common.{◌≡◌, ◌-◌, ◌+◌, ℕ, length}
use Rattle.plain_run.specs.Due.{due_at}
use Rattle.plain_run.proofs.due.Due.reach.Given as goal

abbrev pub invariant-loop-alloc : goal.invariant-loop-alloc
invariant-loop-alloc l = (item : ℕ) → due_at l.self item ≡ due_at l.fn.self item

abbrev pub decreases-loop-alloc : goal.decreases-loop-alloc
decreases-loop-alloc l = l.place + 1 - length l.self.lines.items
