use Rattle.bench.proofs.Settlings.{Settling}
use Rattle.bench.proofs.settling.settle_on.Given as goal

abbrev pub invariant-loop-turn : goal.invariant-loop-turn
invariant-loop-turn l = Settling l.setup l.fn.work l.fn.kept l.fn.room l._turn l.work l.kept l.room
