use Rattle.std.proofs.Common.{◌≡◌, subst, arith}
use Rattle.std.specs.List.{filter}
use Rattle.std.proofs.lemmas.List.{take_all}
use Rattle.run_threads.specs.Due.{due_at, is_due}
use Rattle.run_threads.proofs.Lines.{all_due}
use Rattle.run_threads.proofs.due.Due.of.Goals as goal

pub returns : goal.returns
returns c = λ item below.
    let f = c.loop-line-test.false in
    let lines = c.args.lines.now in
    let inv = c.loop-line.invariant in
    all_due c.loop-line.due lines c.room_of-room.result item inv.room
    (λ within. subst (λ ls. due_at c.loop-line.due item ≡ filter (is_due item) ls) (take_all c.loop-line.line-index lines (omega (arith, f))) (inv.added item within))
    (c.room_of-room.ensures.none item below)
