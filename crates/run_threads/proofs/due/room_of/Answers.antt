use Rattle.std.proofs.Common.{◌≡◌, [], subst, arith}
use Rattle.std.specs.List.{filter}
use Rattle.std.proofs.lemmas.List.{take_all}
use Rattle.run_threads.specs.Due.{is_due}
use Rattle.run_threads.proofs.Lines.{none_more}
use Rattle.run_threads.proofs.due.room_of.Goals as goal

pub loop-line-preserved : goal.loop-line-preserved
loop-line-preserved c =
    let inv = c.loop-line.invariant in
    let few = inv.few in
    let few' = c.end_of.ensures.few in
    let more = c.larger-room.ensures in record {
      few = omega (arith, few, few', more);
      none = λ item below low. none_more item c.args.lines.now c.loop-line.line-index _ c.loop-line-test.true (inv.none item below (omega (arith, more, low))) (c.end_of.ensures.none item below (omega (arith, more, low)));
    }

pub returns-clause-none : goal.returns-clause-none
returns-clause-none c = λ item below low.
    let f = c.loop-line-test.false in
    subst (λ ls. filter (is_due item) ls ≡ []) (take_all c.loop-line.line-index c.args.lines.now (omega (arith, f))) (c.loop-line.invariant.none item below low)
