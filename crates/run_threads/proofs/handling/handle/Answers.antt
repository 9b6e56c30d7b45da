use Rattle.std.proofs.Common.{true≢false, sym, ◌∙◌, arith}
use Rattle.run_threads.proofs.Handled.{taken, not_taken, stepped, not_stepped, all_stepped}
use Rattle.run_threads.proofs.handling.handle.Goals.{then-loop-made-test+else-is_going, else-loop-made-test}
use Rattle.run_threads.proofs.handling.handle.Goals as goal

pub returns-in_default : goal.returns-in_default
returns-in_default g c =
    not_taken c.args.instance c.args.item c.args.aim c.args.seg c.args.most c.args.lock.now c.args.seat.now c.take.new.seat c.in_default.ensures.refused

pub loop-made-init : goal.loop-made-init
loop-made-init g c = record {
  within = omega arith;
  ahead = taken c.args.instance c.args.item c.args.aim c.args.seg c.args.lock.now c.args.seat.now c.take.new.seat c.in-Ok.reply c.in-Ok.ensures.made;
}

pub returns-in_default-step : goal.returns-in_default-step
returns-in_default-step g c =
    not_stepped c.args.instance c.args.item c.args.aim c.args.seg c.args.lock.now c.args.seat.now c.loop-made.seat c.step.new.seat c.loop-made.made c.loop-made.reply
    (sym c.is_going.ensures ∙ c.if-is_going.true) c.loop-made.invariant.ahead c.args.most c.loop-made-test.true c.in_default-step.ensures.refused

pub loop-made-preserved : goal.loop-made-preserved
loop-made-preserved g c = record {
  within = omega arith;
  ahead = stepped c.args.instance c.args.item c.args.aim c.args.seg c.args.lock.now c.args.seat.now c.loop-made.seat c.step.new.seat c.loop-made.made c.loop-made.reply
      (sym c.is_going.ensures ∙ c.if-is_going.true) c.loop-made.invariant.ahead c.in-Ok-step.next c.in-Ok-step.ensures.made;
}

pub returns : goal.returns
returns g c =
    all_stepped c.args.instance c.args.item c.args.aim c.args.seg c.args.most c.args.lock.now c.args.seat.now c.loop-made.seat c.loop-made.made c.loop-made.reply c.loop-made.invariant.within
    (λ goes. elim c.loop-made-test.branch [
      | then-loop-made-test+else-is_going w ↦ absurd (true≢false (sym goes ∙ (sym w.is_going.ensures ∙ w.if-is_going.false)))
      | else-loop-made-test w ↦ let past = w.loop-made-test.false in omega (arith, past)
    ])
    c.loop-made.invariant.ahead
