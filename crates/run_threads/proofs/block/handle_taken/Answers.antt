use Rattle.std.proofs.Common.{◌≡◌, Some, None, sym, ◌∙◌, subst}
use Rattle.std.specs.Prelude.{if◌then◌else◌}
use Rattle.run_threads.specs.Items.{unprepared}
use Rattle.run_threads.proofs.Blocks.{passed_over, passed_refused, handled_own}
use Rattle.run_threads.proofs.block.handle_taken.Goals as goal

pub returns-then-instance-worker-clause-done : goal.returns-then-instance-worker-clause-done
returns-then-instance-worker-clause-done g c =
    passed_over c.args.locks.now c.args.inputs.now c.args.worker c.args.item c.args.lines.now c.args.frame.now c.crash_after-after.result c.crash_after-after.ensures c.args.seats.now c.pass.new.seats
    c.pass.result c.pass.ensures.told c.pass.ensures.passed

pub returns-in-Ok-clause-done : goal.returns-in-Ok-clause-done
returns-in-Ok-clause-done g c =
    handled_own c.args.locks.now c.args.inputs.now c.args.worker c.args.item c.args.lines.now c.args.frame.now c.crash_after-after.result c.crash_after-after.ensures c.args.seats.now c.take_turn-turn.new.seats
    c.in-Ok-Work.instance c.in-Ok-Work.shard c.in-Ok-Work.aim c.in-Ok-Work.seg c.in-Ok.outcome c.if-instance-worker.false (sym c.in-Ok-Work.field-0-is ∙ c.in-Ok-Work.ensures.prepared) c.in-Ok.ensures.turn

pub returns-in-Ok-Ended-clause-done : goal.returns-in-Ok-Ended-clause-done
returns-in-Ok-Ended-clause-done g c =
    passed_over c.args.locks.now c.args.inputs.now c.args.worker c.args.item c.args.lines.now c.args.frame.now c.crash_after-after.result c.crash_after-after.ensures c.args.seats.now c.pass-in-Ok-Ended.new.seats
    c.pass-in-Ok-Ended.result c.pass-in-Ok-Ended.ensures.told c.pass-in-Ok-Ended.ensures.passed

pub returns-in-Err-clause-done : goal.returns-in-Err-clause-done
returns-in-Err-clause-done g c =
    passed_refused c.args.locks.now c.args.inputs.now c.args.worker c.args.item c.args.lines.now c.args.frame.now c.crash_after-after.result c.crash_after-after.ensures c.args.seats.now c.pass-in-Err.new.seats
    c.unprepared-told.result c.pass-in-Err.result (subst (λ own. c.unprepared-told.result ≡ (if own then Some unprepared else None)) c.is_work.ensures c.unprepared-told.ensures) c.pass-in-Err.ensures.told c.pass-in-Err.ensures.passed
