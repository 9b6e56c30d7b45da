use Rattle.run_threads.proofs.Blocks.{passed_over}
use Rattle.run_threads.proofs.block.handle_if.Goals as goal

pub returns-clause-done : goal.returns-clause-done
returns-clause-done g c =
    passed_over c.args.locks.now c.args.inputs.now c.args.worker c.args.item c.args.lines.now c.args.frame.now c.crash_after-after.result c.crash_after-after.ensures c.args.seats.now c.pass.new.seats
    c.pass.result c.pass.ensures.told c.pass.ensures.passed
