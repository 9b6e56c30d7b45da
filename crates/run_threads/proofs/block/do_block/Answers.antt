use Rattle.run_threads.proofs.Blocks.{block_done}
use Rattle.run_threads.proofs.block.do_block.Goals as goal

pub returns-in_err-fail_before-clause-named : goal.returns-in_err-fail_before-clause-named
returns-in_err-fail_before-clause-named g c = c.fail_before.ensures.named c.args.worker

pub returns-clause-named : goal.returns-clause-named
returns-clause-named g c base so = c.handle_if.ensures.named base (c.fail_before.ensures.named c.args.worker base so)

pub returns-clause-done : goal.returns-clause-done
returns-clause-done g c =
    block_done c.args.locks.now c.args.inputs.now c.args.worker c.args.item c.args.lines.now c.args.frame.now c.args.seats.now c.fail_before.new.seats c.handle_if.new.seats c.handle_if.result
    c.in_ok-fail_before.ensures.made c.handle_if.ensures.done
