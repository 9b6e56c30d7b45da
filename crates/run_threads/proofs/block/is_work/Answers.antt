use Rattle.std.proofs.Common.{sym}
use Rattle.run_threads.proofs.Blocks.{judged_ended}
use Rattle.run_threads.proofs.block.is_work.Goals as goal

pub returns-in-Ended : goal.returns-in-Ended
returns-in-Ended c = sym (judged_ended c.args.inputs.now c.args.worker c.args.item c.args.frame.now _ c.in-Ended.ensures)
