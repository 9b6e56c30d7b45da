use Rattle.run_threads.specs.Handling.{refused_by, end_of}
use Rattle.run_threads.proofs.Items.{turn_taken}
use Rattle.run_threads.proofs.item.take_turn.Goals as goal

pub returns-clause-turn : goal.returns-clause-turn
returns-clause-turn g c =
    turn_taken c.args.setup.now c.args.locks.now c.args.seats.now c.handle_at-end.new.seats c.crash_if.new.seats c.args.instance c.args.item c.args.aim c.args.seg c.args.shard c.args.after
    (refused_by c.handle_at-end.result) (end_of c.handle_at-end.result) c.outcome_of.result c.requires.fits c.handle_at-end.ensures.does c.in_ok-crash_if.ensures.made c.outcome_of.ensures
