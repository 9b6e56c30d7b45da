use Rattle.run_threads.proofs.Served.{ahead}
use Rattle.run_threads.proofs.serving.serve_taken.Goals as goal

pub returns-clause-goes_on : goal.returns-clause-goes_on
returns-clause-goes_on g c =
    ahead c.args.inputs.now c.args.worker c.args.locks.now c.args.next c.args.item c.args.seats.now c.serve_gap-2.new.seats c.serve_record.new.seats
    c.args.made.now c.serve_gap-2.new.made c.serve_record.new.made c.if-item-next.false c.in_ok-serve_gap-2.ensures.goes_on c.in_ok-serve_record.ensures.goes_on
