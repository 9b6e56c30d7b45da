use Rattle.run_threads.proofs.Seats.{fresh_crew}
use Rattle.run_threads.proofs.locks.Locks.open.Goals as goal

pub returns : goal.returns
returns c = fresh_crew c.args.setup.now 0 0 c.in_ok-locks.locks.items c.in_ok-locks.seats.items c.in_ok-locks.ensures.locks c.in_ok-locks.ensures.seats
