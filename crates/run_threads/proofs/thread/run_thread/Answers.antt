use Rattle.run_threads.proofs.Seats.{fresh_crew}
use Rattle.run_threads.proofs.thread.run_thread.Goals as goal

pub serve-requires-clause-crew : goal.serve-requires-clause-crew
serve-requires-clause-crew g c =
    let may = c.requires.may in
    fresh_crew c.args.inputs.now.setup _ 0 c.args.locks.now c.args.worker.crew may.locks_are may.seats_are
