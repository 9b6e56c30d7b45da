use Rattle.std.proofs.Common.{◌≡◌, ◌≤◌, min}
use Rattle.run_threads.specs.Crews.{IsCrew}
use Rattle.run_threads.specs.Named.{GoesOnNaming}
use Rattle.run_threads.specs.Served.{IsServedTo, counted, least_after}
use Rattle.run_threads.proofs.serving.serve_all.Given as goal

abbrev pub invariant-loop : goal.invariant-loop
invariant-loop g l = record {
  crew : IsCrew l.inputs.setup l.locks l.seats;
  named : GoesOnNaming l.fn.worker l.locks l.fn.seats l.seats;
  inbox : l.taker.inbox ≡ l.fn.taker.inbox;
  within : l.next ≤ l.inputs.records;
  next : l.next ≡ min l.inputs.records (least_after 0 l.taker.taken);
  served : IsServedTo l.inputs l.fn.worker l.next (counted l.inputs l.fn.worker 0 l.taker.taken) l.locks l.fn.seats l.seats l.made;
}
