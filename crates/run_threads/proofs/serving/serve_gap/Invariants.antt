use Rattle.std.proofs.Common.{[]}
use Rattle.run_threads.specs.Crews.{IsCrew}
use Rattle.run_threads.specs.Named.{GoesOnNaming}
use Rattle.run_threads.specs.Served.{GoesOnServing}
use Rattle.run_threads.proofs.serving.serve_gap.Given as goal

abbrev pub invariant-loop-item : goal.invariant-loop-item
invariant-loop-item g l = record {
  crew : IsCrew l.inputs.setup l.locks l.seats;
  named : GoesOnNaming l.fn.worker l.locks l.fn.seats l.seats;
  goes : GoesOnServing l.inputs l.fn.worker l.fn.from l.item [] l.locks l.fn.seats l.seats l.fn.made l.made;
}
