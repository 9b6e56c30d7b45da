use Rattle.std.proofs.Common.{ℕ}
use Rattle.std.specs.List.{flat_map, range_with_len}
use Rattle.bench.specs.Blocks.{fail_at}
use Rattle.run_threads.specs.Crews.{IsCrew, CrewMakes}
use Rattle.run_threads.specs.Named.{GoesOnNaming}
use Rattle.run_threads.proofs.crew.fail_all.Given as goal

abbrev pub invariant-loop-shard : goal.invariant-loop-shard
invariant-loop-shard g l = record {
  made : CrewMakes l.locks l.fn.seats l.seats (flat_map (fail_at l.setup l.fn.replica) (range_with_len 0 l.shard));
  crew : IsCrew l.setup l.locks l.seats;
  named : (i : ℕ) → GoesOnNaming i l.locks l.fn.seats l.seats;
}
