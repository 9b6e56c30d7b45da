-- Whom the calls of a crew name.
use Rattle.std.specs.Prelude.{◌≡◌, ℕ, List}
use Rattle.std.specs.List.{AllByRecursion}
use Rattle.bench.specs.declared.call.Call.{Call}
use Rattle.bench.specs.declared.call.Call.TheVariants.{Take, Step, Crash, Fail}
use Rattle.run_threads.specs.Answered.{Answer}
use Rattle.run_threads.specs.Crews.{CrewDoes}
use Rattle.run_threads.specs.Seats.{BenchLock, BenchSeat}

-- the call names this instance, or none
abbrev pub Names : ℕ → Call → Type 0
Names i (Take instance item aim segment) = instance ≡ i
Names i (Step instance) = instance ≡ i
Names i (Crash instance) = instance ≡ i
Names i (Fail place) = Unit {0}

-- so does each call that the crew has made
abbrev pub CrewNames : ℕ → List BenchLock → List BenchSeat → List BenchSeat → Type 0
CrewNames i locks old new = CrewDoes locks old new (λ shard answers. AllByRecursion (λ (a : Answer). Names i a.0) answers)

-- .. and behind what it had made before, whatever that was
abbrev pub GoesOnNaming : ℕ → List BenchLock → List BenchSeat → List BenchSeat → Type 0
GoesOnNaming i locks old new = (base : List BenchSeat) → CrewNames i locks base old → CrewNames i locks base new
