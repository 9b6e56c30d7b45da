-- The workers of a run as its caller has them: a thread with its inbox, or, where no thread could be made, what the caller
-- itself has done for it.
use Rattle.std.specs.Prelude.{◌≡◌, ℕ, ◌+◌, ◌<◌, ◌≤◌, false, IsTrue, List, [], length, take, slice_index_or}
use Rattle.std.specs.List.{filter}
use Rattle.atomic_table.specs.Seated.{TableId}
use Rattle.bench.specs.Inputs.{IsInputs}
use Rattle.bench.specs.declared.input.inputs.Inputs.{Inputs}
use Rattle.inbox.specs.Inboxes.{TakerView}
use Rattle.run_threads.specs.Crews.{IsCrew}
use Rattle.run_threads.specs.Due.{due_at, is_due}
use Rattle.run_threads.specs.Feeding.{own_numbers}
use Rattle.run_threads.specs.Outcomes.{OutcomeView}
use Rattle.run_threads.specs.Owners.{AreOwners}
use Rattle.run_threads.specs.Pool.{AreLocks, AreFresh, AreCrews}
use Rattle.run_threads.specs.Seats.{BenchLock, BenchSeat}
use Rattle.run_threads.specs.Served.{IsServed, IsServedTo}
use Rattle.run_threads.specs.declared.thread.Back.{Back}
use Rattle.run_threads.specs.declared.handle.Fed.{Fed}
use Rattle.run_threads.specs.declared.handle.Handle.{Handle}
use Rattle.run_threads.specs.declared.handle.Handle.TheVariants.{Thread, Caller, NoMemory as NoHandle}
use Rattle.run_threads.specs.declared.handle.Kept.{Kept}
use Rattle.run_threads.specs.declared.thread.Served.{Served}
use Rattle.run_threads.specs.declared.thread.Served.TheVariants.{NotBegun, NoMemory, Made}
use Rattle.run_threads.specs.declared.owner.Owner.{Owner}
use Rattle.run_threads.specs.declared.pool.Worker.{Worker}

-- what is wanted of the inputs, the locks and a worker's seats
pub record MayBegin (inputs : Inputs) (locks : List BenchLock) (worker : Worker) : Type 0 where
  pub inputs_are : IsInputs inputs
  pub locks_are : AreLocks inputs.setup inputs.setup.shards locks
  pub worker_is : worker.worker < inputs.setup.instances
  pub seats_are : AreFresh (worker.worker + 1) 0 inputs.setup.shards locks worker.crew

-- .. of the inputs, the locks, whose the records are, all workers' seats, and the first ones
pub record MayFeed (inputs : Inputs) (locks : List BenchLock) (owners : List Owner) (workers : List Worker) (first : List BenchSeat) : Type 0 where
  pub inputs_are : IsInputs inputs
  pub locks_are : AreLocks inputs.setup inputs.setup.shards locks
  pub owners_are : AreOwners inputs inputs.frames owners
  pub workers_are : AreCrews inputs.setup.shards inputs.setup.instances locks workers
  pub first_are : AreFresh 0 inputs.setup.instances inputs.setup.shards locks first

-- ---- what a worker's thread gives back
-- from new seats on, this was made of the numbers that were taken
pub record HasServed (inputs : Inputs) (worker : ℕ) (taken : List ℕ) (locks : List BenchLock) (seats : List BenchSeat) (made : List (ℕ × OutcomeView)) : Type 0 where
  pub base : List BenchSeat
  pub fresh : AreFresh (worker + 1) 0 inputs.setup.shards locks base
  pub served : IsServed inputs worker taken locks base seats made

abbrev pub IsWhatServed : Inputs → ℕ → List BenchLock → List BenchSeat → TakerView ℕ → Served → Type 0
IsWhatServed inputs worker locks seats taker NotBegun = AreFresh (worker + 1) 0 inputs.setup.shards locks seats × (taker.taken ≡ [])
IsWhatServed inputs worker locks seats taker NoMemory = IsTrue taker.ended
IsWhatServed inputs worker locks seats taker (Made made) = IsTrue taker.ended × HasServed inputs worker taker.taken locks seats made

pub record IsBack (inputs : Inputs) (worker : ℕ) (locks : List BenchLock) (inbox : TableId) (back : Back) : Type 0 where
  pub inbox_is : back.taker.inbox ≡ inbox
  pub served_is : IsWhatServed inputs worker locks back.crew back.taker back.served

-- ---- the caller's side, at the record with number n
-- the thread was given the numbers of its records before this one
pub record IsFed (inputs : Inputs) (worker n : ℕ) (locks : List BenchLock) (fed : Fed) : Type 0 where
  pub inputs_are : fed.thread.promise.inputs.now ≡ inputs
  pub locks_are : fed.thread.promise.locks.now ≡ locks
  pub worker_is : fed.thread.promise.worker ≡ worker
  pub inbox_is : fed.thread.promise.taker.value.inbox ≡ fed.giver.inbox
  pub given : fed.giver.given ≡ own_numbers inputs worker 0 (take n inputs.frames)

-- the caller has done the items of the worker up to a record that is not behind this one, its own records among them
pub record IsKept (inputs : Inputs) (worker n : ℕ) (locks : List BenchLock) (kept : Kept) : Type 0 where
  pub next : kept.next ≤ n
  pub due : (item : ℕ) → item < inputs.records → due_at kept.due item ≡ filter (is_due item) inputs.script.lines
  pub crew : IsCrew inputs.setup locks kept.crew
  pub base : List BenchSeat
  pub fresh : AreFresh (worker + 1) 0 inputs.setup.shards locks base
  pub served : IsServedTo inputs worker kept.next (own_numbers inputs worker 0 (take n inputs.frames)) locks base kept.crew kept.made

-- Nothing is known of one for which there was no memory.
abbrev pub IsHandle : Inputs → ℕ → ℕ → List BenchLock → Handle → Type 0
IsHandle inputs worker n locks (Thread fed) = IsFed inputs worker n locks fed
IsHandle inputs worker n locks (Caller kept) = IsKept inputs worker n locks kept
IsHandle inputs worker n locks NoHandle = Unit {0}

-- the end was not given to its inbox, if it has one
abbrev pub IsOpen : Handle → Type 0
IsOpen (Thread fed) = fed.giver.ended ≡ false
IsOpen (Caller kept) = Unit {0}
IsOpen NoHandle = Unit {0}

-- so many handles, of the workers at their places
pub record AreHandles (inputs : Inputs) (n : ℕ) (locks : List BenchLock) (handles : List Handle) : Type 0 where
  pub many : length handles ≡ inputs.setup.instances
  pub each : (worker : ℕ) (h : Handle) → worker < inputs.setup.instances → IsHandle inputs worker n locks (slice_index_or handles worker h)

abbrev pub AreOpen : List Handle → Type 0
AreOpen handles = (worker : ℕ) (h : Handle) → worker < length handles → IsOpen (slice_index_or handles worker h)
