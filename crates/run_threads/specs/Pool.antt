-- The locks of a run, and the seats that workers get and give back.
use Rattle.std.specs.Prelude.{◌≡◌, ℕ, ◌+◌, ◌-◌, ◌<◌, ◌≤◌, max, List, [], ◌∷◌, ◌++◌, length, map, slice_index_or, Option, Some, None, Contains}
use Rattle.seen_lock.specs.declared.knowledge.Known.{Known}
use Rattle.seen_lock.specs.declared.object.Entry.{Entry}
use Rattle.seen_lock.specs.Histories.{AllAllowed, Begins, calls_by}
use Rattle.seen_lock.specs.Knowledge.{numbers_in}
use Rattle.seen_lock.specs.Seats.{IsSeatOf, AreIn, seen, own_calls, joined_calls, joined_seen}
use Rattle.bench.specs.Bench.{BenchState}
use Rattle.bench.specs.Calls.{IsCall}
use Rattle.bench.specs.declared.call.Call.{Call}
use Rattle.run_threads.specs.Answered.{answered}
use Rattle.bench.specs.Histories.{opening}
use Rattle.bench.specs.declared.input.inputs.Inputs.{Inputs}
use Rattle.rule_table.specs.Setups.{SetupView}
use Rattle.run_threads.specs.Feeding.{own_numbers}
use Rattle.run_threads.specs.Outcomes.{OutcomeView}
use Rattle.run_threads.specs.Run.{made_at}
use Rattle.run_threads.specs.Seats.{BenchLock, BenchSeat, IsAt, answers}
use Rattle.run_threads.specs.Served.{AreBlocks}
use Rattle.run_threads.specs.Work.{numbered}
use Rattle.run_threads.specs.declared.pool.Worker.{Worker}

-- the first so many locks are those of the shards' new benches
pub record AreLocks (setup : SetupView) (count : ℕ) (locks : List BenchLock) : Type 0 where
  pub many : length locks ≡ count
  pub each : (shard : ℕ) (l : BenchLock) → shard < count → (slice_index_or locks shard l).first ≡ opening setup shard

-- a seat of this number that has done nothing and has made so many seats
pub record IsFresh (number made : ℕ) (lock : BenchLock) (s : BenchSeat) : Type 0 where
  pub of : IsSeatOf lock s
  pub number_is : s.number ≡ number
  pub made_is : s.made ≡ made
  pub unseen : seen s ≡ []
  pub idle : own_calls s ≡ []
  pub alone : joined_calls s ≡ []
  pub deaf : joined_seen s ≡ []

-- the first so many seats are such ones, of the locks at their places
pub record AreFresh (number made count : ℕ) (locks : List BenchLock) (seats : List BenchSeat) : Type 0 where
  pub many : length seats ≡ count
  pub each : (shard : ℕ) (l : BenchLock) (s : BenchSeat) → shard < count → IsFresh number made (slice_index_or locks shard l) (slice_index_or seats shard s)

-- the seats with number 0, of which the first so many have made one more seat than this
pub record IsSplit (made done_so_far : ℕ) (locks : List BenchLock) (seats : List BenchSeat) : Type 0 where
  pub many : length seats ≡ length locks
  pub done : (shard : ℕ) (l : BenchLock) (s : BenchSeat) → shard < done_so_far → IsFresh 0 (made + 1) (slice_index_or locks shard l) (slice_index_or seats shard s)
  pub left : (shard : ℕ) (l : BenchLock) (s : BenchSeat) → done_so_far ≤ shard → shard < length locks → IsFresh 0 made (slice_index_or locks shard l) (slice_index_or seats shard s)

-- a worker's seat that comes back
pub record IsReturned (worker : ℕ) (lock : BenchLock) (s : BenchSeat) : Type 0 where
  pub at : IsAt lock s
  pub number_is : s.number ≡ worker + 1
  pub made_is : s.made ≡ 0
  pub alone : joined_calls s ≡ []
  pub deaf : joined_seen s ≡ []

-- a worker's seats that come back, where it has made this of all records that its instance handles
pub record HasWorked (inputs : Inputs) (worker : ℕ) (locks : List BenchLock) (seats : List BenchSeat) (made : List (ℕ × OutcomeView)) : Type 0 where
  pub many : length seats ≡ inputs.setup.shards
  pub outcomes : List (Option OutcomeView)
  pub made_is : made ≡ numbered 0 outcomes
  pub numbers_are : map (λ m. m.0) made ≡ own_numbers inputs worker 0 inputs.frames
  pub returned : (shard : ℕ) (l : BenchLock) (s : BenchSeat) → shard < inputs.setup.shards → IsReturned worker (slice_index_or locks shard l) (slice_index_or seats shard s)
  pub blocks : (shard : ℕ) (l : BenchLock) (s : BenchSeat) → shard < inputs.setup.shards
      → AreBlocks inputs worker 0 inputs.frames outcomes shard (answers (slice_index_or locks shard l) (slice_index_or seats shard s))

-- a worker's number and its seats
pub record IsCrewOf (shards worker : ℕ) (locks : List BenchLock) (crew : Worker) : Type 0 where
  pub worker_is : crew.worker ≡ worker
  pub seats_are : AreFresh (worker + 1) 0 shards locks crew.crew

-- the crews of the first so many workers
pub record AreCrews (shards count : ℕ) (locks : List BenchLock) (crews : List Worker) : Type 0 where
  pub many : length crews ≡ count
  pub each : (worker : ℕ) (c : Worker) → worker < count → IsCrewOf shards worker locks (slice_index_or crews worker c)

-- a seat with number 0, which has made one for each instance, and into which those of the workers from this one on were
-- joined
pub record HasJoined (instances from : ℕ) (lock : BenchLock) (s : BenchSeat) : Type 0 where
  pub of : IsSeatOf lock s
  pub number_is : s.number ≡ 0
  pub made_is : s.made ≡ instances
  pub idle : own_calls s ≡ []
  pub answers_for : (worker : ℕ) → from ≤ worker → worker < instances → Contains (numbers_in (joined_calls s)) (worker + 1)

-- what the seats that were joined into this one tell of a history holds of it
pub record Fits (s : BenchSeat) (history : List (Entry Call)) : Type 0 where
  pub listed : AreIn history (joined_calls s)
  pub heard : (h : List (Entry Call)) → Contains (joined_seen s) h → Begins history h

-- a worker has made this: in each history that its seats fit its calls are the blocks of its items
pub record HasTold (inputs : Inputs) (worker : ℕ) (first : List BenchSeat) (made : List (ℕ × OutcomeView)) : Type 0 where
  pub outcomes : List (Option OutcomeView)
  pub made_is : made ≡ numbered 0 outcomes
  pub numbers_are : map (λ m. m.0) made ≡ own_numbers inputs worker 0 inputs.frames
  pub blocks : (shard : ℕ) (l : BenchLock) (s : BenchSeat) → shard < inputs.setup.shards → (history : List (Entry Call)) → Fits (slice_index_or first shard s) history
      → AreBlocks inputs worker 0 inputs.frames outcomes shard (answered (worker + 1) (opening inputs.setup shard) history)

-- the seats of the workers from this one on were joined into these, and this is what these workers made, the last one's first
pub record AreJoined (inputs : Inputs) (from : ℕ) (locks : List BenchLock) (first : List BenchSeat) (all : List (List (ℕ × OutcomeView))) : Type 0 where
  pub many : length all + from ≡ inputs.setup.instances
  pub seats_many : length first ≡ inputs.setup.shards
  pub seats : (shard : ℕ) (l : BenchLock) (s : BenchSeat) → shard < inputs.setup.shards → HasJoined inputs.setup.instances from (slice_index_or locks shard l) (slice_index_or first shard s)
  pub workers : (worker : ℕ) (d : List (ℕ × OutcomeView)) → from ≤ worker → worker < inputs.setup.instances
      → HasTold inputs worker first (made_at inputs all worker d)

-- another seat was joined into this one
pub record IsJoin (lock : BenchLock) (old other new : BenchSeat) : Type 0 where
  pub of : IsSeatOf lock new
  pub number_is : new.number ≡ old.number
  pub made_is : new.made ≡ max old.made other.made
  pub own_is : own_calls new ≡ own_calls old
  pub joined_are : joined_calls new ≡ joined_calls old ++ (other.number, own_calls other) ∷ joined_calls other
  pub heard_are : joined_seen new ≡ joined_seen old ++ seen other ∷ joined_seen other

-- from this shard on, these seats were joined into the first ones
pub record JoinsFrom (from : ℕ) (locks : List BenchLock) (old new : List BenchSeat) (seats : List BenchSeat) : Type 0 where
  pub many : length new ≡ length old
  pub done : (shard : ℕ) (l : BenchLock) (s : BenchSeat) → from ≤ shard → shard < length locks
      → IsJoin (slice_index_or locks shard l) (slice_index_or old shard s) (slice_index_or seats shard s) (slice_index_or new shard s)
  pub left : (shard : ℕ) (s : BenchSeat) → shard < from → slice_index_or new shard s ≡ slice_index_or old shard s

-- a seat of each of these locks
pub record AreSeats (locks : List BenchLock) (seats : List BenchSeat) : Type 0 where
  pub many : length seats ≡ length locks
  pub each : (shard : ℕ) (l : BenchLock) (s : BenchSeat) → shard < length locks → IsSeatOf (slice_index_or locks shard l) (slice_index_or seats shard s)

-- all calls of the history were allowed, as the bench stood when the seat's lock was made
abbrev pub IsLegalFor : Option (Known BenchState Call) → List (Entry Call) → Type 0
IsLegalFor None history = ⊥
IsLegalFor (Some k) history = AllAllowed (λ b c. IsCall b.setup b.shard c) k.first history

-- the history of a lock that was closed with this seat: what the joined seats tell holds of it, no other seat has calls, and
-- all calls were allowed
pub record IsHistory (instances : ℕ) (s : BenchSeat) (history : List (Entry Call)) : Type 0 where
  pub fits : Fits s history
  pub zero_none : calls_by 0 history ≡ []
  pub nobody_else : (n : ℕ) → instances < n → calls_by n history ≡ []
  pub legal : IsLegalFor s.view history

-- the histories of the shards from this one on
pub record AreHistories (instances shards from : ℕ) (first : List BenchSeat) (histories : List (List (Entry Call))) : Type 0 where
  pub many : length histories + from ≡ shards
  pub each : (shard : ℕ) (s : BenchSeat) (h : List (Entry Call)) → from ≤ shard → shard < shards → IsHistory instances (slice_index_or first shard s) (slice_index_or histories (shard - from) h)

-- all workers' seats were joined into these
pub record AllIn (instances shards : ℕ) (locks : List BenchLock) (first : List BenchSeat) : Type 0 where
  pub locks_many : length locks ≡ shards
  pub seats_many : length first ≡ shards
  pub each : (shard : ℕ) (l : BenchLock) (s : BenchSeat) → shard < shards → HasJoined instances 0 (slice_index_or locks shard l) (slice_index_or first shard s)
