-- A run in threads: what its histories are, and what is told of the records.
use Rattle.std.specs.Prelude.{◌≡◌, ℕ, ◌+◌, ◌-◌, ◌*◌, ◌<◌, ◌≤◌, ◌==◌, ◌⊎◌, if◌then◌else◌, is_some, Option, Some, None, List, [], ◌∷◌, ◌++◌, length, map, reverse, slice_index_or}
use Rattle.seen_lock.specs.declared.object.Entry.{Entry}
use Rattle.seen_lock.specs.Histories.{calls_by}
use Rattle.bench.specs.Calls.{AreCalls}
use Rattle.bench.specs.Histories.{opening}
use Rattle.bench.specs.declared.call.Call.{Call}
use Rattle.bench.specs.declared.input.inputs.Inputs.{Inputs}
use Rattle.bench.specs.declared.input.line.Line.{Line}
use Rattle.bench.specs.Prepared.{prepared_of}
use Rattle.bench.specs.declared.input.prepared.Prepared.{Prepared}
use Rattle.bench.specs.declared.input.prepared.Prepared.TheVariants.{Ended, Work}
use Rattle.pcap_file.specs.Frames.{capture_of}
use Rattle.pcap_file.specs.declared.capture.Frame.{Frame}
use Rattle.tcp_segment.specs.declared.segment.Segment.{Segment}
use Rattle.run_threads.specs.Answered.{answered}
use Rattle.run_threads.specs.Feeding.{own_numbers}
use Rattle.run_threads.specs.Items.{owner, ended}
use Rattle.run_threads.specs.Served.{is_work, AreBlocks}
use Rattle.run_threads.specs.Work.{AreItems, numbered}
use Rattle.run_threads.specs.Outcomes.{OutcomeView}
use Rattle.run_threads.specs.Sent.{numbered_outs}

-- what becomes of those of these records that count among a worker's items, where this becomes of all; their numbers begin with n
abbrev pub told_by : Inputs → ℕ → ℕ → List Frame → List OutcomeView → List (Option OutcomeView)
told_by inputs worker n (frame ∷ frames) (o ∷ outcomes) =
    (if owner inputs n frame == worker then Some o else None) ∷ told_by inputs worker (n + 1) frames outcomes
told_by inputs worker n _ _ = []

-- what is sent for these records, each segment with the number of its record
abbrev pub outs_of : ℕ → List OutcomeView → List (ℕ × Segment)
outs_of n [] = []
outs_of n (o ∷ outcomes) = numbered_outs n o.outs ++ outs_of (n + 1) outcomes

-- These are the lines of a run, what is sent in it, and the history of each shard. In each history the entries of the seat
-- with number i + 1 are the calls for worker i's items, in their order, with what becomes of its records by their replies
-- there; no other seat has entries; and all calls may be made of the shard's bench, so that what holds of each such history of
-- a bench holds of these.
pub record IsThreadRun (inputs : Inputs) (lines : List Line) (outs : List (ℕ × Segment)) (histories : List (List (Entry Call))) : Type 0 where
  -- what becomes of each record
  pub outcomes : List OutcomeView
  pub records : length outcomes ≡ length (capture_of inputs.trace).frames
  pub line : lines ≡ map (λ o. o.line) outcomes
  pub sent : outs ≡ outs_of 0 outcomes
  pub shards : length histories ≡ inputs.setup.shards
  pub items : (worker shard : ℕ) (h : List (Entry Call)) → worker < inputs.setup.instances → shard < inputs.setup.shards
      → AreItems inputs worker 0 (capture_of inputs.trace).frames (told_by inputs worker 0 (capture_of inputs.trace).frames outcomes) shard
      (answered (worker + 1) (opening inputs.setup shard) (slice_index_or histories shard h))
  pub nobody_else : (seat shard : ℕ) (h : List (Entry Call)) → (seat ≡ 0) ⊎ (inputs.setup.instances < seat) → shard < inputs.setup.shards
      → calls_by seat (slice_index_or histories shard h) ≡ []
  pub legal : (shard : ℕ) (h : List (Entry Call)) → shard < inputs.setup.shards → AreCalls inputs.setup shard (map (λ e. e.call) (slice_index_or histories shard h))

-- ---- before what the workers made is put into one list
-- what workers made, the last one's first: this is what a worker made
abbrev pub made_at : Inputs → List (List (ℕ × OutcomeView)) → ℕ → List (ℕ × OutcomeView) → List (ℕ × OutcomeView)
made_at inputs all worker d = slice_index_or all (inputs.setup.instances - 1 - worker) d

-- a worker has made this, and its calls in the histories are the blocks of its items
pub record WorkerDone (inputs : Inputs) (worker : ℕ) (made : List (ℕ × OutcomeView)) (histories : List (List (Entry Call))) : Type 0 where
  pub outcomes : List (Option OutcomeView)
  pub made_is : made ≡ numbered 0 outcomes
  pub numbers_are : map (λ m. m.0) made ≡ own_numbers inputs worker 0 (capture_of inputs.trace).frames
  pub blocks : (shard : ℕ) (h : List (Entry Call)) → shard < inputs.setup.shards
      → AreBlocks inputs worker 0 (capture_of inputs.trace).frames outcomes shard (answered (worker + 1) (opening inputs.setup shard) (slice_index_or histories shard h))

-- all workers have, and no other seat has entries
pub record AreDone (inputs : Inputs) (all : List (List (ℕ × OutcomeView))) (histories : List (List (Entry Call))) : Type 0 where
  pub workers_many : length all ≡ inputs.setup.instances
  pub shards_many : length histories ≡ inputs.setup.shards
  pub workers : (worker : ℕ) (d : List (ℕ × OutcomeView)) → worker < inputs.setup.instances → WorkerDone inputs worker (made_at inputs all worker d) histories
  pub nobody_else : (seat shard : ℕ) (h : List (Entry Call)) → (seat ≡ 0) ⊎ (inputs.setup.instances < seat) → shard < inputs.setup.shards
      → calls_by seat (slice_index_or histories shard h) ≡ []
  pub legal : (shard : ℕ) (h : List (Entry Call)) → shard < inputs.setup.shards → AreCalls inputs.setup shard (map (λ e. e.call) (slice_index_or histories shard h))

-- ---- what the workers made, put into one list
-- the worker has told of these records, whose numbers begin with n: of those that its instance handles, and of no others
abbrev pub Shares : Inputs → ℕ → ℕ → List Frame → List (Option OutcomeView) → Type 0
Shares inputs worker n [] [] = Unit {0}
Shares inputs worker n (frame ∷ frames) (told ∷ outcomes) = (is_some told ≡ is_work inputs worker n frame) × Shares inputs worker (n + 1) frames outcomes
Shares inputs worker n _ _ = ⊥

-- this is what a worker made, of its own records alone
abbrev pub IsMade : Inputs → ℕ → List Frame → List (ℕ × OutcomeView) → List (Option OutcomeView) → Type 0
IsMade inputs worker frames made outcomes = (made ≡ numbered 0 outcomes) × Shares inputs worker 0 frames outcomes

-- each worker has made some
pub record AreMade (inputs : Inputs) (frames : List Frame) (all : List (List (ℕ × OutcomeView))) : Type 0 where
  pub many : length all ≡ inputs.setup.instances
  pub each : (worker : ℕ) (d : List (ℕ × OutcomeView)) → worker < inputs.setup.instances → (outcomes : List (Option OutcomeView)) × IsMade inputs worker frames (made_at inputs all worker d) outcomes

-- this becomes of a record that is to be prepared so: its verdict where it has one, and what its worker told
abbrev pub IsOutcome : ℕ → Prepared → Option OutcomeView → OutcomeView → Type 0
IsOutcome worker (Ended v) told outcome = outcome ≡ ended v
IsOutcome worker (Work a segment instance shard) told outcome = instance ≡ worker → told ≡ Some outcome

-- .. of these records
abbrev pub AreOutcomes : Inputs → ℕ → ℕ → List Frame → List (Option OutcomeView) → List OutcomeView → Type 0
AreOutcomes inputs worker n [] [] [] = Unit {0}
AreOutcomes inputs worker n (frame ∷ frames) (told ∷ outcomes) (result ∷ results) =
    IsOutcome worker (prepared_of inputs n frame) told result × AreOutcomes inputs worker (n + 1) frames outcomes results
AreOutcomes inputs worker n _ _ _ = ⊥

-- this becomes of all records, of which each worker has told its own
abbrev pub AreMerged : Inputs → List Frame → List (List (ℕ × OutcomeView)) → List OutcomeView → Type 0
AreMerged inputs frames all results =
    (worker : ℕ) (d : List (ℕ × OutcomeView)) (outcomes : List (Option OutcomeView)) → worker < inputs.setup.instances → IsMade inputs worker frames (made_at inputs all worker d) outcomes → AreOutcomes inputs worker 0 frames outcomes results

-- these lines and what was sent are what the workers made, put into one list
pub record IsMerged (inputs : Inputs) (frames : List Frame) (all : List (List (ℕ × OutcomeView))) (lines : List Line) (outs : List (ℕ × Segment)) : Type 0 where
  pub outcomes : List OutcomeView
  pub count : length outcomes ≡ length frames
  pub line : lines ≡ map (λ o. o.line) outcomes
  pub sent : outs ≡ outs_of 0 outcomes
  pub merged : AreMerged inputs frames all outcomes

-- .. and so, where they stand the other way round, the last record's line and its last segment first: no record has more than
-- eleven segments
pub record AreGathered (inputs : Inputs) (frames : List Frame) (all : List (List (ℕ × OutcomeView))) (lines : List Line) (outs : List (ℕ × Segment)) : Type 0 where
  pub outcomes : List OutcomeView
  pub count : length outcomes ≡ length frames
  pub line : lines ≡ reverse (map (λ o. o.line) outcomes)
  pub sent : outs ≡ reverse (outs_of 0 outcomes)
  pub few : length outs ≤ 11 * length frames
  pub merged : AreMerged inputs frames all outcomes
