-- What a worker does that is fed the numbers of its records: which of them it handles, and its calls.
use Rattle.std.specs.Prelude.{◌≡◌, ℕ, ◌+◌, max, Bool, false, ◌==◌, ◌&&◌, nat_le, if◌then◌else◌, Option, Some, None, List, [], ◌∷◌, ◌++◌, length, map, take, slice_get}
use Rattle.std.specs.List.{filter}
use Rattle.std.specs.Option.{option_map_or}
use Rattle.bench.specs.Blocks.{history, crash_after}
use Rattle.bench.specs.Prepared.{prepared_of}
use Rattle.bench.specs.declared.input.inputs.Inputs.{Inputs}
use Rattle.pcap_file.specs.declared.capture.Frame.{Frame}
use Rattle.script_text.specs.declared.line.Line.{Line as ScriptLine}
use Rattle.run_threads.specs.Answered.{Answer, calls_in}
use Rattle.run_threads.specs.Crews.{CrewDoes}
use Rattle.run_threads.specs.Due.{is_due}
use Rattle.run_threads.specs.Items.{IsPassed, IsOwn, fails_before, instance_of}
use Rattle.run_threads.specs.Outcomes.{OutcomeView}
use Rattle.run_threads.specs.Seats.{BenchLock, BenchSeat}
use Rattle.run_threads.specs.Work.{numbered}

-- ---- which numbers count
abbrev pub is_instance : ℕ → Option ℕ → Bool
is_instance worker None = false
is_instance worker (Some instance) = instance == worker

-- the worker's instance handles the record with this number and this frame
abbrev pub is_work : Inputs → ℕ → ℕ → Frame → Bool
is_work inputs worker item frame = is_instance worker (instance_of (prepared_of inputs item frame))

-- .. the record with this number, if there is one
abbrev pub is_record : Inputs → ℕ → ℕ → Bool
is_record inputs worker item = option_map_or (is_work inputs worker item) (slice_get inputs.frames item) false

-- of numbers that are taken one after the other those that count, where none below this one does: a number counts that is above
-- all that were taken before it, and is one of a record that the worker's instance handles
abbrev pub counted : Inputs → ℕ → ℕ → List ℕ → List ℕ
counted inputs worker least [] = []
counted inputs worker least (item ∷ taken) =
    (if nat_le least item && is_record inputs worker item then item ∷ [] else []) ++ counted inputs worker (max least (item + 1)) taken

-- the least number that counts after these
abbrev pub least_after : ℕ → List ℕ → ℕ
least_after least [] = least
least_after least (item ∷ taken) = least_after (max least (item + 1)) taken

-- ---- the calls on one shard
-- those of a worker that handles the record, where it tells of it, and else of a crash alone
abbrev pub IsHandledOrPassed : Inputs → ℕ → ℕ → List ScriptLine → Frame → Option OutcomeView → ℕ → List Answer → Type 0
IsHandledOrPassed inputs worker item lines frame None shard answers = IsPassed inputs.setup worker (crash_after lines worker item) shard answers
IsHandledOrPassed inputs worker item lines frame (Some outcome) shard answers =
    IsOwn inputs.setup worker item (prepared_of inputs item frame) (crash_after lines worker item) outcome shard answers

-- all those of a worker at a record: first replicas fail
pub record IsBlock (inputs : Inputs) (worker item : ℕ) (lines : List ScriptLine) (frame : Frame) (told : Option OutcomeView) (shard : ℕ) (answers : List Answer) : Type 0 where
  pub failed : List Answer
  pub then_made : List Answer
  pub are : answers ≡ failed ++ then_made
  pub fails : calls_in failed ≡ history shard (fails_before inputs.setup worker item lines)
  pub done : IsHandledOrPassed inputs worker item lines frame told shard then_made

-- those for these records, whose numbers begin with n, one after the other
abbrev pub AreBlocks : Inputs → ℕ → ℕ → List Frame → List (Option OutcomeView) → ℕ → List Answer → Type 0
AreBlocks inputs worker n [] [] shard answers = answers ≡ []
AreBlocks inputs worker n (frame ∷ frames) (told ∷ outcomes) shard answers =
    (first : List Answer) × (later : List Answer) × (answers ≡ first ++ later)
    × IsBlock inputs worker n (filter (is_due n) inputs.script.lines) frame told shard first
    × AreBlocks inputs worker (n + 1) frames outcomes shard later
AreBlocks inputs worker n _ _ shard answers = ⊥

-- ---- all that a worker does
-- Of the first n records the worker has told this, which names the records with these numbers and no others, and on each lock its
-- seat's calls are the blocks of its items, behind those from before.
pub record IsServedTo (inputs : Inputs) (worker n : ℕ) (numbers : List ℕ) (locks : List BenchLock) (old new : List BenchSeat) (made : List (ℕ × OutcomeView)) : Type 0 where
  pub outcomes : List (Option OutcomeView)
  pub many : length outcomes ≡ n
  pub made_are : made ≡ numbered 0 outcomes
  pub numbers_are : map (λ m. m.0) made ≡ numbers
  pub does : CrewDoes locks old new (AreBlocks inputs worker 0 (take n inputs.frames) outcomes)

-- .. of all records, those whose numbers count among those that it took
abbrev pub IsServed : Inputs → ℕ → List ℕ → List BenchLock → List BenchSeat → List BenchSeat → List (ℕ × OutcomeView) → Type 0
IsServed inputs worker taken locks old new made =
    IsServedTo inputs worker (length inputs.frames) (counted inputs worker 0 taken) locks old new made

-- ---- words of proofs
-- what was done up to n goes on up to m, and tells of the records with these numbers
abbrev pub GoesOnServing : Inputs → ℕ → ℕ → ℕ → List ℕ → List BenchLock → List BenchSeat → List BenchSeat → List (ℕ × OutcomeView) → List (ℕ × OutcomeView) → Type 0
GoesOnServing inputs worker n m more locks old new made made' =
    (base : List BenchSeat) (numbers : List ℕ) → IsServedTo inputs worker n numbers locks base old made → IsServedTo inputs worker m (numbers ++ more) locks base new made'

-- a record's number, where this says so
abbrev pub if_counts : Bool → ℕ → List ℕ
if_counts counts item = if counts then item ∷ [] else []
