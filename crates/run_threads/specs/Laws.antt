-- What the calls of a run's seats are for, and what its journal determines.
use Rattle.std.specs.Prelude.{◌≡◌, ◌⊎◌, ℕ, ◌+◌, ◌%◌, ◌<◌, Contains, List, Some, None, IsSome, Ok, slice_get, slice_index_or}
use Rattle.std.specs.List.{AllByRecursion}
use Rattle.seen_lock.specs.declared.object.Entry.{Entry}
use Rattle.seen_lock.specs.Histories.{calls_by}
use Rattle.bench.specs.Blocks.{crash_after, IsTold}
use Rattle.bench.specs.Fitting.{FitsAgain}
use Rattle.bench.specs.Inputs.{IsInputs}
use Rattle.bench.specs.Prepared.{prepared_of}
use Rattle.bench.specs.declared.call.Call.{Call}
use Rattle.bench.specs.declared.call.Call.TheVariants.{Take, Step, Crash, Fail}
use Rattle.bench.specs.declared.input.inputs.Inputs.{Inputs}
use Rattle.bench.specs.declared.input.line.Line.{Line}
use Rattle.bench.specs.declared.input.prepared.Prepared.{Prepared}
use Rattle.bench.specs.declared.input.prepared.Prepared.TheVariants.{Ended, Work}
use Rattle.job_core.specs.declared.aim.Aim.{Aim}
use Rattle.job_core.specs.declared.verdict.Verdict.{Verdict}
use Rattle.job_core.specs.declared.verdict.Verdict.TheVariants.{Crashed, NoMemory}
use Rattle.journal_text.specs.Journals.{journal_text}
use Rattle.pcap_file.specs.Frames.{capture_of}
use Rattle.pcap_file.specs.declared.capture.Frame.{Frame}
use Rattle.rule_table.specs.Setups.{IsSetup}
use Rattle.script_text.specs.Reading.{reading}
use Rattle.script_text.specs.declared.line.Line.{Line as ScriptLine}
use Rattle.script_text.specs.declared.line.Line.TheVariants as script
use Rattle.tcp_segment.specs.declared.segment.Segment.{Segment}
use Rattle.run_threads.specs.Run.{IsThreadRun}

-- ---- whose call it is
-- What a worker takes on a shard: it is its own instance that takes it, and what it takes is what is to be done there with the
-- record that it names. The segment came in with a packet.
pub record IsOwnTake (inputs : Inputs) (worker shard instance item : ℕ) (aim : Aim) (segment : Segment) : Type 0 where
  pub own : instance ≡ worker
  pub frame : Frame
  pub is_there : slice_get (capture_of inputs.trace).frames item ≡ Some frame
  pub work : prepared_of inputs item frame ≡ Work aim segment instance shard
  pub short : FitsAgain segment

-- A cell that a worker lets fail on a shard: the script has the replica at that place fail before a record whose number modulo
-- the instances is the worker's.
pub record IsOwnFailure (inputs : Inputs) (worker shard place : ℕ) : Type 0 where
  pub replica : ℕ
  pub before : ℕ
  pub line : Contains inputs.script.lines (script.Fail replica before)
  pub own : before % inputs.setup.instances ≡ worker
  pub here : (shard + place) % inputs.setup.replicas ≡ replica

-- the call is one that this worker makes on this shard
abbrev pub IsNamed : Inputs → ℕ → ℕ → Call → Type 0
IsNamed inputs worker shard (Take instance item aim segment) = IsOwnTake inputs worker shard instance item aim segment
IsNamed inputs worker shard (Step instance) = instance ≡ worker
IsNamed inputs worker shard (Crash instance) = instance ≡ worker
IsNamed inputs worker shard (Fail place) = IsOwnFailure inputs worker shard place

-- in each history of a run the calls of the seat with number i + 1 are such ones of worker i
abbrev pub CallsAreNamed : Type 0
CallsAreNamed =
    (inputs : Inputs) (lines : List Line) (outs : List (ℕ × Segment)) (histories : List (List (Entry Call))) → IsThreadRun inputs lines outs histories
    → (worker shard : ℕ) (h : List (Entry Call)) → worker < inputs.setup.instances → shard < inputs.setup.shards
    → AllByRecursion (IsNamed inputs worker shard) (calls_by (worker + 1) (slice_index_or histories shard h))

-- ---- why a record has its line
-- a verdict of the handling table; or the script has the instance crash in this record; or memory was refused
abbrev pub IsCaused : List ScriptLine → ℕ → ℕ → Verdict → Type 0
IsCaused lines item instance verdict =
    IsTold verdict ⊎ ((verdict ≡ Crashed) × IsSome (crash_after lines instance item)) ⊎ ((calls : ℕ) × (verdict ≡ NoMemory calls))

-- a record of which this was to be done: one that ends at once has its verdict, and any other is handled by its instance, or
-- memory was refused before it was
abbrev pub HasCause : Inputs → ℕ → Prepared → Line → Type 0
HasCause inputs item (Ended verdict) line = line ≡ record { instance = None; verdict = verdict }
HasCause inputs item (Work aim segment instance shard) line =
    (line ≡ record { instance = None; verdict = NoMemory 0 }) ⊎ ((line.instance ≡ Some instance) × IsCaused inputs.script.lines item instance line.verdict)

-- so it is with each record of a run
abbrev pub VerdictsAreCaused : Type 0
VerdictsAreCaused =
    (inputs : Inputs) → IsSetup inputs.setup → (lines : List Line) (outs : List (ℕ × Segment)) (histories : List (List (Entry Call))) → IsThreadRun inputs lines outs histories
    → (item : ℕ) (frame : Frame) (line : Line) → slice_get (capture_of inputs.trace).frames item ≡ Some frame → slice_get lines item ≡ Some line
    → HasCause inputs item (prepared_of inputs item frame) line

-- ---- what a journal determines
-- Two runs over the same inputs, of which the script was read from a text, that have one journal have the same histories,
-- entry for entry: the same seats made the same calls, with their aims and segments; and so with the same replies, and the
-- same state of each bench at the end.
abbrev pub JournalDetermines : Type 0
JournalDetermines =
    (inputs : Inputs) → IsInputs inputs → IsSetup inputs.setup → (script : List ℕ) → reading inputs.script.sizes script ≡ Ok inputs.script.lines
    → (lines lines' : List Line) (outs outs' : List (ℕ × Segment)) (h k : List (List (Entry Call))) → IsThreadRun inputs lines outs h → IsThreadRun inputs lines' outs' k
    → journal_text h ≡ journal_text k → h ≡ k
