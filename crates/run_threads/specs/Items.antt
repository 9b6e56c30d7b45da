-- What a worker does at a record: replicas fail before it, the segment is handled where it is the worker's, and the instance
-- crashes.
use Rattle.std.specs.Prelude.{◌≡◌, ◌≢◌, ℕ, ◌%◌, ◌&&◌, ◌==◌, if◌then◌else◌, Option, Some, None, List, [], ◌++◌, ◌⊎◌}
use Rattle.std.specs.List.{flat_map}
use Rattle.bench.specs.Blocks.{CallAt, history, fail_calls, crash_of, crash_after}
use Rattle.bench.specs.Prepared.{prepared_of, IsPrepared}
use Rattle.bench.specs.declared.input.inputs.Inputs.{Inputs}
use Rattle.bench.specs.declared.input.line.Line.{Line}
use Rattle.bench.specs.declared.input.prepared.Prepared.{Prepared}
use Rattle.bench.specs.declared.input.prepared.Prepared.TheVariants.{Ended, Work}
use Rattle.job_core.specs.declared.aim.Aim.{Aim}
use Rattle.job_core.specs.declared.verdict.Verdict.{Verdict}
use Rattle.job_core.specs.declared.verdict.Verdict.TheVariants.{NoMemory}
use Rattle.pcap_file.specs.declared.capture.Frame.{Frame}
use Rattle.rule_table.specs.Setups.{SetupView}
use Rattle.script_text.specs.declared.line.Line.{Line as ScriptLine}
use Rattle.script_text.specs.declared.line.Line.TheVariants.{Give, Crash, Back, Fail}
use Rattle.tcp_segment.specs.declared.segment.Segment.{Segment}
use Rattle.run_threads.specs.Answered.{Answer, calls_in}
use Rattle.run_threads.specs.Handling.{IsHandled}
use Rattle.run_threads.specs.Outcomes.{OutcomeView}

-- ---- the script
-- the replica that a line has fail before a record, where the record's number modulo the instances is the worker's
abbrev pub failing : SetupView → ℕ → ℕ → ScriptLine → Option ℕ
failing setup worker item (Fail replica at) = if at == item && item % setup.instances == worker then Some replica else None
failing setup worker item (Give at instance) = None
failing setup worker item (Crash instance at after) = None
failing setup worker item (Back instance at) = None

abbrev pub fails_of : SetupView → Option ℕ → List CallAt
fails_of setup None = []
fails_of setup (Some replica) = fail_calls setup replica

-- the calls by which a worker lets replicas fail before a record
abbrev pub fails_before : SetupView → ℕ → ℕ → List ScriptLine → List CallAt
fails_before setup worker item lines = flat_map (λ line. fails_of setup (failing setup worker item line)) lines

-- ---- what becomes of a record
abbrev pub line_of : Option ℕ → Verdict → Line
line_of instance verdict = record { instance = instance; verdict = verdict }

-- a handling with this verdict and these segments to send
abbrev pub outcome_of : ℕ → Verdict × List Segment → OutcomeView
outcome_of i end = record { line = line_of (Some i) end.0; outs = end.1 }

-- a record that no instance handles
abbrev pub ended : Verdict → OutcomeView
ended v = record { line = line_of None v; outs = [] }

-- memory was refused before there was anything to handle
abbrev pub unprepared : OutcomeView
unprepared = ended (NoMemory 0)

-- ---- the calls on one shard
-- those of the handling of a segment of this shard, and no others
pub record IsHandledAt (setup : SetupView) (i item : ℕ) (a : Aim) (segment : Segment) (own : ℕ) (after refused : Option ℕ) (end : Verdict × List Segment) (shard : ℕ) (answers : List Answer) : Type 0 where
  pub here : shard ≡ own → IsHandled setup i item a segment after refused end answers
  pub there : shard ≢ own → answers ≡ []

-- those of a handling, and of the crash in it or right after it
pub record IsTurn (setup : SetupView) (i item : ℕ) (a : Aim) (segment : Segment) (own : ℕ) (after : Option ℕ) (outcome : OutcomeView) (shard : ℕ) (answers : List Answer) : Type 0 where
  -- the work is one that the bench of its shard may take
  pub fits : IsPrepared setup (Work a segment i own)
  -- after how many calls memory was refused, if it was
  pub refused : Option ℕ
  pub end : Verdict × List Segment
  pub handling : List Answer
  pub crash : List Answer
  pub are : answers ≡ handling ++ crash
  pub handled : IsHandledAt setup i item a segment own after refused end shard handling
  pub comes_to : outcome ≡ outcome_of i end
  pub crashes : calls_in crash ≡ history shard (crash_of setup i after)

-- those of a worker whose record this is not, or that could not prepare it: of a crash alone
abbrev pub IsPassed : SetupView → ℕ → Option ℕ → ℕ → List Answer → Type 0
IsPassed setup i after shard answers = calls_in answers ≡ history shard (crash_of setup i after)

-- those of a worker whose record this is, of which this was to be done
abbrev pub IsOwn : SetupView → ℕ → ℕ → Prepared → Option ℕ → OutcomeView → ℕ → List Answer → Type 0
IsOwn setup i item (Ended v) after outcome shard answers = (outcome ≡ ended v) × IsPassed setup i after shard answers
IsOwn setup i item (Work a segment instance own) after outcome shard answers =
    ((outcome ≡ unprepared) × IsPassed setup i after shard answers) ⊎ IsTurn setup i item a segment own after outcome shard answers

-- ---- whose a record is
-- the instance that handles the record, if one does
abbrev pub instance_of : Prepared → Option ℕ
instance_of (Ended v) = None
instance_of (Work a segment instance shard) = Some instance

-- the worker among whose items the record counts: that of the instance, or where none handles it the one of the record's
-- number modulo the instances, which has no call for it
abbrev pub owner_by : SetupView → ℕ → Option ℕ → ℕ
owner_by setup item None = item % setup.instances
owner_by setup item (Some instance) = instance

abbrev pub owner : Inputs → ℕ → Frame → ℕ
owner inputs item frame = owner_by inputs.setup item (instance_of (prepared_of inputs item frame))

-- the calls on one shard of a worker, and what becomes of the record where it counts among its items
abbrev pub IsDone : Inputs → ℕ → ℕ → List ScriptLine → Frame → Option OutcomeView → ℕ → List Answer → Type 0
IsDone inputs worker item lines frame None shard answers =
    (owner inputs item frame ≢ worker) × IsPassed inputs.setup worker (crash_after lines worker item) shard answers
IsDone inputs worker item lines frame (Some outcome) shard answers =
    (owner inputs item frame ≡ worker) × IsOwn inputs.setup worker item (prepared_of inputs item frame) (crash_after lines worker item) outcome shard answers

-- all calls on one shard of a worker at a record: first replicas fail
pub record IsItem (inputs : Inputs) (worker item : ℕ) (lines : List ScriptLine) (frame : Frame) (told : Option OutcomeView) (shard : ℕ) (answers : List Answer) : Type 0 where
  pub failed : List Answer
  pub then_made : List Answer
  pub are : answers ≡ failed ++ then_made
  pub fails : calls_in failed ≡ history shard (fails_before inputs.setup worker item lines)
  pub done : IsDone inputs worker item lines frame told shard then_made
