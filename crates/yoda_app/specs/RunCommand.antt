-- The command `run`: a worker for each instance handles the records of a trace, in threads, and what is sent, what became of
-- each record, and the calls of each shard's bench are written.
use Rattle.std.specs.Prelude.{◌≡◌, ℕ, ◌+◌, ◌<◌, Some, Ok, List, [], ◌∷◌, map, slice_get, slice_index_or, IfOk}
use Rattle.std.specs.List.{AllByRecursion}
use Rattle.std.specs.Result.{result_err}
use Rattle.bench.specs.Forwarding.{ForwardingLaws}
use Rattle.bench.specs.JobLaws.{JobLaws}
use Rattle.bench.specs.Laws.{StoreLaws}
use Rattle.bench.specs.MoveLaws.{MoveLaws}
use Rattle.bench.specs.Prepared.{prepared_of}
use Rattle.bench.specs.declared.call.Call.{Call}
use Rattle.bench.specs.declared.input.inputs.Inputs.{Inputs}
use Rattle.bench.specs.declared.input.line.Line.{Line}
use Rattle.journal_text.specs.Journals.{journal_text}
use Rattle.pcap_file.specs.Frames.{capture_of}
use Rattle.pcap_file.specs.declared.capture.Frame.{Frame}
use Rattle.plain_run.specs.Judgement.{judged}
use Rattle.rule_table.specs.Setups.{SetupView}
use Rattle.run_threads.specs.Laws.{IsNamed, HasCause}
use Rattle.run_threads.specs.Run.{IsThreadRun}
use Rattle.seen_lock.specs.Histories.{calls_by}
use Rattle.seen_lock.specs.declared.object.Entry.{Entry}
use Rattle.tcp_segment.specs.declared.segment.Segment.{Segment}
use Rattle.world_model.specs.Headline.{Headline}
use Rattle.yoda_app.specs.Commands.{Command}
use Rattle.yoda_app.specs.Outs.{outs_text}
use Rattle.yoda_app.specs.Reports.{report_text}
use Rattle.yoda_app.specs.RunWords.{RunPaths, given_paths, run_paths}
use Rattle.yoda_app.specs.declared.run_words.RunNames.{RunNames}

-- the history of a shard, of these
abbrev pub history_on : List (List (Entry Call)) → ℕ → List (Entry Call)
history_on histories shard = slice_index_or histories shard []

-- its calls
abbrev pub calls_on : List (List (Entry Call)) → ℕ → List Call
calls_on histories shard = map (λ e. e.call) (history_on histories shard)

-- why each record has its line: its frame, its segment or the script says so, or the handling table, or memory was refused
abbrev pub AreCaused : Inputs → List Line → Type 0
AreCaused inputs lines =
    (item : ℕ) (frame : Frame) (line : Line) → slice_get (capture_of inputs.trace).frames item ≡ Some frame → slice_get lines item ≡ Some line
    → HasCause inputs item (prepared_of inputs item frame) line

-- what each call of a worker's seat is for
abbrev pub AreNamed : Inputs → List (List (Entry Call)) → Type 0
AreNamed inputs histories =
    (worker shard : ℕ) → worker < inputs.setup.instances → shard < inputs.setup.shards
    → AllByRecursion (IsNamed inputs worker shard) (calls_by (worker + 1) (history_on histories shard))

-- A journal, with the files that it is of, determines the histories: there are no others of a run over the same inputs that
-- have it.
abbrev pub IsDetermined : Inputs → List (List (Entry Call)) → Type 0
IsDetermined inputs histories =
    (rules script : List ℕ) → judged rules inputs.trace script ≡ Ok inputs
    → (lines : List Line) (outs : List (ℕ × Segment)) (others : List (List (Entry Call))) → IsThreadRun inputs lines outs others
    → journal_text others ≡ journal_text histories → others ≡ histories

-- what holds of every history of calls that may be made of a shard's bench
pub record BenchLaws (setup : SetupView) (shard : ℕ) : Type 0 where
  pub store : StoreLaws setup shard
  pub jobs : JobLaws setup shard
  pub moves : MoveLaws setup shard
  pub forwarding : ForwardingLaws setup shard

-- these are the texts of a run in threads: the capture of what is sent in it, its report, and the journal of its histories
pub record AreRunTexts (inputs : Inputs) (texts : List (List ℕ)) : Type 0 where
  pub lines : List Line
  pub outs : List (ℕ × Segment)
  pub histories : List (List (Entry Call))
  pub run : IsThreadRun inputs lines outs histories
  pub are : texts ≡ outs_text (capture_of inputs.trace).frames outs ∷ report_text lines outs ∷ journal_text histories ∷ []
  -- and with it what holds of every run in threads
  pub caused : AreCaused inputs lines
  pub named : AreNamed inputs histories
  pub determined : IsDetermined inputs histories
  -- .. of the calls of each history, which may all be made
  pub laws : (shard : ℕ) → BenchLaws inputs.setup shard
  -- .. and of these calls together: in each world whose benches had them, streams agree, and what is acknowledged is backed
  pub headline : Headline inputs.setup (calls_on histories)

-- the command over these names
abbrev pub run_over : RunPaths → Command
run_over p = record {
  inputs = p.plain.rules ∷ p.plain.trace ∷ p.plain.script ∷ [];
  outputs = p.plain.out ∷ p.plain.report ∷ p.journal ∷ [];
  refusal = λ holds. result_err (judged (holds p.plain.rules) (holds p.plain.trace) (holds p.plain.script));
  Gives = λ holds texts. IfOk (judged (holds p.plain.rules) (holds p.plain.trace) (holds p.plain.script)) (λ inputs. AreRunTexts inputs texts);
}

abbrev pub run_of : RunNames → Command
run_of names = run_over (given_paths names)

-- the command that the words give
abbrev pub run_command : List (List ℕ) → Command
run_command words = run_over (run_paths words)
