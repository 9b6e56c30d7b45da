-- The command `plain`: the records of a trace are handled one after the other, and what is sent and what became of each
-- record is written.
use Rattle.std.specs.Prelude.{◌≡◌, ℕ, List, [], ◌∷◌, IfOk}
use Rattle.std.specs.Result.{result_err}
use Rattle.bench.specs.Blocks.{history}
use Rattle.bench.specs.declared.input.inputs.Inputs.{Inputs}
use Rattle.bench.specs.declared.input.line.Line.{Line}
use Rattle.pcap_file.specs.Frames.{capture_of}
use Rattle.plain_run.specs.Fold.{IsRun, run_calls}
use Rattle.plain_run.specs.Judgement.{judged}
use Rattle.plain_run.specs.Laws.{RunLaws}
use Rattle.tcp_segment.specs.declared.segment.Segment.{Segment}
use Rattle.world_model.specs.Headline.{Headline}
use Rattle.yoda_app.specs.Commands.{Command}
use Rattle.yoda_app.specs.Outs.{outs_text}
use Rattle.yoda_app.specs.Reports.{report_text}
use Rattle.yoda_app.specs.Words.{word}
use Rattle.yoda_app.specs.declared.words.PlainNames.{PlainNames}

-- these are the texts of a run: the capture of what is sent in it, and its report
pub record IsPlain (inputs : Inputs) (texts : List (List ℕ)) : Type 0 where
  pub lines : List Line
  pub outs : List (ℕ × Segment)
  pub run : IsRun inputs lines outs
  pub are : texts ≡ outs_text (capture_of inputs.trace).frames outs ∷ report_text lines outs ∷ []
  -- and with it what holds of every run: the segments of an open connection are passed on
  pub laws : RunLaws inputs lines
  -- .. and of its calls: in each world whose benches had these, streams agree, and what is acknowledged is backed
  pub headline : Headline inputs.setup (λ shard. history shard (run_calls inputs lines))

-- the five names
pub record Paths : Type 0 where
  pub rules : List ℕ
  pub trace : List ℕ
  pub script : List ℕ
  pub out : List ℕ
  pub report : List ℕ

-- the command over them
abbrev pub plain_over : Paths → Command
plain_over p = record {
  inputs = p.rules ∷ p.trace ∷ p.script ∷ [];
  outputs = p.out ∷ p.report ∷ [];
  refusal = λ holds. result_err (judged (holds p.rules) (holds p.trace) (holds p.script));
  Gives = λ holds texts. IfOk (judged (holds p.rules) (holds p.trace) (holds p.script)) (λ inputs. IsPlain inputs texts);
}

-- the names that the command is given
abbrev pub paths : PlainNames → Paths
paths n = record { rules = n.rules.now; trace = n.trace.now; script = n.script.now; out = n.out.now; report = n.report.now }

abbrev pub plain_of : PlainNames → Command
plain_of names = plain_over (paths names)

-- the names among the words: plain RULES TRACE SCRIPT OUT REPORT
abbrev pub plain_paths : List (List ℕ) → Paths
plain_paths words = record { rules = word 1 words; trace = word 2 words; script = word 3 words; out = word 4 words; report = word 5 words }

-- the command of the words
abbrev pub plain_command : List (List ℕ) → Command
plain_command words = plain_over (plain_paths words)
