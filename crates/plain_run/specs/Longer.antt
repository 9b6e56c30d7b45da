-- A run of a longer trace begins with the run of the shorter one.
use Rattle.std.specs.Prelude.{◌≡◌, ℕ, nat_lt, List, length, take, None}
use Rattle.std.specs.List.{AllByRecursion, filter}
use Rattle.bench.specs.Inputs.{IsInputs}
use Rattle.bench.specs.declared.input.inputs.Inputs.{Inputs}
use Rattle.bench.specs.declared.input.line.Line.{Line}
use Rattle.pcap_file.specs.Frames.{capture_of}
use Rattle.plain_run.specs.Cuts.{refused_in}
use Rattle.plain_run.specs.Fold.{IsRun}
use Rattle.script_text.specs.declared.line.Line.{Line as ScriptLine}
use Rattle.script_text.specs.declared.line.Line.TheVariants.{Give, Crash, Back, Fail}
use Rattle.tcp_segment.specs.declared.segment.Segment.{Segment}

-- the list begins with the other one
abbrev pub BeginsWith : {X : Type 0} → List X → List X → Type 0
BeginsWith all first = first ≡ take (length first) all

-- the record that a line of a script is for
abbrev pub record_of : ScriptLine → ℕ
record_of (Give item instance) = item
record_of (Crash instance item after) = item
record_of (Back instance item) = item
record_of (Fail replica item) = item

-- the lines for records below this one, in their order
abbrev pub lines_below : ℕ → List ScriptLine → List ScriptLine
lines_below records lines = filter (λ line. nat_lt (record_of line) records) lines

-- what is sent for records below this one, in its order
abbrev pub sent_below : ℕ → List (ℕ × Segment) → List (ℕ × Segment)
sent_below records outs = filter (λ out. nat_lt out.0 records) outs

-- The longer inputs go on where the shorter ones end: the setup is the same, further bytes may stand behind the trace, and the
-- script has the same lines for the shorter trace's records, in the same order. Whatever it says of later records is free.
pub record GoesOn (shorter longer : Inputs) : Type 0 where
  pub setup : longer.setup ≡ shorter.setup
  pub trace : BeginsWith longer.trace shorter.trace
  pub script : lines_below shorter.records longer.script.lines ≡ lines_below shorter.records shorter.script.lines

-- memory was refused to none of the records with these lines
abbrev pub NoneRefused : List Line → Type 0
NoneRefused lines = AllByRecursion (λ line. refused_in line.verdict ≡ None) lines

-- What the lines of a longer run, and what is sent in it, are to the shorter inputs.
pub record LongerRun (shorter longer : Inputs) (lines : List Line) (outs : List (ℕ × Segment)) : Type 0 where
  -- those of the shorter trace's records are a run of the shorter inputs
  pub run : IsRun shorter (take shorter.records lines) (sent_below shorter.records outs)
  -- what is sent for them comes first, and the frames that it answers are the same
  pub sent : BeginsWith outs (sent_below shorter.records outs)
  pub frames : BeginsWith (capture_of longer.trace).frames (capture_of shorter.trace).frames
  -- each run of the shorter inputs is that one, where memory was refused in neither
  pub only : (first : List Line) (sent : List (ℕ × Segment)) → IsRun shorter first sent → NoneRefused first → NoneRefused lines
      → (first ≡ take shorter.records lines) × (sent ≡ sent_below shorter.records outs)

-- so it is with each run of inputs that go on
abbrev pub LongerRuns : Type 0
LongerRuns =
    (shorter longer : Inputs) → IsInputs shorter → GoesOn shorter longer → (lines : List Line) (outs : List (ℕ × Segment)) → IsRun longer lines outs
    → LongerRun shorter longer lines outs
