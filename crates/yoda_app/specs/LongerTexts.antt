-- The texts of a longer run begin with those of the shorter one.
use Rattle.std.specs.Prelude.{ℕ, List}
use Rattle.bench.specs.Inputs.{IsInputs}
use Rattle.bench.specs.declared.input.inputs.Inputs.{Inputs}
use Rattle.bench.specs.declared.input.line.Line.{Line}
use Rattle.pcap_file.specs.Frames.{capture_of}
use Rattle.plain_run.specs.Fold.{IsRun}
use Rattle.plain_run.specs.Longer.{BeginsWith, GoesOn, NoneRefused}
use Rattle.tcp_segment.specs.declared.segment.Segment.{Segment}
use Rattle.yoda_app.specs.Outs.{outs_text}
use Rattle.yoda_app.specs.Reports.{report_lines}

-- the shorter run's capture and report, but for the report's last line, begin the longer one's
pub record TextsBegin (shorter longer : Inputs) (first lines : List Line) (sent outs : List (ℕ × Segment)) : Type 0 where
  pub out : BeginsWith (outs_text (capture_of longer.trace).frames outs) (outs_text (capture_of shorter.trace).frames sent)
  pub report : BeginsWith (report_lines 0 lines) (report_lines 0 first)

-- so it is with two runs in which memory was refused to no record, one of inputs that go on where the other's end
abbrev pub LongerTexts : Type 0
LongerTexts =
    (shorter longer : Inputs) → IsInputs shorter → GoesOn shorter longer → (first lines : List Line) (sent outs : List (ℕ × Segment))
    → IsRun shorter first sent → IsRun longer lines outs → NoneRefused first → NoneRefused lines → TextsBegin shorter longer first lines sent outs
