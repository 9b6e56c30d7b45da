-- The two texts of a run, as they are made.
use Rattle.std.specs.Prelude.{◌≡◌, ℕ, List, ◌++◌, length}
use Rattle.std.specs.String.{string_bytes}
use Rattle.bench.specs.declared.input.inputs.Inputs.{Inputs}
use Rattle.bench.specs.declared.input.line.Line.{Line}
use Rattle.pcap_file.specs.Frames.{capture_of}
use Rattle.plain_run.specs.Fold.{IsRun}
use Rattle.tcp_segment.specs.declared.segment.Segment.{Segment}
use Rattle.yoda_app.specs.Outs.{sent_records}
use Rattle.yoda_app.specs.Reports.{report_lines}
use Rattle.yoda_app.specs.Spliced.{text_of}
use Rattle.yoda_app.specs.declared.texts.Texts.{Texts}

-- the records and the lines of a run over these inputs, in which so many segments are sent, were added to the texts
pub record AddsRun (inputs : Inputs) (old new : Texts) (count : ℕ) : Type 0 where
  pub lines : List Line
  pub outs : List (ℕ × Segment)
  pub run : IsRun inputs lines outs
  pub out : text_of inputs.trace new.out ≡ text_of inputs.trace old.out ++ sent_records (capture_of inputs.trace).frames outs
  pub report : string_bytes new.report ≡ string_bytes old.report ++ report_lines 0 lines
  pub records : length lines ≡ inputs.records
  pub sent : length outs ≡ count
