-- What became of a record.
use Rattle.std.specs.Prelude.{ℕ, List}
use Rattle.bench.specs.declared.input.line.Line.{Line}
use Rattle.tcp_segment.specs.Sending.{OutsView}
use Rattle.tcp_segment.specs.declared.segment.Segment.{Segment}

-- its line, and what is sent for it, in the order of sending
pub record OutcomeView : Type 0 where
  pub line : Line
  pub outs : List Segment

-- what became of a record with its number, where these are its line and what is sent for it
abbrev pub told_of : ℕ × Line × OutsView → ℕ × OutcomeView
told_of t = (t.0, record { line = t.1; outs = t.2.list })
