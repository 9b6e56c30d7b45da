-- The report of a run: a line for each record of the trace, and a last one that counts.
use Rattle.std.specs.Prelude.{ℕ, ◌+◌, List, [], ◌∷◌, ◌++◌, length}
use Rattle.bench.specs.declared.input.line.Line.{Line}
use Rattle.report_text.specs.Reports.{line_text, last_text}
use Rattle.tcp_segment.specs.declared.segment.Segment.{Segment}

-- the lines of these records, whose numbers begin with n
abbrev pub report_lines : ℕ → List Line → List ℕ
report_lines n [] = []
report_lines n (line ∷ lines) = line_text n line.instance line.verdict ++ report_lines (n + 1) lines

-- the report of records with these lines, for which this is sent
abbrev pub report_text : List Line → List (ℕ × Segment) → List ℕ
report_text lines outs = report_lines 0 lines ++ last_text (length lines) (length outs)
