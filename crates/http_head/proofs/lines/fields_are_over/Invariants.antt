use Rattle.std.proofs.Common.{◌≡◌, ◌+◌, ◌≤◌, length}
use Rattle.http_head.specs.Lines.{lines_of, field_lines, has_empty_line}
use Rattle.http_head.proofs.lines.fields_are_over.Given as goal

abbrev pub invariant-loop-line : goal.invariant-loop-line
invariant-loop-line l = record {
  room : l.begun + length l.rest ≤ length l.fields;
  counted : field_lines (lines_of l.fields) ≡ l.begun + field_lines (lines_of l.rest);
  same : has_empty_line (lines_of l.fields) ≡ has_empty_line (lines_of l.rest);
}

abbrev pub decreases-loop-line : goal.decreases-loop-line
decreases-loop-line l = length l.rest
