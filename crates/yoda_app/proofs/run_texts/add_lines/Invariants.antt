use Rattle.std.proofs.Common.{◌≡◌, ◌≤◌, ◌+◌, ◌++◌, length}
use Rattle.std.specs.String.{string_bytes}
use Rattle.yoda_app.specs.Reports.{report_lines}
use Rattle.yoda_app.proofs.run_texts.add_lines.Given as goal

abbrev pub invariant-loop-rest : goal.invariant-loop-rest
invariant-loop-rest l = record {
  few : l.item + length l.rest ≤ 262144;
  told : string_bytes l.report ++ report_lines l.item l.rest ≡ string_bytes l.fn.report ++ report_lines 0 l.lines;
}

abbrev pub decreases-loop-rest : goal.decreases-loop-rest
decreases-loop-rest l = length l.rest
