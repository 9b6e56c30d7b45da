use Rattle.std.proofs.Common.{◌≡◌, length}
use Rattle.http_head.specs.Lines.{lines_of, after_request_line}
use Rattle.http_head.proofs.lines.after_request.Given as goal

abbrev pub invariant-loop-line : goal.invariant-loop-line
invariant-loop-line l = after_request_line (lines_of l.fn.bytes) ≡ after_request_line (lines_of l.rest)

abbrev pub decreases-loop-line : goal.decreases-loop-line
decreases-loop-line l = length l.rest
