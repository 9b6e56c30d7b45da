use Rattle.std.proofs.Common.{◌≡◌, length}
use Rattle.std.specs.List.{list_any}
use Rattle.std.specs.Str.{bytes_eq}
use Rattle.http_head.specs.Fields.{has_pair}
use Rattle.http_head.specs.Reading.{reading}
use Rattle.http_head.proofs.cookie.has_cookie_in.Given as goal

abbrev pub invariant-loop-piece : goal.invariant-loop-piece
invariant-loop-piece l = has_pair (reading l.fn.bytes) l.fn.pair ≡ list_any (λ piece. bytes_eq piece l.fn.pair) l.left

abbrev pub decreases-loop-piece : goal.decreases-loop-piece
decreases-loop-piece l = length l.left
