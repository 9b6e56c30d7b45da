use Rattle.std.proofs.Common.{◌≡◌, All, length, map}
use Rattle.httparse.specs.Spans.{IsHeaderWithin, header_bytes}
use Rattle.http_head.specs.Fields.{cookies_in}
use Rattle.http_head.proofs.pieces.next_cookie.Given as goal

abbrev pub invariant-loop-rest : goal.invariant-loop-rest
invariant-loop-rest l = record {
  within : All (IsHeaderWithin (length l.fn.bytes)) l.rest;
  same : cookies_in (map (header_bytes l.fn.bytes) l.fn.fields) ≡ cookies_in (map (header_bytes l.fn.bytes) l.rest);
}

abbrev pub decreases-loop-rest : goal.decreases-loop-rest
decreases-loop-rest l = length l.rest
