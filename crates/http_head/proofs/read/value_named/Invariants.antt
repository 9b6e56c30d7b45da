use Rattle.std.proofs.Common.{◌≡◌, map, drop}
use Rattle.httparse.specs.Spans.{header_bytes}
use Rattle.http_head.specs.Fields.{first_named}
use Rattle.http_head.proofs.read.value_named.Given as goal

abbrev pub invariant-loop-field : goal.invariant-loop-field
invariant-loop-field l =
    first_named l.fn.name (map (header_bytes l.fn.bytes) l.fn.fields)
    ≡ first_named l.fn.name (map (header_bytes l.fn.bytes) (drop l.field-index l.fn.fields))
