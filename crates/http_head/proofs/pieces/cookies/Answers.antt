use Rattle.std.proofs.Common.{◌≡◌, map, sym, ap, ◌∙◌}
use Rattle.std.specs.List.{list_any}
use Rattle.std.specs.Str.{bytes_eq}
use Rattle.httparse.specs.Spans.{header_bytes}
use Rattle.http_head.specs.Reading.{reading}
use Rattle.http_head.specs.Fields.{fields_of, cookies_in}
use Rattle.http_head.proofs.PieceLemmas.{pair_is_piece}
use Rattle.http_head.proofs.pieces.cookies.Goals as goal

pub returns-clause-pairs : goal.returns-clause-pairs
returns-clause-pairs c =
    let same : fields_of (reading c.args.bytes.now) ≡ map (header_bytes c.args.bytes.now) c.spans.result.now =
    rw c.spans.ensures (sym c.requires.fields) in
    λ pair. pair_is_piece pair (fields_of (reading c.args.bytes.now))
    ∙ ap (λ fields. list_any (λ piece. bytes_eq piece pair) (cookies_in fields)) same
