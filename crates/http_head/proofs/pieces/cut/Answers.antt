use Rattle.std.proofs.Common.{◌+◌, ap, ◌∙◌, sym, ◌∷◌, length, take, arith}
use Rattle.std.proofs.lemmas.Slice.{between_to_end}
use Rattle.httparse.specs.Grammar.{trim_ows}
use Rattle.http_head.specs.Fields.{pieces_of}
use Rattle.http_head.proofs.PieceLemmas.{pieces_of-first, pieces_of-last}
use Rattle.http_head.proofs.pieces.cut.Goals as goal

pub returns-in-Some : goal.returns-in-Some
returns-in-Some c =
    pieces_of-first c.args.value.now c.in-Some.end (sym c.in-Some.ensures)
    ∙ ap (λ rest. trim_ows (take c.in-Some.end c.args.value.now) ∷ pieces_of rest) (sym (between_to_end c.args.value.now (c.in-Some.end + 1) (length c.args.value.now) (omega arith)))

pub returns-in-None : goal.returns-in-None
returns-in-None c = pieces_of-last c.args.value.now (sym c.in-None.ensures)
