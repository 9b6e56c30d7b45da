use Rattle.std.proofs.Common.{◌+◌, ap, ◌∙◌, sym, ◌∷◌, length, take, arith}
use Rattle.std.proofs.lemmas.Slice.{between_to_end}
use Rattle.http_head.specs.Lines.{lines_of}
use Rattle.http_head.proofs.LineLemmas.{lines_of-first, lines_of-last}
use Rattle.http_head.proofs.lines.next_line.Goals as goal

pub returns-in_default-clause-last : goal.returns-in_default-clause-last
returns-in_default-clause-last c = lines_of-last c.args.bytes.now (sym c.in_default.ensures)

pub returns-clause-first : goal.returns-clause-first
returns-clause-first c =
    lines_of-first c.args.bytes.now c.in-Some.end (sym c.in-Some.ensures)
    ∙ ap (λ rest. take c.in-Some.end c.args.bytes.now ∷ lines_of rest) (sym (between_to_end c.args.bytes.now (c.in-Some.end + 1) (length c.args.bytes.now) (omega arith)))
