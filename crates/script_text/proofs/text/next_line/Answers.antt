use Rattle.std.proofs.Common.{eqb, false, ◌+◌, ◌-◌, ◌≡◌, ap, ◌∙◌, sym, ◌∷◌, length, drop, arith}
use Rattle.std.specs.Str.Lines.{lines}
use Rattle.std.proofs.lemmas.Slice.{between_to_end}
use Rattle.script_text.proofs.WordLemmas.{lines-first, lines-whole, take-none}
use Rattle.script_text.proofs.text.next_line.Goals as goal

pub returns-in-Some-clause-first : goal.returns-in-Some-clause-first
returns-in-Some-clause-first c =
    let bytes = c.args.bytes.now in
    let end = c.in-Some.end in
    lines-first bytes end (sym c.first_line_feed.ensures ∙ c.in-Some.is)
    ∙ ap (λ line. line ∷ lines (drop (end + 1) bytes)) (sym c.without_return.ensures)
    ∙ ap (λ rest. c.without_return.result.now ∷ lines rest) (sym (between_to_end bytes (end + 1) (length bytes) (omega arith)))

pub returns-in-None-2-clause-first : goal.returns-in-None-2-clause-first
returns-in-None-2-clause-first c =
    let bytes = c.args.bytes.now in
    let some : eqb (length bytes) 0 ≡ false = cc in
    lines-whole bytes (sym c.first_line_feed.ensures ∙ c.in-None.is) some
    ∙ ap (λ rest. bytes ∷ lines rest) (sym (take-none (length bytes - length bytes) (drop (length bytes) bytes) (omega arith)))
