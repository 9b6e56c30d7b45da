use Rattle.std.proofs.Common.{ap, ◌∙◌, sym}
use Rattle.std.proofs.lemmas.Bool.{and_from, or_left}
use Rattle.http_head.specs.Lines.{has_empty_line}
use Rattle.http_head.proofs.LineLemmas.{is_ended-lines_of}
use Rattle.http_head.proofs.lines.fields_are_over.Goals as goal

pub returns-then-is_blank : goal.returns-then-is_blank
returns-then-is_blank c =
    let ended = is_ended-lines_of c.in-Some.after.now in
    sym (or_left _ _ (c.loop-line.invariant.same ∙ ap has_empty_line c.in-Some.ensures.first
    ∙ or_left _ _ (and_from _ _ (sym c.if-is_blank.ensures) ended)))
