use Rattle.std.proofs.Common.{◌≡◌, ℕ, List, ◌++◌, length, drop, ap, subst, ◌∙◌, arith}
use Rattle.std.specs.Prelude.{slice_range}
use Rattle.std.proofs.lemmas.Slice.{between_to_end}
use Rattle.yoda_app.specs.Spliced.{text_of}
use Rattle.yoda_app.specs.Written.{AddsPart}
use Rattle.yoda_app.proofs.Sending.{last_part_added, err_too}
use Rattle.yoda_app.proofs.writing.append_spliced.Goals as goal

pub returns-in_err-append_behind-clause-part : goal.returns-in_err-append_behind-clause-part
returns-in_err-append_behind-clause-part g c =
    let name = c.args.name.now in
    let text = c.args.text.now in
    let from = c.in_ok-from.from in
    let own = c.deref.result.now in
    let mid = g.H.Shelf.content c.send_splices.new.shelf name in
    let new = g.H.Shelf.content c.append_behind.new.shelf name in
    let buffer = c.send_splices.new.buffer.items in
    let last : slice_range own from (length own) ≡ drop from text.own.items =
    between_to_end own from (length own) (omega arith) ∙ ap (drop from) c.deref.ensures.value in
    let part : AddsPart mid new (buffer ++ drop from text.own.items) =
    subst (λ (bytes : List ℕ). AddsPart mid new (buffer ++ bytes)) last c.in_err-append_behind.ensures.part in
    err_too c.from_residual-in_err-append_behind.result
    (last_part_added (g.H.Shelf.content c.args.shelf.now name) mid new buffer (drop from text.own.items) (text_of c.args.trace.now text) part c.in_ok-from.ensures.sent)
