use Rattle.std.proofs.Common.{◌≡◌, ℕ, List, drop, subst}
use Rattle.std.specs.Prelude.{slice_index_or}
use Rattle.yoda_app.specs.Spliced.{text_from, text_of}
use Rattle.yoda_app.specs.Written.{AddsPart, Sends}
use Rattle.yoda_app.proofs.Sending.{err_too}
use Rattle.yoda_app.proofs.Splicing.{first_splice}
use Rattle.yoda_app.proofs.writing.send_splices.Goals as goal

pub returns-in_err-send_splice-clause-part : goal.returns-in_err-send_splice-clause-part
returns-in_err-send_splice-clause-part g c =
    let l = c.loop-rest in
    let name = c.args.name.now in
    let first = g.H.Shelf.content c.args.shelf.now name in
    let own = c.as_slice-own.result.now in
    let text = text_of c.args.trace.now c.args.text.now in
    let part : AddsPart first (g.H.Shelf.content c.send_splice.new.shelf name) text =
    c.in_err-send_splice.ensures.part first _ text
    (subst (λ (left : List ℕ). Sends first (g.H.Shelf.content l.shelf name) l.buffer.items left text) (first_splice _ c.args.trace.now own l.from l.rest.now c.in-len1-up.len_at_least) l.invariant.sends) in
    err_too c.from_residual.result part
