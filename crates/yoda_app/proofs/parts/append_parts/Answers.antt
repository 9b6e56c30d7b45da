use Rattle.std.proofs.Common.{◌≡◌, ℕ, List, [], drop, subst, arith}
use Rattle.std.specs.Prelude.{slice_index_or}
use Rattle.std.proofs.lemmas.Grind.{common_steps}
use Rattle.yoda_app.specs.Parts.{parts_text}
use Rattle.yoda_app.specs.Written.{AddsPart, Sends}
use Rattle.yoda_app.proofs.InParts.{first_part}
use Rattle.yoda_app.proofs.Sending.{err_too}
use Rattle.yoda_app.proofs.parts.append_parts.Goals as goal

pub returns-in_err-append_part-clause-part : goal.returns-in_err-append_part-clause-part
returns-in_err-append_part-clause-part g c =
    let l = c.loop-rest in
    let name = c.args.name.now in
    let trace = c.args.trace.now in
    let first = g.H.Shelf.content c.args.shelf.now name in
    let text = parts_text trace c.args.parts.now in
    let one = c.first-item.result in
    let is = c.first-item.is in
    let head : slice_index_or l.rest.now 0 one ≡ one = grind (arith, common_steps) in
    let part : AddsPart first (g.H.Shelf.content c.append_part.new.shelf name) text =
    c.in_err-append_part.ensures.part first (parts_text trace (drop 1 l.rest.now)) text
    (subst (λ (left : List ℕ). Sends first (g.H.Shelf.content l.shelf name) [] left text) (first_part trace l.rest.now one c.in-len1-up.len_at_least head) l.invariant.sends) in
    err_too c.from_residual.result part
