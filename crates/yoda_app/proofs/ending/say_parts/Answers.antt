use Rattle.std.proofs.Common.{[], ◌∷◌, ◌++◌, ◌∙◌, ap}
use Rattle.yoda_app.specs.Written.{longer}
use Rattle.yoda_app.proofs.Longer.{adds_front, adds_back, longer-longer}
use Rattle.yoda_app.proofs.ending.say_parts.Goals as goal

pub returns-in_err-append_all-2-clause-part : goal.returns-in_err-append_all-2-clause-part
returns-in_err-append_all-2-clause-part g c =
    let first = g.H.Shelf.content c.args.shelf.now (33 ∷ []) in
    let second = g.H.Shelf.content c.append_all.new.shelf (33 ∷ []) in
    let third = g.H.Shelf.content c.append_all-2.new.shelf (33 ∷ []) in
    adds_front first third (c.args.head.now ++ c.args.rest.now) (10 ∷ [])
    (adds_back first second third c.args.head.now c.args.rest.now (rw c.as_bytes.ensures.value at c.in_ok-append_all.ensures.all) (rw c.as_bytes-2.ensures.value at c.append_all-2.ensures.part))

pub returns-clause-part : goal.returns-clause-part
returns-clause-part g c =
    let first = g.H.Shelf.content c.args.shelf.now (33 ∷ []) in
    let second = g.H.Shelf.content c.append_all.new.shelf (33 ∷ []) in
    let third = g.H.Shelf.content c.append_all-2.new.shelf (33 ∷ []) in
    let fourth = g.H.Shelf.content c.append_all-3.new.shelf (33 ∷ []) in
    let both = (rw c.as_bytes-2.ensures.value at c.in_ok-append_all-2.ensures.all) ∙ ap (λ o. longer o c.args.rest.now) (rw c.as_bytes.ensures.value at c.in_ok-append_all.ensures.all) ∙ longer-longer first c.args.head.now c.args.rest.now in
    adds_back first third fourth (c.args.head.now ++ c.args.rest.now) (10 ∷ []) both (rw c.as_bytes-3.ensures.value at c.append_all-3.ensures.part)
