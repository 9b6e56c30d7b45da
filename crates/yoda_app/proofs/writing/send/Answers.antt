use Rattle.std.proofs.Common.{◌≡◌, ℕ, Bool, List, [], ◌++◌, sym, ap, subst, ◌∙◌}
use Rattle.std.specs.Prelude.{if◌then◌else◌, Option}
use Rattle.yoda_app.specs.Written.{longer, AddsPart, Sends}
use Rattle.yoda_app.proofs.Sending.{added, part_added, err_too}
use Rattle.yoda_app.proofs.writing.send.Goals as goal

pub returns-in_err-append_behind-clause-part : goal.returns-in_err-append_behind-clause-part
returns-in_err-append_behind-clause-part g c =
    let name = c.args.name.now in
    let bytes = c.args.bytes.now in
    let old = g.H.Shelf.content c.args.shelf.now name in
    let new = g.H.Shelf.content c.append_behind.new.shelf name in
    let same : c.gather.new.buffer.items ≡ c.args.buffer.now.items =
    c.gather.ensures ∙ ap (λ (b : Bool). if b then c.args.buffer.now.items ++ bytes else c.args.buffer.now.items) c.if-gather.false in
    let part : (first : Option (List ℕ)) (left text : List ℕ) → Sends first old c.args.buffer.now.items (bytes ++ left) text → AddsPart first new text =
    λ first left text s. part_added first old new c.args.buffer.now.items bytes left text (subst (λ (b : List ℕ). AddsPart old new (b ++ bytes)) same c.in_err-append_behind.ensures.part) s in
    err_too c.from_residual.result part

pub returns-clause-sent : goal.returns-clause-sent
returns-clause-sent g c =
    let name = c.args.name.now in
    let bytes = c.args.bytes.now in
    let old = g.H.Shelf.content c.args.shelf.now name in
    let new = g.H.Shelf.content c.append_behind.new.shelf name in
    let same : c.gather.new.buffer.items ≡ c.args.buffer.now.items =
    c.gather.ensures ∙ ap (λ (b : Bool). if b then c.args.buffer.now.items ++ bytes else c.args.buffer.now.items) c.if-gather.false in
    let all : new ≡ longer (longer old c.args.buffer.now.items) bytes =
    subst (λ (b : List ℕ). new ≡ longer (longer old b) bytes) same c.in_ok-append_behind.ensures.all in
    λ first left text s. subst (λ (b : List ℕ). Sends first new b left text) (sym c.in_ok-append_behind.ensures.empty)
    (added first old new c.args.buffer.now.items bytes left text all s)
