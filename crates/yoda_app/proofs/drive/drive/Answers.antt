use Rattle.std.proofs.Common.{[], ◌∷◌, refl, inr, arith}
use Rattle.std.specs.Prelude.{codes}
use Rattle.std.specs.String.{string_bytes}
use Rattle.shelf.specs.Changes.{change}
use Rattle.yoda_app.specs.DriveCommand.{drive_over}
use Rattle.yoda_app.proofs.Stops.{ends, only_stops, only_written}
use Rattle.yoda_app.proofs.drive.drive.Goals as goal

pub returns-clause-end : goal.returns-clause-end
returns-clause-end g c =
    let t = string_bytes c.in_ok-text.text in
    let old = g.H.Shelf.content c.args.shelf.now in
    let new = g.H.Shelf.content c.append_output.new.shelf in
    ends (drive_over c.args.numbers) old old new
    (g.H.Shelf.faults c.args.shelf.now) (g.H.Shelf.faults c.args.shelf.now) (g.H.Shelf.faults c.append_output.new.shelf)
    (g.H.Shelf.sure c.args.shelf.now) (g.H.Shelf.sure c.args.shelf.now) (t ∷ []) c.append_output.result
    (λ told. refl) (λ told. c.in_ok-text.ensures) (λ n. refl) (λ kind n. omega arith)
    (only_written old new (codes "-") t c.append_output.result (rw c.as_bytes.ensures.value at c.append_output.ensures.all))
    (only_stops (change g.H.Shelf.content g.H.Shelf.faults g.H.Shelf.sure c.args.shelf.now c.append_output.new.shelf) (codes "-") t c.append_output.result
    c.append_output.ensures.stop (inr (rw c.as_bytes.ensures.value at c.append_output.ensures.part)))
