use Rattle.std.proofs.Common.{ℕ, List, [], ◌++◌}
use Rattle.std.specs.Prelude.{Option}
use Rattle.yoda_app.specs.Spliced.{text_of}
use Rattle.yoda_app.specs.Written.{AddsPart, Sends}
use Rattle.yoda_app.proofs.InParts.{part_sent, part_broken}
use Rattle.yoda_app.proofs.Sending.{err_too}
use Rattle.yoda_app.proofs.parts.append_part.Goals as goal

pub returns-in_err-append_spliced-clause-part : goal.returns-in_err-append_spliced-clause-part
returns-in_err-append_spliced-clause-part g c =
    let old = g.H.Shelf.content c.args.shelf.now c.args.name.now in
    let new = g.H.Shelf.content c.append_spliced.new.shelf c.args.name.now in
    let bytes = text_of c.args.trace.now c.args.part.now in
    let part : (first : Option (List ℕ)) (left text : List ℕ) → Sends first old [] (bytes ++ left) text → AddsPart first new text =
    λ first left text s. part_broken first old new bytes left text c.in_err-append_spliced.ensures.part s in
    err_too c.from_residual.result part

pub returns-clause-sent : goal.returns-clause-sent
returns-clause-sent g c =
    let old = g.H.Shelf.content c.args.shelf.now c.args.name.now in
    let new = g.H.Shelf.content c.append_spliced.new.shelf c.args.name.now in
    λ first left text s. part_sent first old new (text_of c.args.trace.now c.args.part.now) left text c.in_ok-append_spliced.ensures.all s
