use Rattle.std.proofs.Common.{[], ◌∷◌}
use Rattle.std.specs.String.{string_bytes}
use Rattle.yoda_app.specs.Parts.{parts_text}
use Rattle.yoda_app.specs.RunCommand.{run_of}
use Rattle.yoda_app.proofs.Stops.{ends}
use Rattle.yoda_app.proofs.run.run.Goals as goal

pub returns-clause-end : goal.returns-clause-end
returns-clause-end g c =
    let inputs = c.in_ok-inputs.inputs in
    let t = c.in_ok-inputs.texts in
    ends (run_of c.args.names.now) (g.H.Shelf.content c.args.shelf.now) (g.H.Shelf.content c.prepare.new.shelf) (g.H.Shelf.content c.write_texts-written.new.shelf)
    (g.H.Shelf.faults c.args.shelf.now) (g.H.Shelf.faults c.prepare.new.shelf) (g.H.Shelf.faults c.write_texts-written.new.shelf)
    (g.H.Shelf.sure c.args.shelf.now) (g.H.Shelf.sure c.prepare.new.shelf) (parts_text inputs.trace t.out.items ∷ string_bytes t.report ∷ t.journal.items ∷ []) c.write_texts-written.result
    c.in_ok-inputs.ensures.accepted c.in_ok-inputs.ensures.texts c.prepare.ensures.same c.prepare.ensures.counts (rw c.as_slice.ensures at c.write_texts-written.ensures.all) (rw c.as_slice.ensures at c.write_texts-written.ensures.stop)
