use Rattle.std.specs.String.{string_bytes}
use Rattle.yoda_app.proofs.Stops.{second_stops}
use Rattle.yoda_app.proofs.run.write_told.Goals as goal

pub returns-clause-stop : goal.returns-clause-stop
returns-clause-stop g c =
    let n = c.args.names.now in
    let t = c.args.texts.now in
    second_stops (g.H.Shelf.content c.args.shelf.now) (g.H.Shelf.content c.write_output.new.shelf) (g.H.Shelf.content c.write_output-2.new.shelf)
    (g.H.Shelf.faults c.args.shelf.now) (g.H.Shelf.faults c.write_output.new.shelf) (g.H.Shelf.faults c.write_output-2.new.shelf)
    (g.H.Shelf.sure c.args.shelf.now) (g.H.Shelf.sure c.write_output.new.shelf) n.plain.report.now n.journal.now (string_bytes t.report) t.journal.items c.write_output-2.result
    c.requires (rw c.as_bytes.ensures.value at c.in_ok-write_output.ensures.all) c.write_output.ensures.others c.write_output-2.ensures.others c.write_output.ensures.counts
    c.write_output-2.ensures.stop (rw c.deref.ensures.value at c.write_output-2.ensures.part)
