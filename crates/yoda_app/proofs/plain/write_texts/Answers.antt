use Rattle.std.specs.String.{string_bytes}
use Rattle.yoda_app.specs.Spliced.{text_of}
use Rattle.yoda_app.proofs.Stops.{second_stops}
use Rattle.yoda_app.proofs.plain.write_texts.Goals as goal

pub returns-clause-stop : goal.returns-clause-stop
returns-clause-stop g c =
    let n = c.args.names.now in
    second_stops (g.H.Shelf.content c.args.shelf.now) (g.H.Shelf.content c.write_spliced_output.new.shelf) (g.H.Shelf.content c.write_output.new.shelf)
    (g.H.Shelf.faults c.args.shelf.now) (g.H.Shelf.faults c.write_spliced_output.new.shelf) (g.H.Shelf.faults c.write_output.new.shelf)
    (g.H.Shelf.sure c.args.shelf.now) (g.H.Shelf.sure c.write_spliced_output.new.shelf) n.out.now n.report.now (text_of c.args.trace.now c.args.texts.now.out) (string_bytes c.args.texts.now.report) c.write_output.result
    c.requires.differ c.in_ok-write_spliced_output.ensures.all c.write_spliced_output.ensures.others c.write_output.ensures.others c.write_spliced_output.ensures.counts
    c.write_output.ensures.stop (rw c.as_bytes.ensures.value at c.write_output.ensures.part)
