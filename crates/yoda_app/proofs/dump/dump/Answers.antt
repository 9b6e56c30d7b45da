use Rattle.std.proofs.Common.{[], ◌∷◌, inr}
use Rattle.std.specs.Prelude.{codes}
use Rattle.std.specs.String.{string_bytes}
use Rattle.shelf.specs.Changes.{change}
use Rattle.yoda_app.specs.DumpCommand.{dump_over}
use Rattle.yoda_app.proofs.Stops.{ends, only_stops, only_written}
use Rattle.yoda_app.proofs.dump.dump.Goals as goal

pub returns-clause-end : goal.returns-clause-end
returns-clause-end g c =
    let t = string_bytes c.in_ok-text.text in
    let mid = g.H.Shelf.content c.prepare.new.shelf in
    let new = g.H.Shelf.content c.append_output.new.shelf in
    ends (dump_over c.args.trace.now) (g.H.Shelf.content c.args.shelf.now) mid new
    (g.H.Shelf.faults c.args.shelf.now) (g.H.Shelf.faults c.prepare.new.shelf) (g.H.Shelf.faults c.append_output.new.shelf)
    (g.H.Shelf.sure c.args.shelf.now) (g.H.Shelf.sure c.prepare.new.shelf) (t ∷ []) c.append_output.result
    c.in_ok-text.ensures.accepted c.in_ok-text.ensures.text c.prepare.ensures.same c.prepare.ensures.counts
    (only_written mid new (codes "-") t c.append_output.result (rw c.as_bytes.ensures.value at c.append_output.ensures.all))
    (only_stops (change g.H.Shelf.content g.H.Shelf.faults g.H.Shelf.sure c.prepare.new.shelf c.append_output.new.shelf) (codes "-") t c.append_output.result
    c.append_output.ensures.stop (inr (rw c.as_bytes.ensures.value at c.append_output.ensures.part)))
