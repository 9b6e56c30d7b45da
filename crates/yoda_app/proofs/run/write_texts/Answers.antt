use Rattle.std.proofs.Common.{[], ◌∷◌, sym}
use Rattle.std.specs.String.{string_bytes}
use Rattle.shelf.specs.Changes.{change}
use Rattle.yoda_app.specs.Parts.{parts_text}
use Rattle.yoda_app.proofs.Onward.{kept_others, first_stop, next_stops}
use Rattle.yoda_app.proofs.run.write_texts.Goals as goal

pub returns-in-Err-clause-stop : goal.returns-in-Err-clause-stop
returns-in-Err-clause-stop g c =
    let n = c.args.names.now in
    let t = c.args.texts.now in
    let s0 = c.args.shelf.now in
    let s1 = c.write_parts_output.new.shelf in
    first_stop (change g.H.Shelf.content g.H.Shelf.faults g.H.Shelf.sure s0 s1) n.plain.out.now (parts_text c.args.trace.now t.out.items) (n.plain.report.now ∷ n.journal.now ∷ [])
    (string_bytes t.report ∷ t.journal.items ∷ []) c.in-Err.stop
    (kept_others n.plain.out.now (n.plain.report.now ∷ n.journal.now ∷ []) (g.H.Shelf.content s0) (g.H.Shelf.content s1)
    ((λ same. c.requires.report (sym same)), ((λ same. c.requires.journal.0 (sym same)), tt)) c.write_parts_output.ensures.others)
    c.in-Err.ensures.stop (rw c.deref.ensures.value at c.in-Err.ensures.part)

pub returns-in-Ok-clause-stop : goal.returns-in-Ok-clause-stop
returns-in-Ok-clause-stop g c =
    let n = c.args.names.now in
    let t = c.args.texts.now in
    let s0 = c.args.shelf.now in
    let s1 = c.write_parts_output.new.shelf in
    let s2 = c.write_told.new.shelf in
    next_stops (g.H.Shelf.content s0) (g.H.Shelf.content s1) (g.H.Shelf.content s2) (g.H.Shelf.faults s0) (g.H.Shelf.faults s1) (g.H.Shelf.faults s2) (g.H.Shelf.sure s0) (g.H.Shelf.sure s1)
    n.plain.out.now (parts_text c.args.trace.now t.out.items) (n.plain.report.now ∷ n.journal.now ∷ []) (string_bytes t.report ∷ t.journal.items ∷ []) c.write_told.result
    ((λ same. c.requires.report (sym same)), ((λ same. c.requires.journal.0 (sym same)), tt))
    (rw c.deref.ensures.value at c.in-Ok.ensures.all) c.write_parts_output.ensures.others
    (c.write_told.ensures.others n.plain.out.now c.requires.report c.requires.journal.0) c.write_parts_output.ensures.counts c.write_told.ensures.stop
