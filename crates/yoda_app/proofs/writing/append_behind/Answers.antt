use Rattle.yoda_app.proofs.Longer.{adds_back}
use Rattle.yoda_app.proofs.Sending.{err_too}
use Rattle.yoda_app.proofs.writing.append_behind.Goals as goal

pub returns-in_err-append_all-clause-part : goal.returns-in_err-append_all-clause-part
returns-in_err-append_all-clause-part g c =
    let name = c.args.name.now in
    err_too _ (adds_back (g.H.Shelf.content c.args.shelf.now name) (g.H.Shelf.content c.flush.new.shelf name) (g.H.Shelf.content c.append_all.new.shelf name)
    c.args.buffer.now.items c.args.bytes.now c.in_ok-flush.ensures.all c.append_all.ensures.part)
