use Rattle.std.proofs.Common.{ℕ, List, ◌++◌}
use Rattle.std.specs.Prelude.{Option}
use Rattle.yoda_app.specs.Written.{AddsPart, Sends}
use Rattle.yoda_app.proofs.Sending.{err_too}
use Rattle.yoda_app.proofs.writing.send_splice.Goals as goal

pub returns-in_err-send-clause-part : goal.returns-in_err-send-clause-part
returns-in_err-send-clause-part g c =
    let name = c.args.name.now in
    let part : (first : Option (List ℕ)) (left text : List ℕ) → Sends first (g.H.Shelf.content c.args.shelf.now name) c.args.buffer.now.items (c.args.own.now ++ (c.args.slice.now ++ left)) text
    → AddsPart first (g.H.Shelf.content c.send.new.shelf name) text =
    λ first left text s. c.in_err-send.ensures.part first (c.args.slice.now ++ left) text s in
    err_too c.from_residual.result part

pub returns-in_err-send-2-clause-part : goal.returns-in_err-send-2-clause-part
returns-in_err-send-2-clause-part g c =
    let name = c.args.name.now in
    let part : (first : Option (List ℕ)) (left text : List ℕ) → Sends first (g.H.Shelf.content c.args.shelf.now name) c.args.buffer.now.items (c.args.own.now ++ (c.args.slice.now ++ left)) text
    → AddsPart first (g.H.Shelf.content c.send-2.new.shelf name) text =
    λ first left text s. c.in_err-send-2.ensures.part first left text (c.in_ok-send.ensures.sent first (c.args.slice.now ++ left) text s) in
    err_too c.from_residual-in_err-send-2.result part
