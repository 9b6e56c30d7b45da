use Rattle.std.proofs.Common.{◌≡◌, take, drop, arith}
use Rattle.std.proofs.lemmas.Grind.{common_steps}
use Rattle.yoda_app.specs.Written.{longer}
use Rattle.yoda_app.proofs.Longer.{adds_on}
use Rattle.yoda_app.proofs.writing.append_more.Goals as goal

pub returns-clause-added : goal.returns-clause-added
returns-clause-added g c =
    let name = c.args.name.now in
    let added : g.H.Shelf.content c.append.new.self name ≡ longer (g.H.Shelf.content c.args.shelf.now name) (take c.in_ok-count.count (drop c.args.done c.args.bytes.now)) = grind (arith, common_steps) in
    λ first before. adds_on first (g.H.Shelf.content c.args.shelf.now name) (g.H.Shelf.content c.append.new.self name) c.args.done c.in_ok-count.count c.args.bytes.now before added
