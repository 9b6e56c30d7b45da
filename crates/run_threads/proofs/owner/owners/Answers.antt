use Rattle.std.proofs.Common.{List, length, sym, ◌∙◌, ap, subst}
use Rattle.run_threads.specs.Owners.{AreOwners}
use Rattle.run_threads.specs.declared.owner.Owner.{Owner}
use Rattle.run_threads.proofs.Seats.{written_back}
use Rattle.run_threads.proofs.owner.owners.Goals as goal

pub returns : goal.returns
returns g c =
    let inputs = c.args.inputs.now in
    let new : List Owner = c.fill.new.owners in
    let whole = c.requires.inputs.records ∙ sym (ap length c.requires.inputs.frames) in
    let long = c.in_ok-owners.ensures.len ∙ (whole ∙ sym c.fill.ensures.many) in
    subst (λ l. AreOwners inputs inputs.frames l) (sym (written_back c.in_ok-owners.owners.len new c.in_ok-owners.owners.items long))
    (record { many = c.fill.ensures.many; which = c.fill.ensures.which; there = c.fill.ensures.there })
