use Rattle.std.proofs.Common.{◌≤◌, ◌-◌, ◌∷◌, length, sym, ap, ◌∙◌, arith, subst}
use Rattle.flow_id.specs.Keys.{same_flow}
use Rattle.kept_records.specs.Entries.{AreKept}
use Rattle.kept_records.specs.Owners.{AreOwners, Adds}
use Rattle.kept_records.proofs.Places.{added, same_owners}
use Rattle.kept_records.proofs.Putting.{put_new}
use Rattle.kept_records.proofs.list.KeptList.keep.Goals as goal

pub returns-clause-kept : goal.returns-clause-kept
returns-clause-kept c =
    let cache = c.self.inside.cache in
    let room : length cache.entries ≤ cache.cap - 1 = (let r = rw (← c.self.view_is) at c.requires.room in let i = c.self.invariant.0 in omega (arith, r, i)) in
    ap (λ x. x.entries) c.in_ok-put.ensures.entries
    ∙ put_new same_flow cache c.args.flow c.args.kept (rw (← c.self.view_is) at c.requires.absent) room
    ∙ ap (λ es. (c.args.flow, c.args.kept) ∷ es) c.self.view_is

pub invariant_of-self-2 : goal.invariant_of-self-2
invariant_of-self-2 c =
    let cache = c.self.inside.cache in
    let room : length cache.entries ≤ cache.cap - 1 = (let r = rw (← c.self.view_is) at c.requires.room in let i = c.self.invariant.0 in omega (arith, r, i)) in
    let is = ap (λ x. x.entries) c.in_ok-put.ensures.entries
    ∙ put_new same_flow cache c.args.flow c.args.kept (rw (← c.self.view_is) at c.requires.absent) room in
    let before : AreOwners c.reserve.new.self cache.entries = same_owners c.self.inside.owners c.reserve.new.self cache.entries c.in_ok-reserve.ensures.flows c.in_ok-reserve.ensures.shared c.self.invariant.2 in (
      ap (λ x. x.cap) c.in_ok-put.ensures.entries ∙ c.self.invariant.0,
      subst AreKept (sym is) (c.requires.kept, c.self.invariant.1),
      subst (AreOwners c.add.new.self) (sym is)
          (added c.reserve.new.self c.add.new.self cache.entries c.args.flow c.args.kept (subst (λ at. Adds c.reserve.new.self c.add.new.self at c.args.flow) c.server_port.ensures c.add.ensures) before),
    )
