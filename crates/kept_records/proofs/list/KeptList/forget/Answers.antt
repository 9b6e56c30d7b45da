use Rattle.std.proofs.Common.{◌≡◌, Some, sym, ap, ◌∙◌, subst}
use Rattle.flow_id.specs.Keys.{same_flow}
use Rattle.kept_records.specs.Entries.{AreKept, IsKept, server_port}
use Rattle.kept_records.specs.Owners.{AreOwners, Drops, flow_at}
use Rattle.kept_records.proofs.Lists.{all_removed}
use Rattle.kept_records.proofs.Places.{taken_out}
use Rattle.kept_records.proofs.list.KeptList.forget.Goals as goal

pub invariant_of-self : goal.invariant_of-self
invariant_of-self c =
    let before = c.self.inside.cache.entries in
    let is = ap (λ x. x.entries) c.pop_entry.ensures.entries in (
      ap (λ x. x.cap) c.pop_entry.ensures.entries ∙ c.self.invariant.0,
      subst AreKept (sym is) (all_removed (λ e. IsKept e.1) (same_flow c.args.flow.now) before c.self.invariant.1),
      subst (AreOwners c.drop.new.self) (sym is)
          (taken_out c.self.inside.owners c.drop.new.self before c.args.flow.now (c.in-Some.field-0-0, c.in-Some.kept)
          (subst (Drops c.self.inside.owners c.drop.new.self) c.server_port.ensures c.drop.ensures) (sym c.in-Some.ensures.value) c.len.ensures.valid.0 c.self.invariant.2),
    )

pub invariant_of-self-in_default : goal.invariant_of-self-in_default
invariant_of-self-in_default c =
    let before = c.self.inside.cache.entries in
    let owners = c.self.inside.owners in
    let is = ap (λ x. x.entries) c.pop_entry.ensures.entries in (
      ap (λ x. x.cap) c.pop_entry.ensures.entries ∙ c.self.invariant.0,
      subst AreKept (sym is) (all_removed (λ e. IsKept e.1) (same_flow c.args.flow.now) before c.self.invariant.1),
      subst (AreOwners owners) (sym is)
          (λ alone. all_removed (λ e. flow_at owners.flows.entries (server_port e.1) ≡ Some e.0) (same_flow c.args.flow.now) before (c.self.invariant.2 alone)),
    )
