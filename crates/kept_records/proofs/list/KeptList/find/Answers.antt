use Rattle.std.proofs.Common.{◌≡◌, Some, sym, ap, ◌∙◌, subst}
use Rattle.flow_id.specs.Keys.{same_flow}
use Rattle.kept_records.specs.Entries.{AreKept, IsKept, server_port}
use Rattle.kept_records.specs.Owners.{AreOwners, flow_at}
use Rattle.kept_records.proofs.Lists.{all_promoted}
use Rattle.kept_records.proofs.list.KeptList.find.Goals as goal

pub invariant_of-self : goal.invariant_of-self
invariant_of-self c = (
  ap (λ x. x.cap) c.promote.ensures.entries ∙ c.self.invariant.0,
  subst AreKept (sym (ap (λ x. x.entries) c.promote.ensures.entries)) (all_promoted (λ e. IsKept e.1) (same_flow c.args.flow.now) c.self.inside.cache.entries c.self.invariant.1),
  subst (AreOwners c.self.inside.owners) (sym (ap (λ x. x.entries) c.promote.ensures.entries))
      (λ alone. all_promoted (λ e. flow_at c.self.inside.owners.flows.entries (server_port e.1) ≡ Some e.0) (same_flow c.args.flow.now) c.self.inside.cache.entries (c.self.invariant.2 alone)),
)
