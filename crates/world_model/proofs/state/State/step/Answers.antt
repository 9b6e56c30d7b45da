use Rattle.std.proofs.Common.{◌∙◌, ap, refl}
use Rattle.std.proofs.lemmas.List.{with_items_is}
use Rattle.world_model.specs.contracts.state.State.{the_view}
use Rattle.world_model.proofs.Calls.{on_both}
use Rattle.world_model.proofs.Makes.{own_made, step_instance, step_within, step_made, with_both}
use Rattle.world_model.proofs.state.State.step.Goals as goal

pub step_in-requires-clause-own : goal.step_in-requires-clause-own
step_in-requires-clause-own c = own_made (the_view c.self.inside) c.args.self.now c.deref_mut.result.now c.self.view_is c.requires.shape c.deref_mut.ensures.value c.args.shard

pub step_in-requires-clause-within : goal.step_in-requires-clause-within
step_in-requires-clause-within c = step_within (the_view c.self.inside) c.args.self.now c.deref_mut.result.now c.args.instance c.args.shard c.self.view_is c.requires.shape c.requires.can c.deref_mut.ensures.value

pub step_in-requires-clause-instance : goal.step_in-requires-clause-instance
step_in-requires-clause-instance c = step_instance (the_view c.self.inside) c.args.self.now c.args.instance c.args.shard c.self.view_is c.requires.can

pub returns-clause-ok : goal.returns-clause-ok
returns-clause-ok c =
    on_both c.step_in.result
    (λ shards_are sent_is.
    ap (λ x. with_both (the_view c.self.inside) x c.step_in.new.sent.items) (with_items_is c.self.inside.shards c.step_in.new.shards (c.step_in.auto.shards ∙ c.deref_mut.ensures.len))
    ∙ step_made (the_view c.self.inside) c.args.self.now c.self.inside.clients c.deref_mut.result.now c.step_in.new.shards c.step_in.new.sent.items
    c.args.shard c.args.instance c.self.view_is c.requires.shape c.requires.can refl c.deref_mut.ensures.value shards_are sent_is)
    c.step_in.ensures.ok_shards c.step_in.ensures.ok_sent
