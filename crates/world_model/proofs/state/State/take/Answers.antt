use Rattle.std.proofs.Common.{◌∙◌, ap, refl}
use Rattle.std.proofs.lemmas.List.{with_items_is}
use Rattle.world_model.specs.contracts.state.State.{the_view}
use Rattle.world_model.proofs.Calls.{on_both}
use Rattle.world_model.proofs.Makes.{own_made, take_instance, take_taken, take_made, with_both}
use Rattle.world_model.proofs.state.State.take.Goals as goal

pub take_in-requires-clause-own : goal.take_in-requires-clause-own
take_in-requires-clause-own c = own_made (the_view c.self.inside) c.args.self.now c.deref_mut.result.now c.self.view_is c.requires.shape c.deref_mut.ensures.value

pub take_in-requires-clause-instance : goal.take_in-requires-clause-instance
take_in-requires-clause-instance c = take_instance (the_view c.self.inside) c.args.self.now c.args.instance c.args.index c.self.view_is c.requires.can

pub take_in-requires-clause-taken : goal.take_in-requires-clause-taken
take_in-requires-clause-taken c = take_taken (the_view c.self.inside) c.args.self.now c.self.inside.sent.items c.args.instance c.args.index c.self.view_is c.requires.can refl

pub returns-clause-ok : goal.returns-clause-ok
returns-clause-ok c =
    on_both c.take_in.result
    (λ shards_are sent_is.
    ap (λ x. with_both (the_view c.self.inside) x c.take_in.new.sent.items) (with_items_is c.self.inside.shards c.take_in.new.shards (c.take_in.auto.shards ∙ c.deref_mut.ensures.len))
    ∙ take_made (the_view c.self.inside) c.args.self.now c.self.inside.clients c.deref_mut.result.now c.take_in.new.shards c.take_in.new.sent.items
    c.args.instance c.args.index c.self.view_is c.requires.shape c.requires.can refl c.deref_mut.ensures.value
    (λ x sent_here s here. shards_are x s sent_here here) (λ x sent_here s here servers. sent_is x s sent_here here servers))
    c.take_in.ensures.ok_shards c.take_in.ensures.ok_sent
