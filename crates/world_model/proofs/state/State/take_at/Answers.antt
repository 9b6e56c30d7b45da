use Rattle.std.proofs.Common.{◌≡◌, subst, true}
use Rattle.world_model.specs.Steps.{is_enabled}
use Rattle.world_model.specs.contracts.state.State.{the_view}
use Rattle.world_model.specs.declared.at.At.TheVariants.{Client, Server}
use Rattle.world_model.specs.declared.event.Event.TheVariants.{TakeAt}
use Rattle.world_model.proofs.Calls.{on_both, on_ok}
use Rattle.world_model.proofs.Making.{by_view, can_view, client_takes, server_takes, takes_within, made_at}
use Rattle.world_model.proofs.state.State.take_at.Goals as goal

pub deliver_to_client-requires : goal.deliver_to_client-requires
deliver_to_client-requires c =
    takes_within (the_view c.self.inside) c.in-Client.client c.args.index c.args.isn
    (subst (λ a. is_enabled (the_view c.self.inside) (TakeAt a c.args.index c.args.isn) ≡ true) c.in-Client.is
    (can_view (the_view c.self.inside) c.args.self.now (TakeAt c.args.at.now c.args.index c.args.isn) c.self.view_is c.requires.can))

pub returns-in-Client-clause-ok : goal.returns-in-Client-clause-ok
returns-in-Client-clause-ok c = on_ok c.deliver_to_client.result (λ made.
    let w = the_view c.self.inside in
    by_view w c.args.self.now _ (TakeAt c.args.at.now c.args.index c.args.isn) c.self.view_is
    (made_at w c.args.at.now (Client c.in-Client.client) c.args.index c.args.isn _ c.in-Client.is
    (client_takes w c.in-Client.client c.args.index c.args.isn c.as_slice-sent.result.now c.deliver_to_client.new.ends.items
    (subst (λ a. is_enabled w (TakeAt a c.args.index c.args.isn) ≡ true) c.in-Client.is
    (can_view w c.args.self.now (TakeAt c.args.at.now c.args.index c.args.isn) c.self.view_is c.requires.can))
    c.as_slice-sent.ensures.value made)))
    c.deliver_to_client.ensures.ok

pub returns-in-Server-clause-ok : goal.returns-in-Server-clause-ok
returns-in-Server-clause-ok c = on_both c.deliver_to_server.result (λ there made.
    let w = the_view c.self.inside in
    by_view w c.args.self.now _ (TakeAt c.args.at.now c.args.index c.args.isn) c.self.view_is
    (made_at w c.args.at.now (Server c.in-Server.server c.in-Server.port) c.args.index c.args.isn _ c.in-Server.is
    (server_takes w c.in-Server.server c.in-Server.port c.args.index c.args.isn c.as_slice-sent.result.now c.deliver_to_server.new.servers
    (subst (λ a. is_enabled w (TakeAt a c.args.index c.args.isn) ≡ true) c.in-Server.is
    (can_view w c.args.self.now (TakeAt c.args.at.now c.args.index c.args.isn) c.self.view_is c.requires.can))
    c.as_slice-sent.ensures.value there made)))
    c.deliver_to_server.ensures.there c.deliver_to_server.ensures.made
