use Rattle.std.proofs.Common.{sym, ap, ◌∙◌}
use Rattle.std.specs.Prelude.{slice_get, find}
use Rattle.tcp_end.specs.Taking.{taken}
use Rattle.world_model.specs.Names.{end_name}
use Rattle.world_model.proofs.Calls.{on_ok}
use Rattle.world_model.proofs.Making.{found_none}
use Rattle.world_model.proofs.Named.{either_way, put_named, put_names}
use Rattle.world_model.proofs.delivery.take_named.Goals as goal

pub invariant_of-servers : goal.invariant_of-servers
invariant_of-servers c =
    either_way c.take_server.result c.take_server.ensures.ok c.take_server.ensures.err
    (λ made. put_names c.args.server c.args.port c.args.servers.now c.servers.inside.ends.items c.take_server.new.servers.items c.in-Some.place (λ s. taken s.state c.args.segment.now.head c.args.segment.now.body) c.servers.view_is made
    c.servers.inside.names.keys c.servers.invariant c.in-Some.ensures.within)
    (λ same. c.servers.invariant ∙ ap (λ xs. Rattle.std.specs.Prelude.map end_name xs) (sym same))

pub returns-in-Some-clause-there : goal.returns-in-Some-clause-there
returns-in-Some-clause-there c = on_ok c.take_server.result
    (λ made. put_named c.args.server c.args.port c.args.servers.now c.servers.inside.ends.items c.take_server.new.servers.items c.in-Some.place (λ s. taken s.state c.args.segment.now.head c.args.segment.now.body) c.servers.view_is made
    c.requires c.in-Some.ensures.found)
    c.take_server.ensures.ok

pub returns-in-Some-clause-made : goal.returns-in-Some-clause-made
returns-in-Some-clause-made c = on_ok c.take_server.result (λ made none. found_none c.args.servers.now c.in-Some.place c.in-Some.ensures.within (c.in-Some.ensures.found ∙ none)) c.take_server.ensures.ok
