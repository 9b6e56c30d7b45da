use Rattle.tcp_end.specs.EndState.{dead_end}
use Rattle.world_model.proofs.Named.{put_named, put_names}
use Rattle.world_model.proofs.aborting.abort_named.Goals as goal

pub invariant_of-servers : goal.invariant_of-servers
invariant_of-servers c =
    put_names c.args.server c.args.port c.args.servers.now c.servers.inside.ends.items c.abort_server.new.servers.items c.in-Some.place (λ s. dead_end s.state) c.servers.view_is c.abort_server.ensures.end
    c.servers.inside.names.keys c.servers.invariant c.in-Some.ensures.within

pub returns-in-Some-clause-end : goal.returns-in-Some-clause-end
returns-in-Some-clause-end c =
    put_named c.args.server c.args.port c.args.servers.now c.servers.inside.ends.items c.abort_server.new.servers.items c.in-Some.place (λ s. dead_end s.state) c.servers.view_is c.abort_server.ensures.end
    c.requires c.in-Some.ensures.found
