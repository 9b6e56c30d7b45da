use Rattle.world_model.proofs.Named.{put_named, put_names}
use Rattle.world_model.proofs.swapping.swap_named.Goals as goal

pub invariant_of-servers : goal.invariant_of-servers
invariant_of-servers c =
    put_names c.args.server c.args.port c.args.servers.now c.servers.inside.ends.items c.swap_server.new.servers.items c.in-Some.place (λ s. c.args.end.now) c.servers.view_is c.swap_server.ensures.place
    c.servers.inside.names.keys c.servers.invariant c.in-Some.ensures.within

pub returns-in-Some-clause-place : goal.returns-in-Some-clause-place
returns-in-Some-clause-place c =
    put_named c.args.server c.args.port c.args.servers.now c.servers.inside.ends.items c.swap_server.new.servers.items c.in-Some.place (λ s. c.args.end.now) c.servers.view_is c.swap_server.ensures.place
    c.requires c.in-Some.ensures.found
