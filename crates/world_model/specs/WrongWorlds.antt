-- Worlds that no run leads to, each excluded by one thing that every world has.
use Rattle.std.specs.Prelude.{ℕ, Some, false, List, [], ◌∷◌, drop}
use Rattle.flow_id.specs.declared.key.Flow.{Flow}
use Rattle.tcp_end.specs.EndState.{EndState}
use Rattle.tcp_segment.specs.OptionArea.{no_options}
use Rattle.world_model.specs.Acks.{AcksAreBacked}
use Rattle.world_model.specs.Clients.{flow_of}
use Rattle.world_model.specs.FirstFlow.{example_setup, example_client, beginning, request, client_done, server_done}
use Rattle.world_model.specs.Posted.{Posted, balancer, nowhere}
use Rattle.world_model.specs.Streams.{StreamsAgree}
use Rattle.world_model.specs.World.{World, ServerEnd}

abbrev pub example_flow : Flow
example_flow = flow_of example_setup example_client

-- the world in which the client's end is so, these are the servers' ends, and these were sent
abbrev pub world_of : EndState → List ServerEnd → List Posted → World
world_of client servers sent = record beginning { ends = Some client ∷ []; servers = servers; sent = sent }

-- ---- what the balancer sent
abbrev pub out_to : ℕ → ℕ → ℕ → ℕ → ℕ → ℕ → List ℕ → Posted
out_to port target target_port flags seq ack body = nowhere (balancer (Some example_flow)) (record {
  source = 3325256714;
  target = target;
  head = record {
    source_port = port;
    target_port = target_port;
    seq = record { 0 = seq };
    ack = record { 0 = ack };
    flags = flags;
    window = 64240;
    urgent = 0;
    options = no_options;
  };
  body = body;
})

-- an acknowledgment of the request, to the client
abbrev pub early_ack : Posted
early_ack = out_to 80 3221225991 40000 16 1623089033 1070 []

-- the SYN to the first server, to the second, and the request to neither
abbrev pub first_syn : Posted
first_syn = out_to 17163 167772161 8080 2 1000 0 []

abbrev pub second_syn : Posted
second_syn = out_to 17163 167772162 8080 2 1000 0 []

abbrev pub astray : Posted
astray = out_to 17163 16909060 8080 24 1001 70001 request

-- ---- servers' ends that the first SYN made
abbrev pub end_with : ℕ → EndState → ServerEnd
end_with server state = record { server = server; port = 17163; maker = 0; state = state }

-- ---- the worlds
-- the balancer acknowledges the request before a server has
abbrev pub acknowledged_early : World
acknowledged_early = world_of client_done [] (early_ack ∷ [])

-- it opens to two servers
abbrev pub opened_twice : World
opened_twice = world_of client_done [] (first_syn ∷ second_syn ∷ [])

-- it sends the request where no server is
abbrev pub gone_astray : World
gone_astray = world_of client_done [] (first_syn ∷ astray ∷ [])

-- a server's end has received the request without its beginning
abbrev pub beginning_lost : World
beginning_lost = world_of client_done (end_with 0 (record server_done { received = drop 5 request }) ∷ []) (first_syn ∷ [])

-- the client's end saw a close that the server's end has not made
abbrev pub never_closed : World
never_closed = world_of client_done (end_with 0 (record server_done { closed = false }) ∷ []) (first_syn ∷ [])

-- there are two servers' ends of the flow, of two servers and of one
abbrev pub two_servers : World
two_servers = world_of client_done (end_with 0 server_done ∷ end_with 1 server_done ∷ []) (first_syn ∷ [])

abbrev pub one_server_twice : World
one_server_twice = world_of client_done (end_with 0 server_done ∷ end_with 0 server_done ∷ []) (first_syn ∷ [])

pub record WrongWorlds : Type 0 where
  pub acknowledged : AcksAreBacked acknowledged_early → ⊥
  pub opened : StreamsAgree opened_twice → ⊥
  pub astray : StreamsAgree gone_astray → ⊥
  pub lost : StreamsAgree beginning_lost → ⊥
  pub closed : StreamsAgree never_closed → ⊥
  pub servers : StreamsAgree two_servers → ⊥
  pub twice : StreamsAgree one_server_twice → ⊥
