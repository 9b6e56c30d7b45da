-- Whom a segment comes from, by which flow it was sent, and of which client's connection an end is.
use Rattle.std.specs.Prelude.{Option, None, slice_get, option_and_then}
use Rattle.flow_id.specs.declared.key.Flow.{Flow}
use Rattle.job_core.specs.Aims.{aimed}
use Rattle.job_core.specs.declared.aim.Aim.{Aim}
use Rattle.rule_table.specs.Setups.{SetupView}
use Rattle.tcp_segment.specs.declared.segment.Segment.{Segment}
use Rattle.world_model.specs.declared.at.At.{At}
use Rattle.world_model.specs.declared.at.At.TheVariants.{Client, Server}
use Rattle.world_model.specs.declared.client.ClientSpec.{ClientSpec}
use Rattle.world_model.specs.Openings.{opening_of}
use Rattle.world_model.specs.Posted.{Sender, balancer}
use Rattle.world_model.specs.World.{World, ServerEnd, end_of_server}

-- whom a segment that goes to the balancer comes from
abbrev pub aim_of : SetupView → Segment → Aim
aim_of setup s = aimed setup s.source s.target s.head

-- the flow of a segment that the balancer sent
abbrev pub flow_sent : Sender → Option Flow
flow_sent (balancer flow) = flow
flow_sent _ = None

-- the flow by whose SYN a server's end was made
abbrev pub flow_made : World → ServerEnd → Option Flow
flow_made w s = option_and_then (λ x. flow_sent x.by) (slice_get w.sent s.maker)

-- the honest client of whose connection the end is
abbrev pub client_behind : World → At → Option ClientSpec
client_behind w (Client k) = slice_get w.clients k
client_behind w (Server server port) = option_and_then (opening_of w) (option_and_then (flow_made w) (end_of_server w server port))
