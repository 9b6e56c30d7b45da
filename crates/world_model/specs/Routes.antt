-- From where to where the segments of a connection go.
use Rattle.std.specs.Prelude.{ℕ, List, slice_get, unwrap_or}
use Rattle.rule_table.specs.Setups.{SetupView, server_of}
use Rattle.tcp_end.specs.declared.sent.Sent.{Sent}
use Rattle.tcp_segment.specs.declared.options.Options.{Options}
use Rattle.tcp_segment.specs.declared.segment.Segment.{Segment}
use Rattle.world_model.specs.declared.at.At.{At}
use Rattle.world_model.specs.declared.at.At.TheVariants.{Client, Server}
use Rattle.world_model.specs.declared.client.ClientSpec.{ClientSpec}

pub record Route : Type 0 where
  pub source : ℕ
  pub source_port : ℕ
  pub target : ℕ
  pub target_port : ℕ

abbrev pub client_in : List ClientSpec → ℕ → ClientSpec
client_in clients k = unwrap_or (slice_get clients k) (record { address = 0; port = 0; isn = record { 0 = 0 } })

-- the way of an end's own segments
abbrev pub route_of : SetupView → List ClientSpec → At → Route
route_of setup clients (Client k) = record {
  source = (client_in clients k).address;
  source_port = (client_in clients k).port;
  target = setup.service.address;
  target_port = setup.service.port;
}
route_of setup clients (Server server port) = record {
  source = (server_of setup server).address;
  source_port = (server_of setup server).port;
  target = setup.service.address;
  target_port = port;
}

-- what the rules of an end leave free in a segment that it sends
pub record Rest : Type 0 where
  pub window : ℕ
  pub urgent : ℕ
  pub options : Options

-- the segment that an end sends so, on this way
abbrev pub segment_on : Route → Sent → Rest → Segment
segment_on route s rest = record {
  source = route.source;
  target = route.target;
  head = record {
    source_port = route.source_port;
    target_port = route.target_port;
    seq = s.seq;
    ack = s.ack;
    flags = s.flags;
    window = rest.window;
    urgent = rest.urgent;
    options = rest.options;
  };
  body = s.body;
}
