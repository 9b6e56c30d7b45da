-- What each event changes.
use Rattle.std.specs.Prelude.{ℕ, Option, Some, None, List, [], ◌∷◌, ◌++◌, slice_get, slice_set}
use Rattle.std.specs.Option.{option_map_or}
use Rattle.bench.specs.declared.call.Call.{Call}
use Rattle.bench.specs.declared.call.Call.TheVariants.{Take}
use Rattle.bench.specs.Bench.{served}
use Rattle.bench.specs.Histories.{flow_at}
use Rattle.seq_space.specs.Positions.{number_of}
use Rattle.seq_space.specs.declared.Num.{Num}
use Rattle.tcp_end.specs.EndState.{EndState, client_end, server_end, written_more, closed_end, dead_end}
use Rattle.tcp_end.specs.Sending.{acknowledges, reset_to}
use Rattle.tcp_end.specs.Taking.{taken}
use Rattle.tcp_end.specs.declared.sent.Sent.{Sent as EndSent}
use Rattle.tcp_segment.specs.declared.segment.Segment.{Segment}
use Rattle.world_model.specs.declared.at.At.{At}
use Rattle.world_model.specs.declared.at.At.TheVariants.{Client, Server}
use Rattle.world_model.specs.declared.client.ClientSpec.{ClientSpec}
use Rattle.world_model.specs.Enabled.{home}
use Rattle.world_model.specs.Flows.{aim_of, client_behind}
use Rattle.world_model.specs.Events.{WorldEvent, opens, writes, closes, sends, aborts, receives, refuses, strays, takes, calls}
use Rattle.world_model.specs.Outs.{call_sends}
use Rattle.world_model.specs.Routes.{Rest, client_in, route_of, segment_on}
use Rattle.world_model.specs.Posted.{Posted, end, stranger, nowhere}
use Rattle.world_model.specs.World.{World, end_at, with_end, shard_at, bench_at}

-- ---- the list of what was sent
abbrev pub with_sent : World → Posted → World
with_sent w x = record w { sent = w.sent ++ x ∷ [] }

-- what an end sends stands in its stream, if its connection is an honest client's
abbrev pub placed_at : Option ClientSpec → At → EndState → EndSent → Segment → Posted
placed_at None at e s segment = nowhere (end at) segment
placed_at (Some client) at e s segment = record { segment = segment; by = end at; position = Some s.position; acknowledged = acknowledges e }

-- ---- ends
-- A server's end is made by the SYN with this index, and its stream begins with this number; an end that is there takes the
-- segment.
abbrev pub received_at : World → At → ℕ → Num → Segment → Option EndState → World
received_at w (Client k) n isn s None = w
received_at w (Server server port) n isn s None = record w { servers = w.servers ++ record { server = server; port = port; maker = n; state = server_end isn s.head.seq } ∷ [] }
received_at w at n isn s (Some e) = with_end w at (taken e s.head s.body)

-- the reset that refuses a SYN
abbrev pub refusal_of : Segment → EndSent
refusal_of s = record { position = 0; flags = 0x14; seq = record { 0 = 0 }; ack = record { 0 = number_of s.head.seq.0 1 }; body = [] }

-- ---- the balancer
abbrev pub take_call : World → ℕ → ℕ → Segment → Call
take_call w i item s = Take i item (aim_of w.setup s) s

-- a call of a shard's bench, its instances having taken these segments last, and what it sends
abbrev pub called : World → ℕ → List (Option ℕ) → Call → World
called w g taken c = record w {
  shards = slice_set w.shards g (record { bench = (served (bench_at w g) c).0; taken = taken });
  sent = w.sent ++ call_sends w taken (flow_at (bench_at w g) c) c (served (bench_at w g) c).1;
}

-- ---- together
abbrev pub after : World → WorldEvent → World
after w (opens k) = with_end w (Client k) (client_end (client_in w.clients k).isn)
after w (writes at bytes) = option_map_or (λ (e : EndState). with_end w at (written_more e bytes)) (end_at w at) w
after w (closes at) = option_map_or (λ (e : EndState). with_end w at (closed_end e)) (end_at w at) w
after w (sends at s rest) = option_map_or (λ (e : EndState). with_sent w (placed_at (client_behind w at) at e s (segment_on (route_of w.setup w.clients at) s rest))) (end_at w at) w
after w (aborts at rest) = option_map_or (λ (e : EndState). with_sent (with_end w at (dead_end e)) (nowhere (end at) (segment_on (route_of w.setup w.clients at) (reset_to e.peer e) rest))) (end_at w at) w
after w (receives at n isn) = option_map_or (λ (x : Posted). received_at w at n isn x.segment (end_at w at)) (slice_get w.sent n) w
after w (refuses server port n rest) = option_map_or (λ (x : Posted). with_sent w (nowhere (end (Server server port)) (segment_on (route_of w.setup w.clients (Server server port)) (refusal_of x.segment) rest))) (slice_get w.sent n) w
after w (strays s) = with_sent w (nowhere stranger s)
after w (takes i item n) = option_map_or (λ (x : Posted). let g = home w.setup (aim_of w.setup x.segment) in called w g (slice_set (shard_at w g).taken i (Some n)) (take_call w i item x.segment)) (slice_get w.sent n) w
after w (calls g c) = called w g (shard_at w g).taken c

-- ---- words for parts of these, for the code and the proofs
abbrev pub changed_by : World → At → (EndState → EndState) → Option EndState → World
changed_by w at change o = option_map_or (λ (e : EndState). with_end w at (change e)) o w

abbrev pub changed : World → At → (EndState → EndState) → World
changed w at change = changed_by w at change (end_at w at)

abbrev pub sent_by : World → At → EndSent → Rest → Option EndState → World
sent_by w at s rest o = option_map_or (λ (e : EndState). with_sent w (placed_at (client_behind w at) at e s (segment_on (route_of w.setup w.clients at) s rest))) o w

abbrev pub aborted_by : World → At → Rest → Option EndState → World
aborted_by w at rest o = option_map_or (λ (e : EndState). with_sent (with_end w at (dead_end e)) (nowhere (end at) (segment_on (route_of w.setup w.clients at) (reset_to e.peer e) rest))) o w

abbrev pub received : World → At → ℕ → Num → Option Posted → World
received w at n isn o = option_map_or (λ (x : Posted). received_at w at n isn x.segment (end_at w at)) o w

abbrev pub refused : World → ℕ → ℕ → Rest → Option Posted → World
refused w server port rest o = option_map_or (λ (x : Posted). with_sent w (nowhere (end (Server server port)) (segment_on (route_of w.setup w.clients (Server server port)) (refusal_of x.segment) rest))) o w

abbrev pub took : World → ℕ → ℕ → ℕ → Option Posted → World
took w i item n o = option_map_or (λ (x : Posted). let g = home w.setup (aim_of w.setup x.segment) in called w g (slice_set (shard_at w g).taken i (Some n)) (take_call w i item x.segment)) o w
