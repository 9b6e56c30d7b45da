-- A first flow, worked out: a client asks one of two servers for a page, has its answer, and both close. The balancer has two
-- instances, three replicas with three copies of each record, and four shards; instance 1 handles all, at shard 3.
use Rattle.std.specs.Prelude.{◌≡◌, ℕ, ◌++◌, Some, None, true, false, List, [], ◌∷◌, replicate, flat_map, codes}
use Rattle.std.specs.List.{range_with_len}
use Rattle.bench.specs.declared.call.Call.{Call}
use Rattle.bench.specs.declared.call.Call.TheVariants.{Take, Step}
use Rattle.rule_table.specs.Setups.{SetupView, IsSetup}
use Rattle.tcp_end.specs.EndState.{EndState}
use Rattle.tcp_end.specs.declared.sent.Sent.{Sent}
use Rattle.tcp_segment.specs.OptionArea.{no_options, mss_only}
use Rattle.tcp_segment.specs.declared.options.Options.{Options}
use Rattle.world_model.specs.declared.at.At.{At}
use Rattle.world_model.specs.declared.at.At.TheVariants.{Client, Server}
use Rattle.world_model.specs.declared.client.ClientSpec.{ClientSpec}
use Rattle.world_model.specs.Clients.{AreClients}
use Rattle.world_model.specs.Events.{WorldEvent, opens, writes, closes, sends, receives, takes, calls}
use Rattle.world_model.specs.Flows.{aim_of}
use Rattle.world_model.specs.Routes.{Rest, route_of, segment_on}
use Rattle.world_model.specs.Runs.{after_all, AreEnabled, calls_in, AllLive}
use Rattle.world_model.specs.World.{World, start, end_at}

-- ---- who takes part
-- the service is 198.51.100.10:80, the servers are 10.0.0.1:8080 and 10.0.0.2:8080
abbrev pub example_setup : SetupView
example_setup = record {
  instances = 2;
  replicas = 3;
  copies = 3;
  shards = 4;
  secret = range_with_len 0 32;
  service = record { number = 0; address = 3325256714; port = 80 };
  servers = record { address = 167772161; port = 8080 } ∷ record { address = 167772162; port = 8080 } ∷ [];
  rules = record { host = Some (codes "shop.example"); path = Some (codes "/cart"); cookie = None; to = (0, 1) ∷ [] }
      ∷ record { host = None; path = None; cookie = Some (codes "beta=1"); to = (1, 1) ∷ [] }
      ∷ record { host = Some (codes "shop.example"); path = None; cookie = None; to = (0, 1) ∷ (1, 1) ∷ [] } ∷ [];
}

-- 192.0.2.7:40000
abbrev pub example_client : ClientSpec
example_client = record { address = 3221225991; port = 40000; isn = record { 0 = 1000 } }

abbrev pub beginning : World
beginning = start example_setup (example_client ∷ [])

-- the client's end, and that of the first server towards the balancer's port
abbrev pub here : At
here = Client 0

abbrev pub there : At
there = Server 0 17163

abbrev pub request : List ℕ
request = codes "GET /cart/1 HTTP/1.1\r\nHost: Shop.Example:80\r\nCookie: id=9; beta=1\r\n\r\n"

abbrev pub answer : List ℕ
answer = replicate 200 7

-- ---- what they send
-- a segment that an end sends at this position of its stream, with a window of 64,240, and the steps that its handling takes
pub record Row : Type 0 where
  pub by : At
  pub sent : Sent
  pub options : Options
  pub steps : ℕ

abbrev pub row : At → ℕ → ℕ → ℕ → ℕ → List ℕ → Options → ℕ → Row
row by position flags seq ack body options steps = record {
  by = by;
  sent = record { position = position; flags = flags; seq = record { 0 = seq }; ack = record { 0 = ack }; body = body };
  options = options;
  steps = steps;
}

abbrev pub rest_of : Row → Rest
rest_of r = record { window = 64240; urgent = 0; options = r.options }

-- the SYN; an acknowledgment; the request; the SYN-ACK; an acknowledgment; the answer; an acknowledgment; the close of the
-- server and of the client, and the last acknowledgment
abbrev pub syn : Row
syn = row here 0 2 1000 0 [] (record no_options { mss = Some 1460; scale = Some 7; sack_permitted = true }) 3

abbrev pub known : Row
known = row here 1 16 1001 1623089033 [] no_options 4

abbrev pub asks : Row
asks = row here 1 24 1001 1623089033 request no_options 10

abbrev pub syn_ack : Row
syn_ack = row there 0 18 70000 1001 [] (mss_only 1460) 9

abbrev pub asked : Row
asked = row there 1 16 70001 1070 [] no_options 0

abbrev pub answers : Row
answers = row there 1 24 70001 1070 answer no_options 0

abbrev pub answered : Row
answered = row here 70 16 1070 1623089233 [] no_options 0

abbrev pub server_closes : Row
server_closes = row there 201 17 70201 1070 [] no_options 3

abbrev pub client_closes : Row
client_closes = row here 70 17 1070 1623089234 [] no_options 3

abbrev pub closed : Row
closed = row there 202 16 70202 1071 [] no_options 0

-- ---- the run
-- the end sends it, and the instance handles it as the record with this number; it is the segment with this index
abbrev pub handled : ℕ → ℕ → Row → List WorldEvent
handled number index r = sends r.by r.sent (rest_of r) ∷ takes 1 number index ∷ replicate r.steps (calls 3 (Step 1))

abbrev pub takes_up : At → ℕ → WorldEvent
takes_up at index = receives at index (record { 0 = 70000 })

abbrev pub first_events : List WorldEvent
first_events =
    opens 0 ∷ handled 0 0 syn ++ takes_up here 1
    ∷ handled 1 2 known ++ writes here request
    ∷ handled 2 3 asks ++ takes_up there 4
    ∷ handled 3 5 syn_ack ++ takes_up there 6 ∷ takes_up there 7
    ∷ handled 4 8 asked ++ takes_up here 9 ∷ writes there answer
    ∷ handled 5 10 answers ++ takes_up here 11
    ∷ handled 6 12 answered ++ takes_up there 13 ∷ closes there
    ∷ handled 7 14 server_closes ++ takes_up here 15 ∷ closes here
    ∷ handled 8 16 client_closes ++ takes_up there 17
    ∷ handled 9 18 closed ++ takes_up here 19 ∷ []

abbrev pub ending : World
ending = after_all beginning first_events

-- ---- the history of shard 3
abbrev pub handling : ℕ × Row → List Call
handling (number, r) =
    let segment = segment_on (route_of example_setup (example_client ∷ []) r.by) r.sent (rest_of r) in
    Take 1 number (aim_of example_setup segment) segment ∷ replicate r.steps (Step 1)

abbrev pub first_history : List Call
first_history = flat_map handling ((0, syn) ∷ (1, known) ∷ (2, asks) ∷ (3, syn_ack) ∷ (4, asked) ∷ (5, answers) ∷ (6, answered) ∷ (7, server_closes) ∷ (8, client_closes) ∷ (9, closed) ∷ [])

-- ---- the ends
abbrev pub client_done : EndState
client_done = record { first = record { 0 = 1000 }; written = request; closed = true; acked = 71; peer = Some (record { 0 = 1623089032 }); received = answer; saw_close = true; dead = false }

abbrev pub server_done : EndState
server_done = record { first = record { 0 = 70000 }; written = answer; closed = true; acked = 202; peer = Some (record { 0 = 1000 }); received = request; saw_close = true; dead = false }

-- this run may happen, each list of replicas lives after it, each end has received what the other wrote and saw its close, and
-- these are the calls of its shard
pub record FirstFlow : Type 0 where
  pub good : IsSetup example_setup
  pub clients : AreClients example_setup (example_client ∷ [])
  pub can : AreEnabled beginning first_events
  pub live : AllLive ending
  pub client : end_at ending here ≡ Some client_done
  pub server : end_at ending there ≡ Some server_done
  pub history : calls_in 3 beginning first_events ≡ first_history
