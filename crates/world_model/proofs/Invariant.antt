-- What holds of the world at every moment of a run, together with the calls that each shard's bench has had. Each fact of
-- something that was there stays as it is while the world goes on: what is decided stays decided, what is written is
-- written further, what was sent stays sent.
use Rattle.std.specs.Prelude.{◌≡◌, ◌<◌, ◌≤◌, ◌^◌, ℕ, ◌+◌, ◌⊎◌, Bool, true, false, Option, Some, None, List, [], length, slice_get}
use Rattle.seq_space.specs.declared.Num.{Num}
use Rattle.seq_space.specs.Positions.{number_of}
use Rattle.flow_id.specs.Ports.{shard_of}
use Rattle.flow_id.specs.declared.key.Flow.{Flow}
use Rattle.flow_id.specs.declared.key.Key.{Key}
use Rattle.flow_id.specs.declared.key.Key.TheVariants as key
use Rattle.flow_record.specs.Records.{syn_number, choice_server, port_owner, open_server, open_port, open_number}
use Rattle.flow_record.specs.declared.record.Record.{Record}
use Rattle.client_hand.specs.SynAck.{forged_of}
use Rattle.tcp_segment.specs.Flags.{has_fin, has_syn, has_rst, has_ack}
use Rattle.tcp_segment.specs.declared.segment.Segment.{Segment}
use Rattle.tcp_end.specs.EndState.{EndState}
use Rattle.tcp_end.specs.Streams.{IsPrefix, ShowsStream, HasReceived}
use Rattle.rule_table.specs.Matching.{place_of, admits}
use Rattle.rule_table.specs.Setups.{SetupView, IsSetup}
use Rattle.job_core.specs.Aims.{flow_from}
use Rattle.bench.specs.declared.call.Call.{Call}
use Rattle.bench.specs.Bench.{JobState, desk_at, job_at, held_of}
use Rattle.bench.specs.Calls.{AreCalls}
use Rattle.bench.specs.Histories.{Mark, bench_after, log_after, Decides, Proposes}
use Rattle.world_model.specs.declared.at.At.{At}
use Rattle.world_model.specs.declared.at.At.TheVariants.{Client, Server}
use Rattle.world_model.specs.declared.client.ClientSpec.{ClientSpec}
use Rattle.world_model.specs.Flows.{flow_made}
use Rattle.world_model.specs.Clients.{flow_of, IsClient, AreClients}
use Rattle.world_model.proofs.Relations.{Goes, GoesBack, IsIn, IsStray}
use Rattle.world_model.specs.Outs.{index_taken}
use Rattle.world_model.specs.Routes.{route_of}
use Rattle.world_model.specs.Posted.{Posted, Sender, end, balancer, stranger}
use Rattle.world_model.specs.Streams.{written_by, closed_by, IsEndFor}
use Rattle.world_model.specs.World.{World, Shard, ServerEnd, end_of_server, end_of_client, shard_at}

-- the calls of each shard's bench
abbrev pub Calls : Type 0
Calls = ℕ → List Call

abbrev pub log_at : SetupView → Calls → ℕ → List Mark
log_at setup calls g = log_after setup g (calls g)

-- decided at the flow's shard
abbrev pub DecidesOf : SetupView → Calls → Flow → Key → Record → Type 0
DecidesOf setup calls flow k r = Decides (log_at setup calls (shard_of flow setup.shards)) k r

-- the flow's Open is decided
abbrev pub IsOpened : SetupView → Calls → Flow → Type 0
IsOpened setup calls flow = (r : Record) × DecidesOf setup calls flow (key.Open flow) r

-- ---- what a segment's numbers are counted from
-- the first numbers of the sender's and of the receiver's stream, and the sender's stream so far
pub record Leg : Type 0 where
  pub first : Num
  pub back : Num
  pub stream : List ℕ
  pub closed : Bool

-- a reset, which stands nowhere
pub record IsReset (x : Posted) : Type 0 where
  pub nowhere : x.position ≡ None
  pub nothing : x.acknowledged ≡ None
  pub rst : has_rst x.segment.head.flags ≡ true
  pub no_syn : has_syn x.segment.head.flags ≡ false

-- the SYN of the sender's stream
pub record IsSynOf (leg : Leg) (x : Posted) : Type 0 where
  pub position : x.position ≡ Some 0
  pub seq : x.segment.head.seq ≡ leg.first
  pub syn : has_syn x.segment.head.flags ≡ true
  pub no_rst : has_rst x.segment.head.flags ≡ false
  pub no_fin : has_fin x.segment.head.flags ≡ false
  pub body : x.segment.body ≡ []

-- it acknowledges nothing
pub record AcksNothing (x : Posted) : Type 0 where
  pub nothing : x.acknowledged ≡ None
  pub no_ack : has_ack x.segment.head.flags ≡ false

-- it acknowledges a position of the receiver's stream
pub record AcksBack (leg : Leg) (x : Posted) : Type 0 where
  pub position : ℕ
  pub acknowledges : x.acknowledged ≡ Some position
  pub ack : has_ack x.segment.head.flags ≡ true
  pub number : x.segment.head.ack ≡ record { 0 = number_of leg.back.0 position }

-- a part of the sender's stream
pub record IsPartOf (leg : Leg) (x : Posted) : Type 0 where
  pub at : ℕ
  pub position : x.position ≡ Some at
  pub shows : ShowsStream leg.first leg.stream leg.closed at x.segment.head.seq x.segment.head.flags x.segment.body
  pub no_syn : has_syn x.segment.head.flags ≡ false
  pub no_rst : has_rst x.segment.head.flags ≡ false

pub data Carries (leg : Leg) (x : Posted) : Type 0 where
  resets : IsReset x → Carries leg x
  opens : IsSynOf leg x → AcksNothing x ⊎ AcksBack leg x → Carries leg x
  shows : IsPartOf leg x → AcksBack leg x → Carries leg x

module _ (setup : SetupView) (clients : List ClientSpec) where
  -- the balancer's first number towards the client of the flow
  abbrev pub forged : Flow → Num
  forged flow = record { 0 = forged_of setup flow }

  -- a client's own segments, and these as they go to a server whose stream begins with this number
  abbrev pub client_leg : World → ℕ → ClientSpec → Leg
  client_leg w k client = record {
    first = client.isn;
    back = forged (flow_of setup client);
    stream = written_by (end_of_client w k);
    closed = closed_by (end_of_client w k);
  }

  abbrev pub to_server_leg : World → ℕ → ClientSpec → ServerEnd → Leg
  to_server_leg w k client s = record {
    first = client.isn;
    back = s.state.first;
    stream = written_by (end_of_client w k);
    closed = closed_by (end_of_client w k);
  }

  -- a server's own segments, and these as they go to the client
  abbrev pub server_leg : ClientSpec → ServerEnd → Leg
  server_leg client s = record { first = s.state.first; back = client.isn; stream = s.state.written; closed = s.state.closed }

  abbrev pub to_client_leg : ClientSpec → ServerEnd → Leg
  to_client_leg client s = record { first = forged (flow_of setup client); back = client.isn; stream = s.state.written; closed = s.state.closed }

  -- a flow of an address and port that are no server's
  pub record IsFlow (flow : Flow) : Type 0 where
    pub is : flow ≡ flow_from setup flow.address flow.port
    pub no_server : place_of setup.servers flow.address flow.port ≡ None

  -- ---- what was sent
  -- by a client: while the flow's Open is not decided, nothing behind position 2 ^ 31
  pub record ClientSent (w : World) (calls : Calls) (k n : ℕ) (x : Posted) : Type 0 where
    pub client : ClientSpec
    pub is : IsClient clients k client
    pub goes : Goes (route_of setup clients (Client k)) x.segment
    pub carries : Carries (client_leg w k client) x
    pub near : IsOpened setup calls (flow_of setup client) ⊎ ((p : ℕ) → x.position ≡ Some p → p + length x.segment.body ≤ 2 ^ 31)

  -- by a server: where it is no reset its end is there, and a SYN acknowledges and has the end's first number
  pub record EndSent (w : World) (server port n : ℕ) (x : Posted) : Type 0 where
    pub end : ServerEnd
    pub here : end_of_server w server port ≡ Some end
    pub syn : has_syn x.segment.head.flags ≡ true → x.segment.head.seq ≡ end.state.first
    pub flow : Flow
    pub made : flow_made w end ≡ Some flow
    pub honest : (k : ℕ) (client : ClientSpec) → IsClient clients k client → flow ≡ flow_of setup client → Carries (server_leg client end) x

  pub record ServerSent (w : World) (server port n : ℕ) (x : Posted) : Type 0 where
    pub known : server < length setup.servers
    pub goes : Goes (route_of setup clients (Server server port)) x.segment
    pub what : IsReset x ⊎ EndSent w server port n x

  -- an earlier segment of that end stands where this one stands, and acknowledges what it acknowledges
  pub record Passes (w : World) (at : At) (n : ℕ) (x : Posted) : Type 0 where
    pub index : ℕ
    pub earlier : index < n
    pub segment : Posted
    pub sent : slice_get w.sent index ≡ Some segment
    pub by : segment.by ≡ end at
    pub acknowledged : segment.acknowledged ≡ x.acknowledged

  -- by the balancer to a server, of an honest client's flow: a reset, the client's SYN, or once the flow's Open is decided
  -- a part of the client's stream
  pub data SaysToServer (w : World) (calls : Calls) (k : ℕ) (client : ClientSpec) (server port n : ℕ) (x : Posted) : Type 0 where
    resets : IsReset x → SaysToServer w calls k client server port n x
    opens : x.segment.head.seq ≡ client.isn → x.position ≡ Some 0 → has_syn x.segment.head.flags ≡ true → has_rst x.segment.head.flags ≡ false → AcksNothing x
        → SaysToServer w calls k client server port n x
    shows : (r : Record) (s : ServerEnd) → DecidesOf setup calls (flow_of setup client) (key.Open (flow_of setup client)) r
        → end_of_server w server port ≡ Some s → open_number r ≡ s.state.first.0
        → IsPartOf (to_server_leg w k client s) x → AcksBack (to_server_leg w k client s) x
        → (x.segment.head.ack.0 ≡ number_of (open_number r) 1) ⊎ Passes w (Client k) n x
        → SaysToServer w calls k client server port n x

  -- the port is decided for the flow at its shard
  pub record Owns (calls : Calls) (flow : Flow) (server port : ℕ) : Type 0 where
    pub owner : Record
    pub decided : DecidesOf setup calls flow (key.Port setup.service.number server port) owner
    pub owned : port_owner owner ≡ flow

  pub record ToServer (w : World) (calls : Calls) (flow : Flow) (n : ℕ) (x : Posted) : Type 0 where
    pub server : ℕ
    pub port : ℕ
    pub known : server < length setup.servers
    pub goes : GoesBack (route_of setup clients (Server server port)) x.segment
    pub owns : Owns calls flow server port
    pub honest : (k : ℕ) (client : ClientSpec) → IsClient clients k client → flow ≡ flow_of setup client → SaysToServer w calls k client server port n x

  -- to a client: a reset, the SYN-ACK of a decided Syn, or once the flow's Open is decided a part of the server's stream
  pub data SaysToClient (w : World) (calls : Calls) (k : ℕ) (client : ClientSpec) (n : ℕ) (x : Posted) : Type 0 where
    resets : IsReset x → SaysToClient w calls k client n x
    opens : (r : Record) → DecidesOf setup calls (flow_of setup client) (key.Syn (flow_of setup client)) r
        → x.segment.head.seq ≡ forged (flow_of setup client) → x.position ≡ Some 0 → has_syn x.segment.head.flags ≡ true → has_ack x.segment.head.flags ≡ true
        → has_rst x.segment.head.flags ≡ false → x.segment.head.ack.0 ≡ number_of (syn_number r) 1
        → SaysToClient w calls k client n x
    shows : (server port : ℕ) (s : ServerEnd) → IsOpened setup calls (flow_of setup client) → IsEndFor w (flow_of setup client) server port s
        → IsPartOf (to_client_leg client s) x → AcksBack (to_client_leg client s) x → Passes w (Server server port) n x
        → SaysToClient w calls k client n x

  pub record ToClient (w : World) (calls : Calls) (flow : Flow) (n : ℕ) (x : Posted) : Type 0 where
    pub source : x.segment.source ≡ setup.service.address
    pub source_port : x.segment.head.source_port ≡ setup.service.port
    pub target : x.segment.target ≡ flow.address
    pub target_port : x.segment.head.target_port ≡ flow.port
    pub honest : (k : ℕ) (client : ClientSpec) → IsClient clients k client → flow ≡ flow_of setup client → SaysToClient w calls k client n x

  -- by the balancer, in a handling of a flow's, or of none that it knows
  pub record FlowSent (w : World) (calls : Calls) (flow : Flow) (n : ℕ) (x : Posted) : Type 0 where
    pub known : IsFlow flow
    pub way : ToServer w calls flow n x ⊎ ToClient w calls flow n x

  abbrev pub OutSent : World → Calls → Option Flow → ℕ → Posted → Type 0
  OutSent w calls None n x = IsReset x
  OutSent w calls (Some flow) n x = FlowSent w calls flow n x

  abbrev pub IsSentBy : World → Calls → ℕ → Posted → Sender → Type 0
  IsSentBy w calls n x (end (Client k)) = ClientSent w calls k n x
  IsSentBy w calls n x (end (Server server port)) = ServerSent w server port n x
  IsSentBy w calls n x (balancer flow) = OutSent w calls flow n x
  IsSentBy w calls n x stranger = IsStray setup clients x.segment

  -- ---- ends
  abbrev pub KnowsPeer : Flow → EndState → Option Num → Type 0
  KnowsPeer flow e None = (e.acked ≡ 0) × (e.received ≡ []) × (e.saw_close ≡ false)
  KnowsPeer flow e (Some peer) = (peer ≡ forged flow) × (1 ≤ e.acked)

  -- what a client received is of the one server's end that a SYN of its flow made
  pub record ReceivedFrom (w : World) (flow : Flow) (e : EndState) : Type 0 where
    pub server : ℕ
    pub port : ℕ
    pub end : ServerEnd
    pub is : IsEndFor w flow server port end
    pub has : HasReceived end.state.written end.state.closed e

  pub record ClientIs (w : World) (calls : Calls) (k : ℕ) (e : EndState) : Type 0 where
    pub client : ClientSpec
    pub is : IsClient clients k client
    pub first : e.first ≡ client.isn
    pub number : client.isn.0 < 2 ^ 32
    pub peer : KnowsPeer (flow_of setup client) e e.peer
    pub acked : IsOpened setup calls (flow_of setup client) ⊎ (e.acked ≤ 1)
    pub received : ((e.received ≡ []) × (e.saw_close ≡ false)) ⊎ ReceivedFrom w (flow_of setup client) e

  pub record ServerIs (w : World) (calls : Calls) (server port : ℕ) (s : ServerEnd) : Type 0 where
    pub known : server < length setup.servers
    pub number : s.state.first.0 < 2 ^ 32
    pub peer : Num
    pub knows : s.state.peer ≡ Some peer
    pub flow : Flow
    pub made : flow_made w s ≡ Some flow
    pub owns : Owns calls flow server port
    pub honest : (k : ℕ) (client : ClientSpec) → IsClient clients k client → flow ≡ flow_of setup client
        → (peer ≡ client.isn) × HasReceived (written_by (end_of_client w k)) (closed_by (end_of_client w k)) s.state

  -- ---- what is proposed
  pub record OpensEnd (w : World) (r : Record) : Type 0 where
    pub end : ServerEnd
    pub here : end_of_server w (open_server r) (open_port r) ≡ Some end
    pub number : open_number r ≡ end.state.first.0

  abbrev pub IsProposed : World → Key → Record → Type 0
  IsProposed w (key.Syn flow) r = (k : ℕ) (client : ClientSpec) → IsClient clients k client → flow ≡ flow_of setup client → syn_number r ≡ client.isn.0
  IsProposed w (key.Choice flow) r = (k : ℕ) (client : ClientSpec) → IsClient clients k client → flow ≡ flow_of setup client
      → admits setup (written_by (end_of_client w k)) (choice_server r) ≡ true
  IsProposed w (key.Port service server port) r = IsFlow (port_owner r)
  IsProposed w (key.Open flow) r = OpensEnd w r
  IsProposed w (key.Fin flow side) r = Unit {0}
  IsProposed w (key.Gone flow) r = Unit {0}

  -- ---- shards
  -- the segment that an instance took last was sent, and not by the balancer
  pub record TookSent (w : World) (taken : List (Option ℕ)) (i : ℕ) (segment : Segment) : Type 0 where
    pub index : ℕ
    pub last : index_taken taken i ≡ Some index
    pub entry : Posted
    pub sent : slice_get w.sent index ≡ Some entry
    pub is : entry.segment ≡ segment
    pub by : IsIn entry.by

  -- a shard with this history
  pub record ShardFits (w : World) (g : ℕ) (s : Shard) (history : List Call) : Type 0 where
    pub are : AreCalls setup g history
    pub bench : s.bench ≡ bench_after setup g history
    pub proposals : (k : Key) (r : Record) → Proposes (log_after setup g history) k r → IsProposed w k r
    pub places : length s.taken ≡ setup.instances
    pub jobs : (i : ℕ) (job : JobState) → job_at s.bench.desks i ≡ Some job → TookSent w s.taken i job.segment
    pub held : (i k : ℕ) (client : ClientSpec) → IsClient clients k client
        → IsPrefix (held_of (desk_at s.bench.desks i).held (flow_of setup client)) (written_by (end_of_client w k))

  abbrev pub ShardIs : World → Calls → ℕ → Type 0
  ShardIs w calls g = ShardFits w g (shard_at w g) (calls g)

  -- ---- together
  pub record Holds (w : World) (calls : Calls) : Type 0 where
    pub good : IsSetup setup
    pub apart : AreClients setup clients
    pub end_count : length w.ends ≡ length clients
    pub shard_count : length w.shards ≡ setup.shards
    pub sent : (n : ℕ) (x : Posted) → slice_get w.sent n ≡ Some x → IsSentBy w calls n x x.by
    pub client : (k : ℕ) (e : EndState) → end_of_client w k ≡ Some e → ClientIs w calls k e
    pub server : (server port : ℕ) (s : ServerEnd) → end_of_server w server port ≡ Some s → ServerIs w calls server port s
    pub shard : (g : ℕ) → g < setup.shards → ShardIs w calls g

-- the invariant
abbrev pub Inv : World → Calls → Type 0
Inv w calls = Holds w.setup w.clients w calls
