-- What the balancer acknowledges to an end is stored, or the end's peer has acknowledged it.
use Rattle.std.specs.Prelude.{◌≡◌, ◌<◌, ℕ, ◌⊎◌, Bool, Option, Some, true, false, slice_get}
use Rattle.flow_id.specs.Ports.{shard_of}
use Rattle.flow_id.specs.declared.key.Flow.{Flow}
use Rattle.flow_id.specs.declared.key.Key.{Key}
use Rattle.flow_id.specs.declared.key.Key.TheVariants as key
use Rattle.flow_record.specs.Records.{is_syn, syn_number, is_open, open_number}
use Rattle.flow_record.specs.declared.record.Record.{Record}
use Rattle.replica_cell.specs.Stores.{word}
use Rattle.seq_space.specs.Positions.{number_of}
use Rattle.seq_space.specs.declared.Num.{Num}
use Rattle.tcp_end.specs.EndState.{EndState}
use Rattle.tcp_segment.specs.Flags.{has_ack, has_rst}
use Rattle.world_model.specs.declared.at.At.{At}
use Rattle.world_model.specs.declared.at.At.TheVariants.{Client, Server}
use Rattle.world_model.specs.Enabled.{goes_to_end}
use Rattle.world_model.specs.Openings.{IsOpening}
use Rattle.world_model.specs.Posted.{Posted, end}
use Rattle.world_model.specs.Streams.{IsEndFor}
use Rattle.world_model.specs.World.{World, ServerEnd, bench_at}

-- the store's word on a key of the flow's
abbrev pub word_of : World → Flow → Key → Option Record
word_of w flow k = word (bench_at w (shard_of flow w.setup.shards)).cells k

-- the store has a record of this kind under the key, with this first number, and the segment acknowledges the SYN of that number
pub record AcksStored (w : World) (flow : Flow) (k : Key) (kind : Record → Bool) (number : Record → ℕ) (first : Num) (x : Posted) : Type 0 where
  pub r : Record
  pub stored : word_of w flow k ≡ Some r
  pub is_kind : kind r ≡ true
  pub numbered : number r ≡ first.0
  pub acks : x.segment.head.ack.0 ≡ number_of first.0 1

-- an earlier segment of that end truly acknowledges a position of the stream that begins with this number, and this
-- segment acknowledges the same
pub record PeerAcked (w : World) (at : At) (first n : ℕ) (x : Posted) : Type 0 where
  pub index : ℕ
  pub earlier : index < n
  pub segment : Posted
  pub sent : slice_get w.sent index ≡ Some segment
  pub by : segment.by ≡ end at
  pub position : ℕ
  pub acknowledges : segment.acknowledged ≡ Some position
  pub acks : x.segment.head.ack.0 ≡ number_of first position

-- the balancer's segment goes to this end, has ACK and no RST
pub record Acknowledges (w : World) (at : At) (n : ℕ) (x : Posted) : Type 0 where
  pub sent : slice_get w.sent n ≡ Some x
  pub goes : goes_to_end w at x ≡ true
  pub ack : has_ack x.segment.head.flags ≡ true
  pub no_rst : has_rst x.segment.head.flags ≡ false

-- What goes to the client acknowledges its stored SYN, or what the server's end has acknowledged; what goes to the server's
-- end its stored SYN, or what the client has acknowledged. What is stored stays stored, and what was acknowledged stays
-- acknowledged, so that this holds from the moment on at which the segment is sent.
pub record AcksAreBackedFor (w : World) (k : ℕ) (flow : Flow) (first : Num) : Type 0 where
  pub to_client : (n : ℕ) (x : Posted) → Acknowledges w (Client k) n x
      → AcksStored w flow (key.Syn flow) is_syn syn_number first x ⊎ ((server : ℕ) × (port : ℕ) × (s : ServerEnd) × IsEndFor w flow server port s × PeerAcked w (Server server port) first.0 n x)
  pub to_server : (server port : ℕ) (s : ServerEnd) (n : ℕ) (x : Posted) → IsEndFor w flow server port s → Acknowledges w (Server server port) n x
      → AcksStored w flow (key.Open flow) is_open open_number s.state.first x ⊎ PeerAcked w (Client k) s.state.first.0 n x

abbrev pub AcksAreBacked : World → Type 0
AcksAreBacked w = (k : ℕ) (flow : Flow) (first : Num) (state : Option EndState) → IsOpening w k flow first state → AcksAreBackedFor w k flow first
