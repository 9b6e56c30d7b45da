-- What an end may send, as a relation, and what it does send, as a function (RFC 9293, 3.4 and 3.8, without timers).
use Rattle.std.specs.Prelude.{◌≡◌, ◌≤◌, ◌^◌, ℕ, ◌+◌, ◌-◌, ◌==◌, ◌&&◌, ◌⊎◌, Bool, true, false, if◌then◌else◌, List, [], length, take, drop, Option, Some, None}
use Rattle.seq_space.specs.declared.Num.{Num}
use Rattle.seq_space.specs.Positions.{number_of}
use Rattle.tcp_segment.specs.Flags.{has_fin, has_syn, has_rst, has_ack}
use Rattle.tcp_end.specs.declared.sent.Sent.{Sent}
use Rattle.tcp_end.specs.EndState.{EndState, expected}
use Rattle.tcp_end.specs.Streams.{ShowsStream}

-- the number of a position
abbrev pub num_at : Num → ℕ → Num
num_at first p = record { 0 = number_of first.0 p }

-- a SYN, of an end that does not know its peer
pub record IsSynSent (e : EndState) (s : Sent) : Type 0 where
  pub position : s.position ≡ 0
  pub seq : s.seq ≡ num_at e.first 0
  pub syn : has_syn s.flags ≡ true
  pub no_ack : has_ack s.flags ≡ false
  pub no_rst : has_rst s.flags ≡ false
  pub no_fin : has_fin s.flags ≡ false
  pub body : s.body ≡ []

-- a SYN-ACK, as long as the SYN is not acknowledged
pub record IsSynAckSent (peer : Num) (e : EndState) (s : Sent) : Type 0 where
  pub unacknowledged : e.acked ≡ 0
  pub position : s.position ≡ 0
  pub seq : s.seq ≡ num_at e.first 0
  pub syn : has_syn s.flags ≡ true
  pub acks : has_ack s.flags ≡ true
  pub ack : s.ack ≡ num_at peer (expected e)
  pub no_rst : has_rst s.flags ≡ false
  pub no_fin : has_fin s.flags ≡ false
  pub body : s.body ≡ []

-- how many positions a segment takes behind the one where it stands
abbrev pub span : Sent → ℕ
span s = length s.body + (if has_fin s.flags then 1 else 0)

-- any part of the own stream: from a position of at least 1, with a FIN only where it reaches the close, with the exact
-- position that is expected next, and not more than 2 ^ 31 - 1 positions past the highest acknowledged one
pub record IsStreamSent (peer : Num) (e : EndState) (s : Sent) : Type 0 where
  pub stream : ShowsStream e.first e.written e.closed s.position s.seq s.flags s.body
  pub no_syn : has_syn s.flags ≡ false
  pub no_rst : has_rst s.flags ≡ false
  pub acks : has_ack s.flags ≡ true
  pub ack : s.ack ≡ num_at peer (expected e)
  pub reach : s.position + span s ≤ e.acked + (2 ^ 31 - 1)

abbrev pub MaySendTo : Option Num → EndState → Sent → Type 0
MaySendTo None e s = IsSynSent e s
MaySendTo (Some peer) e s = IsSynAckSent peer e s ⊎ IsStreamSent peer e s

-- The end may send this. The flags that are not named, the window, the urgent pointer and the options are free.
pub record MaySend (e : EndState) (s : Sent) : Type 0 where
  pub living : e.dead ≡ false
  pub sends : MaySendTo e.peer e s

-- the true position that a segment sent now acknowledges, where the peer is known
abbrev pub acknowledged_to : Option Num → EndState → Option ℕ
acknowledged_to None e = None
acknowledged_to (Some peer) e = Some (expected e)

abbrev pub acknowledges : EndState → Option ℕ
acknowledges e = acknowledged_to e.peer e

abbrev pub syn_of : EndState → Sent
syn_of e = record { position = 0; flags = 2; seq = num_at e.first 0; ack = record { 0 = 0 }; body = [] }

abbrev pub syn_ack_of : Num → EndState → Sent
syn_ack_of peer e = record { position = 0; flags = 18; seq = num_at e.first 0; ack = num_at peer (expected e); body = [] }

-- the bytes from the lowest position that is not acknowledged, `size` at most
abbrev pub next_bytes : EndState → ℕ → List ℕ
next_bytes e size = take size (drop (e.acked - 1) e.written)

-- they reach the end of a closed stream whose close is not acknowledged
abbrev pub reaches_close : EndState → List ℕ → Bool
reaches_close e body = e.closed && e.acked - 1 + length body == length e.written

abbrev pub stream_segment : Num → EndState → List ℕ → Sent
stream_segment peer e body = record {
  position = e.acked;
  flags = if reaches_close e body then 17 else 16;
  seq = num_at e.first e.acked;
  ack = num_at peer (expected e);
  body = body;
}

abbrev pub segment_to : Option Num → EndState → ℕ → Sent
segment_to None e size = syn_of e
segment_to (Some peer) e size = if e.acked == 0 then syn_ack_of peer e else stream_segment peer e (next_bytes e size)

-- what an end sends that is asked for `size` bytes at most
abbrev pub send_of : EndState → ℕ → Option Sent
send_of e size = if e.dead then None else Some (segment_to e.peer e size)

-- the reset by which an end is aborted
abbrev pub reset_to : Option Num → EndState → Sent
reset_to None e = record { position = e.acked; flags = 4; seq = num_at e.first e.acked; ack = record { 0 = 0 }; body = [] }
reset_to (Some peer) e = record { position = e.acked; flags = 20; seq = num_at e.first e.acked; ack = num_at peer (expected e); body = [] }

abbrev pub reset_of : EndState → Option Sent
reset_of e = if e.dead then None else Some (reset_to e.peer e)
