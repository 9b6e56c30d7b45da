-- What an end does with a segment (after RFC 9293, 3.10.7, and simpler). The first of these rules that applies:
--   a dead end takes nothing;
--   a reset makes the end dead, whatever its number;
--   a client that does not know its peer takes a SYN-ACK that acknowledges its SYN, and nothing else;
--   every other end takes no segment with SYN;
--   of any other segment the acknowledgment is taken, where it counts, and then the data.
use Rattle.std.specs.Prelude.{ℕ, ◌+◌, ◌-◌, ◌==◌, ◌&&◌, not, nat_lt, nat_le, Bool, if◌then◌else◌, List, ◌++◌, length, drop, Option, Some, None}
use Rattle.seq_space.specs.declared.Num.{Num}
use Rattle.seq_space.specs.Positions.{number_of}
use Rattle.tcp_segment.specs.declared.segment.Head.{Head}
use Rattle.tcp_segment.specs.Flags.{has_fin, has_syn, has_rst, has_ack}
use Rattle.tcp_end.specs.NearPosition.{near_of}
use Rattle.tcp_end.specs.EndState.{EndState, stream_end, expected, dead_end}

-- the segment is a SYN-ACK that acknowledges the end's SYN
abbrev pub answers_syn : EndState → Head → Bool
answers_syn e head = has_syn head.flags && has_ack head.flags && head.ack.0 == number_of e.first.0 1

-- a position that is acknowledged counts where it is above those before and not behind the own stream
abbrev pub acked_at : Option ℕ → EndState → ℕ
acked_at None e = e.acked
acked_at (Some p) e = if nat_lt e.acked p && nat_le p (stream_end e.written e.closed) then p else e.acked

-- the highest acknowledged position with that of the segment, which is looked at only where the flag ACK is set
abbrev pub acked_after : EndState → Head → ℕ
acked_after e head = if has_ack head.flags then acked_at (near_of head.ack.0 e.first.0 e.acked) e else e.acked

-- data from position p on, with the place behind it where a close stands, reaches the position that is expected next
abbrev pub covers : EndState → ℕ → List ℕ → Bool
covers e p body = not e.saw_close && nat_le p (expected e) && nat_le (expected e) (p + length body)

-- the bytes that are new in data from this position on, where it covers the position that is expected next
abbrev pub new_bytes_at : Option ℕ → EndState → List ℕ → Option (List ℕ)
new_bytes_at None e body = None
new_bytes_at (Some p) e body = if covers e p body then Some (drop (expected e - p) body) else None

abbrev pub new_bytes : EndState → Num → Head → List ℕ → Option (List ℕ)
new_bytes e peer head body = new_bytes_at (near_of head.seq.0 peer.0 (expected e)) e body

-- the new bytes are received, and a FIN behind them is the peer's close
abbrev pub received_with : Option (List ℕ) → Bool → EndState → EndState
received_with None fin e = e
received_with (Some bytes) fin e = record e { received = e.received ++ bytes; saw_close = fin }

-- the acknowledgment and the data of a segment
abbrev pub stream_taken : EndState → Num → Head → List ℕ → EndState
stream_taken e peer head body = record (received_with (new_bytes e peer head body) (has_fin head.flags) e) { acked = acked_after e head }

-- at an end that is not dead, of a segment that is no reset
abbrev pub taken_by : Option Num → EndState → Head → List ℕ → EndState
taken_by None e head body = if answers_syn e head then record e { peer = Some head.seq; acked = 1 } else e
taken_by (Some peer) e head body = if has_syn head.flags then e else stream_taken e peer head body

abbrev pub taken : EndState → Head → List ℕ → EndState
taken e head body =
    if e.dead then e
    else (if has_rst head.flags then dead_end e
    else taken_by e.peer e head body)
