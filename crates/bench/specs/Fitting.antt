-- What comes in, and what is sent for it, fits packets.
use Rattle.std.specs.Prelude.{ℕ, ◌+◌, ◌<◌, ◌≤◌, length}
use Rattle.std.specs.List.{AllByRecursion}
use Rattle.ipv4.specs.declared.packet.TheConstants.{PAYLOAD_LIMIT}
use Rattle.tcp_segment.specs.declared.segment.Segment.{Segment}
use Rattle.tcp_segment.specs.Written.{FitsPacket, sack_length}
use Rattle.bench.specs.Blocks.{IsTold}
use Rattle.bench.specs.declared.call.Reply.{Reply}
use Rattle.bench.specs.declared.call.Reply.TheVariants as reply

-- a segment that came in fits a packet again with no option but its blocks
pub record FitsAgain (seg : Segment) : Type 0 where
  pub few : length seg.head.options.sack ≤ 4
  pub size : 20 + sack_length seg.head.options.sack + length seg.body ≤ PAYLOAD_LIMIT

-- the segment fits a packet
abbrev pub IsShort : Segment → Type 0
IsShort out = FitsPacket out.head (length out.body)

-- a reply's verdict is neither of a crash nor of want of memory, and each segment that it names fits a packet
abbrev pub IsTableReply : Reply → Type 0
IsTableReply (reply.Done verdict outs) = IsTold verdict × AllByRecursion IsShort outs.list
IsTableReply reply.Going = Unit {0}
IsTableReply reply.Idle = Unit {0}
IsTableReply reply.Noted = Unit {0}

-- the segment fits a packet, and was sent for one of so many records
abbrev pub IsSent : ℕ → ℕ × Segment → Type 0
IsSent records out = IsShort out.1 × (out.0 < records)
