-- A packet that a segment is made of, in its parts.
use Rattle.std.specs.Prelude.{◌≡◌, ◌≤◌, ℕ, ◌+◌, ◌%◌, false, if◌then◌else◌, List, ◌++◌, length, take, slice_range}
use Rattle.common.specs.Fields.{field}
use Rattle.ipv4.specs.declared.packet.Packet.{Packet}
use Rattle.ipv4.specs.Packet.{IsPacket}
use Rattle.tcp_segment.specs.Flags.{has_ack, has_syn}
use Rattle.tcp_segment.specs.OptionArea.{no_options}
use Rattle.tcp_segment.specs.Segments.{IsView, flags_of}
use Rattle.tcp_segment.specs.declared.segment.Segment.{Segment}
use Rattle.tcp_segment.specs.declared.segment.View.{View}
use Rattle.tcp_segment.specs.Written.{packet_bytes}
use Rattle.inplace.specs.declared.writing.Parts.{Parts}
use Rattle.inplace.specs.declared.writing.Place.{Place}

-- The bytes begin with a packet, and its payload is a segment.
pub record HoldsSegment (bytes : List ℕ) : Type 0 where
  pub packet : Packet
  pub view : View
  pub is_packet : IsPacket bytes packet
  pub is_view : IsView packet.source packet.target (slice_range bytes packet.start packet.end) view

-- The front of the segment's packet was written, and this is still to come.
pub record AreFront (old new rest : List ℕ) (s : Segment) : Type 0 where
  pub front : List ℕ
  pub written : new ≡ old ++ front
  pub whole : front ++ rest ≡ packet_bytes s

-- ---- words of code and proofs

-- This part of the bytes stands there.
pub record IsPlaceOf (bytes : List ℕ) (place : Place) (part : List ℕ) : Type 0 where
  pub ordered : place.start ≤ place.end
  pub inside : place.end ≤ length bytes
  pub is : slice_range bytes place.start place.end ≡ part

-- These are the headers, the segment and its data.
pub record AreParts (bytes : List ℕ) (packet : Packet) (view : View) (parts : Parts) : Type 0 where
  pub heads : parts.heads.now ≡ take (packet.start + view.data_at) bytes
  pub segment : parts.segment.now ≡ slice_range bytes packet.start packet.end
  pub body : parts.body.now ≡ slice_range bytes (packet.start + view.data_at) packet.end

-- The segment is the one in these bytes with this data, but for the fields of a change.
pub record IsChanged (bytes body : List ℕ) (s : Segment) : Type 0 where
  pub no_syn : has_syn (flags_of bytes) ≡ false
  pub options : s.head.options ≡ no_options
  pub flags : s.head.flags ≡ flags_of bytes % 64
  pub urgent : s.head.urgent ≡ field 18 2 bytes
  pub ack : s.head.ack.0 ≡ (if has_ack (flags_of bytes) then s.head.ack.0 else 0)
  pub same : s.body ≡ body
