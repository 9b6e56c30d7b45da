-- The capture of what is sent: for each segment a record with the time of the record that it was sent for.
use Rattle.std.specs.Prelude.{ℕ, ◌+◌, List, [], ◌++◌, length, slice_get, slice_range, unwrap_or, IfSome}
use Rattle.std.specs.List.{AllByRecursion, flat_map}
use Rattle.std.specs.Option.{option_map_or}
use Rattle.inplace.specs.Packets.{HoldsSegment}
use Rattle.pcap_file.specs.Ethernet.{network_of}
use Rattle.pcap_file.specs.declared.capture.Frame.{Frame}
use Rattle.bench.specs.Fitting.{IsSent}
use Rattle.pcap_file.specs.Written.{header_bytes, record_bytes}
use Rattle.tcp_segment.specs.Written.{packet_bytes}
use Rattle.tcp_segment.specs.declared.segment.Segment.{Segment}

-- the record of a segment with the time of the frame of this number
abbrev pub sent_record : List Frame → ℕ × Segment → List ℕ
sent_record frames out = option_map_or (λ frame. record_bytes frame.seconds frame.micros (packet_bytes out.1)) (slice_get frames out.0) []

-- the capture of what is sent for these frames, each segment with the number of its frame
abbrev pub outs_text : List Frame → List (ℕ × Segment) → List ℕ
outs_text frames outs = header_bytes ++ flat_map (sent_record frames) outs

-- ---- words of proofs

-- the records of what is sent, in their order
abbrev pub sent_records : List Frame → List (ℕ × Segment) → List ℕ
sent_records frames outs = flat_map (sent_record frames) outs

-- those of what is sent for this frame
abbrev pub frame_records : Frame → List Segment → List ℕ
frame_records frame outs = flat_map (λ out. record_bytes frame.seconds frame.micros (packet_bytes out)) outs

-- the packet that a frame of the trace holds, or no bytes
abbrev pub packet_in : List ℕ → Frame → List ℕ
packet_in trace frame = unwrap_or (network_of frame.link (slice_range trace frame.at (frame.at + frame.kept))) []

-- where there is any of these segments, this is a packet that holds the segment that they answer
abbrev pub AreMadeOf : List ℕ → List Segment → Type 0
AreMadeOf packet outs = AllByRecursion (λ out. HoldsSegment packet) outs

-- the segment was sent for one of these frames of the trace, and fits a packet; what the frame holds is a packet with the segment
-- that it answers
abbrev pub IsSentFrom : List ℕ → List Frame → ℕ × Segment → Type 0
IsSentFrom trace frames out = IsSent (length frames) out × IfSome (slice_get frames out.0) (λ frame. HoldsSegment (packet_in trace frame))
