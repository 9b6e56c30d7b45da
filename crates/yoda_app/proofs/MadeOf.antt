-- What is sent for a record is made of the packet that its frame holds.
use Rattle.std.proofs.Common.{◌≡◌, ℕ, ◌+◌, ◌*◌, Bool, true, false, List, [], ◌∷◌, Option, Some, None, refl, sym, subst}
use Rattle.std.specs.Prelude.{nat_lt, slice_range, unwrap_or, Result, Ok, Err, if◌then◌else◌}
use Rattle.std.specs.List.{AllByRecursion}
use Rattle.bench.specs.Blocks.{CallAt}
use Rattle.bench.specs.Incoming.{unless, packet_fields, segment_fields, read_packet, read_segment, segment_incoming, packet_incoming, network_incoming, incoming}
use Rattle.bench.specs.Prepared.{prepared, prepared_of}
use Rattle.bench.specs.declared.input.inputs.Inputs.{Inputs}
use Rattle.bench.specs.declared.input.line.Line.{Line}
use Rattle.common.specs.Faults.{first}
use Rattle.common.specs.Fields.{field}
use Rattle.inplace.specs.Packets.{HoldsSegment}
use Rattle.inplace.proofs.Faultless.{holds-segment}
use Rattle.ipv4.specs.declared.packet.IpFault.{IpFault}
use Rattle.ipv4.specs.Packet as ip
use Rattle.job_core.specs.declared.verdict.Verdict.{Verdict}
use Rattle.job_core.specs.declared.verdict.Verdict.TheVariants.{SnapCut}
use Rattle.pcap_file.specs.Ethernet.{network_of}
use Rattle.pcap_file.specs.declared.capture.Frame.{Frame}
use Rattle.plain_run.specs.Benches.{Benches, opened, called}
use Rattle.plain_run.specs.Made.{IsMadeAfter}
use Rattle.plain_run.specs.declared.fold.Handled.{Handled}
use Rattle.plain_run.specs.Cuts.{refused_in, prepared_in}
use Rattle.plain_run.specs.Fold.{block_of, block_with}
use Rattle.tcp_segment.specs.declared.segment.Segment.{Segment}
use Rattle.tcp_segment.specs.declared.segment.TcpFault.{TcpFault}
use Rattle.tcp_segment.specs.Segments as tcp
use Rattle.yoda_app.specs.Outs.{AreMadeOf, packet_in}

pub all_made : (packet : List ℕ) (outs : List Segment) → HoldsSegment packet → AreMadeOf packet outs
all_made packet [] holds = tt
all_made packet (out ∷ outs) holds = (holds, all_made packet outs holds)

-- bytes that are read are a packet that holds a segment
read_holds : (bytes : List ℕ) (s : Segment) (of_packet : Option IpFault) (of_segment : Option TcpFault)
    → first (ip.faults bytes) ≡ of_packet
    → first (tcp.faults (field 12 4 bytes) (field 16 4 bytes) (slice_range bytes (4 * ip.header_words bytes) (ip.total_length bytes))) ≡ of_segment
    → packet_incoming bytes (read_packet bytes) ≡ Ok s → HoldsSegment bytes
read_holds bytes s None None none clear is = holds-segment bytes none clear
read_holds bytes s (Some fault) of_segment some is_segment is =
    let no : packet_incoming bytes (unless (Some fault) (packet_fields bytes)) ≡ Ok s =
    subst (λ (o : Option IpFault). packet_incoming bytes (unless o (packet_fields bytes)) ≡ Ok s) some is in
    absurd cc
read_holds bytes s None (Some fault) none some is =
    let source = field 12 4 bytes in
    let target = field 16 4 bytes in
    let payload = slice_range bytes (4 * ip.header_words bytes) (ip.total_length bytes) in
    let read : packet_incoming bytes (unless None (packet_fields bytes)) ≡ Ok s =
    subst (λ (o : Option IpFault). packet_incoming bytes (unless o (packet_fields bytes)) ≡ Ok s) none is in
    let no : segment_incoming source target payload (unless (Some fault) (segment_fields payload)) ≡ Ok s =
    subst (λ (o : Option TcpFault). segment_incoming source target payload (unless o (segment_fields payload)) ≡ Ok s) some read in
    absurd cc

network_holds : (o : Option (List ℕ)) (s : Segment) → network_incoming o ≡ Ok s → HoldsSegment (unwrap_or o [])
network_holds None s is = absurd cc
network_holds (Some bytes) s is = read_holds bytes s _ _ refl refl is

-- what comes in with a frame that is cut, or is not
abbrev whole_or_cut : Bool → List ℕ → Frame → Result Segment Verdict
whole_or_cut cut trace frame =
    if cut then Err SnapCut else network_incoming (network_of frame.link (slice_range trace frame.at (frame.at + frame.kept)))

pub frame_holds : (cut : Bool) (trace : List ℕ) (frame : Frame) (s : Segment) → nat_lt frame.kept frame.original ≡ cut → incoming trace frame ≡ Ok s → HoldsSegment (packet_in trace frame)
frame_holds true trace frame s cut is =
    let no : Err SnapCut ≡ Ok s = subst (λ (b : Bool). whole_or_cut b trace frame ≡ Ok s) cut is in
    absurd cc
frame_holds false trace frame s cut is =
    network_holds (network_of frame.link (slice_range trace frame.at (frame.at + frame.kept))) s (subst (λ (b : Bool). whole_or_cut b trace frame ≡ Ok s) cut is)

module _ (inputs : Inputs) (told : Line) (earlier : List CallAt) (n : ℕ) (frame : Frame) where
  by_incoming : (r : Result Segment Verdict) → ((s : Segment) → r ≡ Ok s → HoldsSegment (packet_in inputs.trace frame))
      → AreMadeOf (packet_in inputs.trace frame) (block_with inputs.setup inputs.script.lines (refused_in told.verdict) earlier n (prepared_in told.instance (prepared inputs.setup inputs.script.lines n r))).outs
  by_incoming (Ok s) holds = all_made (packet_in inputs.trace frame) _ (holds s refl)
  by_incoming (Err verdict) holds = tt

  -- what is sent for the record with this number and this frame
  pub made_of : AreMadeOf (packet_in inputs.trace frame) (block_of inputs told earlier n frame).outs
  made_of = by_incoming (incoming inputs.trace frame) (λ s is. frame_holds _ inputs.trace frame s refl is)

-- .. and so for what the code makes of it
pub handled_of : (inputs : Inputs) (h : Handled) (benches next : Benches) (earlier : List CallAt) (n : ℕ) (frame : Frame)
    → benches ≡ called inputs.setup (opened inputs.setup) earlier
    → IsMadeAfter inputs.setup h benches next (λ calls. block_of inputs h.line calls n frame)
    → AreMadeOf (packet_in inputs.trace frame) h.outs.list
handled_of inputs h benches next earlier n frame led makes =
    subst (AreMadeOf (packet_in inputs.trace frame)) (sym (makes earlier led).outs) (made_of inputs h.line earlier n frame)
