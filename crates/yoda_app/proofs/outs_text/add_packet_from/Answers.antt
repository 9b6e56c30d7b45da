use Rattle.std.proofs.Common.{◌≡◌, ℕ, ◌+◌, List, ◌++◌, sym, ap, ◌∙◌}
use Rattle.std.specs.Prelude.{slice_range}
use Rattle.pcap_file.specs.Written.{head_bytes}
use Rattle.tcp_segment.specs.Written.{packet_bytes}
use Rattle.yoda_app.specs.Spliced.{text_of}
use Rattle.yoda_app.proofs.Fronts.{range_of_range, front_spliced, packet_added}
use Rattle.yoda_app.proofs.outs_text.add_packet_from.Goals as goal

pub add_slice-requires-clause-spliced : goal.add_slice-requires-clause-spliced
add_slice-requires-clause-spliced c =
    let frame = c.args.frame.now in
    let out = c.args.out.now in
    let front = c.in_ok-rest.ensures.ok in
    front_spliced c.args.trace.now out.own.items c.write_record_head.new.out.items c.write_front.new.out.items
    (head_bytes frame.seconds frame.micros c.packet_len.result) front.front out.splices.items c.in_ok-write_record_head.ensures.ok front.written c.requires.spliced

pub returns-clause-added : goal.returns-clause-added
returns-clause-added c =
    let frame = c.args.frame.now in
    let trace = c.args.trace.now in
    let out = c.args.out.now in
    let packet = c.args.packet in
    let rest = c.in_ok-rest.rest in
    let bytes = packet_bytes c.args.segment.now in
    let front = c.in_ok-rest.ensures.ok in
    let there : slice_range (slice_range trace packet.start packet.end) rest.start rest.end ≡ slice_range trace (packet.start + rest.start) (packet.start + rest.end) =
    range_of_range trace packet.start packet.end rest.start rest.end c.requires.ordered c.requires.inside c.in_ok-rest.ensures.ordered c.in_ok-rest.ensures.inside in
    packet_added trace out.own.items c.write_record_head.new.out.items c.write_front.new.out.items
    (head_bytes frame.seconds frame.micros c.packet_len.result) front.front out.splices.items c.in_ok-write_record_head.ensures.ok front.written c.requires.spliced
    (text_of trace c.add_slice.new.self) (slice_range trace (packet.start + rest.start) (packet.start + rest.end)) bytes
    c.in_ok-add_slice.ensures.added (ap (λ (x : List ℕ). front.front ++ x) (sym there) ∙ front.whole)
    ∙ ap (λ (n : ℕ). text_of trace out ++ (head_bytes frame.seconds frame.micros n ++ bytes)) c.packet_len.ensures
