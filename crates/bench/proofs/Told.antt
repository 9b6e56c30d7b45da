-- A record that ends when it is prepared ends neither of a crash nor of want of memory.
use Rattle.std.proofs.Common.{ℕ, ◌+◌, Bool, true, false, Option, Some, None, List, Result, Ok, Err}
use Rattle.std.specs.Prelude.{nat_lt, slice_range, if◌then◌else◌}
use Rattle.bench.specs.Blocks.{IsTold}
use Rattle.bench.specs.Incoming.{read_packet, read_segment, segment_incoming, packet_incoming, network_incoming, incoming}
use Rattle.bench.specs.Prepared.{client_instance, server_instance, work_of, prepared_by, prepared, prepared_of}
use Rattle.bench.specs.declared.input.inputs.Inputs.{Inputs}
use Rattle.bench.specs.declared.input.prepared.Prepared.{Prepared}
use Rattle.bench.specs.declared.input.prepared.Prepared.TheVariants.{Ended, Work}
use Rattle.flow_id.specs.Ports.{shard_of, shard_of_port}
use Rattle.ipv4.specs.declared.packet.IpFault.{IpFault}
use Rattle.ipv4.specs.declared.packet.Packet.{Packet}
use Rattle.job_core.specs.Aims.{aimed}
use Rattle.job_core.specs.declared.aim.Aim.{Aim}
use Rattle.job_core.specs.declared.aim.Aim.TheVariants as aim
use Rattle.job_core.specs.declared.verdict.Verdict.{Verdict}
use Rattle.job_core.specs.declared.verdict.Verdict.TheVariants.{SnapCut}
use Rattle.pcap_file.specs.Ethernet.{network_of}
use Rattle.pcap_file.specs.declared.capture.Frame.{Frame}
use Rattle.rule_table.specs.Setups.{SetupView}
use Rattle.script_text.specs.Lives.{assigned}
use Rattle.script_text.specs.declared.line.Line.{Line}
use Rattle.tcp_segment.specs.declared.segment.Segment.{Segment}
use Rattle.tcp_segment.specs.declared.segment.TcpFault.{TcpFault}
use Rattle.tcp_segment.specs.declared.segment.View.{View}

abbrev pub IsEndTold : Prepared → Type 0
IsEndTold (Ended verdict) = IsTold verdict
IsEndTold (Work a segment instance shard) = Unit {0}

abbrev pub IsFaultTold : Result Segment Verdict → Type 0
IsFaultTold (Ok segment) = Unit {0}
IsFaultTold (Err verdict) = IsTold verdict

-- ---- a frame that holds no segment
segment_told : (source target : ℕ) (payload : List ℕ) (r : Result View TcpFault) → IsFaultTold (segment_incoming source target payload r)
segment_told source target payload (Ok view) = tt
segment_told source target payload (Err fault) = tt

packet_told : (bytes : List ℕ) (r : Result Packet IpFault) → IsFaultTold (packet_incoming bytes r)
packet_told bytes (Ok packet) =
    let payload = slice_range bytes packet.start packet.end in
    segment_told packet.source packet.target payload (read_segment packet.source packet.target payload)
packet_told bytes (Err fault) = tt

network_told : (o : Option (List ℕ)) → IsFaultTold (network_incoming o)
network_told (Some bytes) = packet_told bytes (read_packet bytes)
network_told None = tt

incoming_told : (trace : List ℕ) (frame : Frame) → IsFaultTold (incoming trace frame)
incoming_told trace frame =
    let o : Option (List ℕ) = network_of frame.link (slice_range trace frame.at (frame.at + frame.kept)) in
    by (nat_lt frame.kept frame.original) (network_incoming o) (network_told o)
  where
    by : (t : Bool) (r : Result Segment Verdict) → IsFaultTold r → IsFaultTold (if t then Err SnapCut else r)
    by true r told = tt
    by false r told = told

-- ---- a segment that is not handled
work_told : (a : Aim) (segment : Segment) (shard : ℕ) (o : Option ℕ) → IsEndTold (work_of a segment shard o)
work_told a segment shard (Some instance) = tt
work_told a segment shard None = tt

by_told : (setup : SetupView) (lines : List Line) (item : ℕ) (segment : Segment) (a : Aim) → IsEndTold (prepared_by setup lines item segment a)
by_told setup lines item segment (aim.Client flow) = work_told (aim.Client flow) segment (shard_of flow setup.shards) (assigned lines setup.instances item (client_instance setup flow))
by_told setup lines item segment (aim.Server server port) = work_told (aim.Server server port) segment (shard_of_port port setup.shards) (assigned lines setup.instances item (server_instance setup port))
by_told setup lines item segment (aim.Odd flags) = tt
by_told setup lines item segment aim.NotOurs = tt

told_by : (setup : SetupView) (lines : List Line) (item : ℕ) (r : Result Segment Verdict) → IsFaultTold r → IsEndTold (prepared setup lines item r)
told_by setup lines item (Ok segment) told = by_told setup lines item segment (aimed setup segment.source segment.target segment.head)
told_by setup lines item (Err verdict) told = told

pub end_told : (inputs : Inputs) (item : ℕ) (frame : Frame) → IsEndTold (prepared_of inputs item frame)
end_told inputs item frame = told_by inputs.setup inputs.script.lines item (incoming inputs.trace frame) (incoming_told inputs.trace frame)
