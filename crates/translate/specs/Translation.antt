-- How segments are passed on between the two connections of a flow. The client's stream has the same numbers on both;
-- the server's has its own on the server's side, and those that the balancer forged on the client's. Windows are told to
-- each side by the shift with which it reads them (RFC 7323, 2.3).
use Rattle.std.specs.Prelude.{◌≡◌, ◌≤◌, ◌<◌, ◌&&◌, ℕ, ◌%◌, Bool, true, false, if◌then◌else◌, List, []}
use Rattle.seq_space.specs.Blocks.{FitsBlocks}
use Rattle.seq_space.specs.Positions.{number_of}
use Rattle.seq_space.specs.declared.Num.{Num}
use Rattle.flow_id.specs.declared.key.Flow.{Flow}
use Rattle.flow_record.specs.declared.record.Record.{Record}
use Rattle.flow_record.specs.Records.{syn_scale, syn_sack, open_server, open_port, open_number, open_scale, open_sack}
use Rattle.sack_opt.specs.Moves.{moved, moved_blocks, AreSameBlocks}
use Rattle.window_scale.specs.Windows.{IsGreatest, counted, restated, shifts_by}
use Rattle.window_scale.specs.declared.scales.Shifts.{Shifts}
use Rattle.tcp_segment.specs.Flags.{has_fin, has_syn, has_rst, has_psh, has_ack, has_urg}
use Rattle.tcp_segment.specs.OptionArea.{no_options}
use Rattle.tcp_segment.specs.Written.{area_length, sack_length}
use Rattle.tcp_segment.specs.declared.options.Options.{Options}
use Rattle.tcp_segment.specs.declared.segment.Segment.{Segment}
use Rattle.rule_table.specs.Setups.{SetupView, server_of}

-- the flags without CWR and ECE
abbrev pub kept_flags : ℕ → ℕ
kept_flags flags = flags % 64

-- both ends of a flow take selective acknowledgments
abbrev pub both_permit : Record → Record → Bool
both_permit syn opened = syn_sack syn && open_sack opened

-- the options of a segment that is passed on: these blocks, where both ends take them
abbrev pub passed_options : Record → Record → List (Num × Num) → Options
passed_options syn opened blocks = record no_options { sack = if both_permit syn opened then blocks else [] }

-- by how many bits each side of a flow shifts its windows
abbrev pub shifts_between : Record → Record → Shifts
shifts_between syn opened = shifts_by (syn_scale syn) (open_scale opened)

-- a client's segment as it goes to the server of the connection that was opened
unfoldable pub to_server_segment : SetupView → Segment → ℕ → Record → Record → Segment
to_server_segment setup seg forged syn opened = record {
  source = setup.service.address;
  target = (server_of setup (open_server opened)).address;
  head = record {
    source_port = open_port opened;
    target_port = (server_of setup (open_server opened)).port;
    seq = seg.head.seq;
    ack = record { 0 = if has_ack seg.head.flags then moved forged (open_number opened) seg.head.ack.0 else 0 };
    flags = kept_flags seg.head.flags;
    window = restated seg.head.window (shifts_between syn opened).client_gives (shifts_between syn opened).server_reads;
    urgent = seg.head.urgent;
    options = passed_options syn opened (moved_blocks forged (open_number opened) seg.head.options.sack);
  };
  body = seg.body;
}

-- a server's segment as it goes to the client of the flow
unfoldable pub to_client_segment : SetupView → Segment → ℕ → Record → Record → Flow → Segment
to_client_segment setup seg forged syn opened flow = record {
  source = setup.service.address;
  target = flow.address;
  head = record {
    source_port = setup.service.port;
    target_port = flow.port;
    seq = record { 0 = moved (open_number opened) forged seg.head.seq.0 };
    ack = record { 0 = if has_ack seg.head.flags then seg.head.ack.0 else 0 };
    flags = kept_flags seg.head.flags;
    window = restated seg.head.window (shifts_between syn opened).server_gives (shifts_between syn opened).client_reads;
    urgent = seg.head.urgent;
    options = passed_options syn opened seg.head.options.sack;
  };
  body = seg.body;
}

-- ---- what stands in these segments

-- The other segment's flags but for CWR and ECE, which are clear.
pub record KeepsFlags (was is : ℕ) : Type 0 where
  pub fin : has_fin is ≡ has_fin was
  pub syn : has_syn is ≡ has_syn was
  pub rst : has_rst is ≡ has_rst was
  pub psh : has_psh is ≡ has_psh was
  pub ack : has_ack is ≡ has_ack was
  pub urg : has_urg is ≡ has_urg was
  pub clear : is < 64

-- The options of a segment that is passed on are blocks alone: none where an end does not take them, else the taken ones,
-- as many in the same order, and near every position each edge names the same position of the stream that counts from `to`
-- as it did of the one that counts from `from`, or none on both sides. They take no more room than those that were taken.
pub record PassesBlocks (syn opened : Record) (from to : ℕ) (taken sent : Options) : Type 0 where
  pub blocks : both_permit syn opened ≡ true → FitsBlocks taken.sack → AreSameBlocks from to taken.sack sent.sack
  pub none : both_permit syn opened ≡ false → sent.sack ≡ []
  pub alone : sent ≡ record no_options { sack = sent.sack }
  pub room : area_length sent ≤ sack_length taken.sack

-- The segment goes from the port that the flow owns to the server that was opened to, and is the client's, but for what
-- it acknowledges and for its window: what the server counts by it is no more than the client gave, and no greater field
-- counts so few.
pub record GoesToServer (setup : SetupView) (seg : Segment) (forged : ℕ) (syn opened : Record) (s : Segment) : Type 0 where
  pub source : s.source ≡ setup.service.address
  pub source_port : s.head.source_port ≡ open_port opened
  pub target : s.target ≡ (server_of setup (open_server opened)).address
  pub target_port : s.head.target_port ≡ (server_of setup (open_server opened)).port
  pub seq : s.head.seq.0 ≡ seg.head.seq.0
  pub ack : has_ack seg.head.flags ≡ true → s.head.ack.0 ≡ moved forged (open_number opened) seg.head.ack.0
  pub no_ack : has_ack seg.head.flags ≡ false → s.head.ack.0 ≡ 0
  pub flags : KeepsFlags seg.head.flags s.head.flags
  pub window : IsGreatest s.head.window (shifts_between syn opened).server_reads (counted seg.head.window (shifts_between syn opened).client_gives)
  pub options : PassesBlocks syn opened forged (open_number opened) seg.head.options s.head.options
  pub body : s.body ≡ seg.body

-- The segment goes from the service to the client, and is the server's, but for its sequence number and for its window,
-- by which the client counts as much of what the server gave.
pub record GoesToClient (setup : SetupView) (seg : Segment) (forged : ℕ) (syn opened : Record) (flow : Flow) (s : Segment) : Type 0 where
  pub source : s.source ≡ setup.service.address
  pub source_port : s.head.source_port ≡ setup.service.port
  pub target : s.target ≡ flow.address
  pub target_port : s.head.target_port ≡ flow.port
  pub seq : s.head.seq.0 ≡ moved (open_number opened) forged seg.head.seq.0
  pub ack : has_ack seg.head.flags ≡ true → s.head.ack.0 ≡ seg.head.ack.0
  pub no_ack : has_ack seg.head.flags ≡ false → s.head.ack.0 ≡ 0
  pub flags : KeepsFlags seg.head.flags s.head.flags
  pub window : IsGreatest s.head.window (shifts_between syn opened).client_reads (counted seg.head.window (shifts_between syn opened).server_gives)
  pub options : (first : ℕ) → PassesBlocks syn opened first first seg.head.options s.head.options
  pub body : s.body ≡ seg.body

abbrev pub ToServerNumbers : Type 0
ToServerNumbers =
    (setup : SetupView) (seg : Segment) (forged : ℕ) (syn opened : Record)
    → GoesToServer setup seg forged syn opened (to_server_segment setup seg forged syn opened)

abbrev pub ToClientNumbers : Type 0
ToClientNumbers =
    (setup : SetupView) (seg : Segment) (forged : ℕ) (syn opened : Record) (flow : Flow)
    → GoesToClient setup seg forged syn opened flow (to_client_segment setup seg forged syn opened flow)

-- ---- positions

-- a position keeps its place, counted from one first number and from the other
abbrev pub KeepsPosition : Type 0
KeepsPosition = (from to p : ℕ) → moved from to (number_of from p) ≡ number_of to p

-- a client that acknowledges a position of the stream that the balancer forges acknowledges this position of the server's
abbrev pub AcknowledgesSamePosition : Type 0
AcknowledgesSamePosition =
    (setup : SetupView) (seg : Segment) (forged : ℕ) (syn opened : Record) (p : ℕ) → has_ack seg.head.flags ≡ true
    → seg.head.ack.0 ≡ number_of forged p
    → (to_server_segment setup seg forged syn opened).head.ack.0 ≡ number_of (open_number opened) p

-- a server's segment at a position of its stream stands at this position of the one that the balancer forges
abbrev pub StandsAtSamePosition : Type 0
StandsAtSamePosition =
    (setup : SetupView) (seg : Segment) (forged : ℕ) (syn opened : Record) (flow : Flow) (p : ℕ)
    → seg.head.seq.0 ≡ number_of (open_number opened) p
    → (to_client_segment setup seg forged syn opened flow).head.seq.0 ≡ number_of forged p
