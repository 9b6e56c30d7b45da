-- How flows end: the resets that the balancer sends itself (RFC 9293, 3.5.2), and what is kept of a FIN.
use Rattle.std.specs.Prelude.{◌≡◌, ℕ, true, false, not, ◌||◌, if◌then◌else◌, [], length, Option, Some, None, IsSome, IfSome}
use Rattle.seq_space.specs.Positions.{number_of}
use Rattle.flow_id.specs.declared.key.Flow.{Flow}
use Rattle.flow_id.specs.declared.key.Side.{Side}
use Rattle.flow_record.specs.declared.record.Record.{Record}
use Rattle.flow_record.specs.declared.record.Record.TheVariants.{Fin}
use Rattle.tcp_segment.specs.Flags.{has_rst, has_ack}
use Rattle.tcp_segment.specs.OptionArea.{no_options}
use Rattle.tcp_segment.specs.declared.segment.Segment.{Segment}
use Rattle.rule_table.specs.Setups.{SetupView}

-- a reset without ACK at this number
abbrev pub reset_at : ℕ → ℕ → ℕ → ℕ → ℕ → Segment
reset_at source source_port target target_port number = record {
  source = source;
  target = target;
  head = record {
    source_port = source_port;
    target_port = target_port;
    seq = record { 0 = number };
    ack = record { 0 = 0 };
    flags = 0x04;
    window = 0;
    urgent = 0;
    options = no_options;
  };
  body = [];
}

-- the reset that goes back to the sender of a segment, at the number that it expects next
unfoldable pub reset_back : Segment → Segment
reset_back seg = reset_at seg.target seg.head.target_port seg.source seg.head.source_port seg.head.ack.0

-- what answers a segment that belongs to nothing known: a reset is not answered, and no segment that acknowledges nothing
abbrev pub reset_of : Segment → Option Segment
reset_of seg = if has_rst seg.head.flags || not (has_ack seg.head.flags) then None else Some (reset_back seg)

-- the reset of a client whose server has refused the connection; forged is the balancer's first number
unfoldable pub turned_segment : SetupView → Flow → ℕ → Segment
turned_segment setup flow forged =
    reset_at setup.service.address setup.service.port flow.address flow.port (number_of forged 1)

-- what is kept of a side's segment with FIN: the number of the FIN, which stands behind the data
abbrev pub fin_record_of : Side → Segment → Record
fin_record_of side seg = Fin side (record { 0 = number_of seg.head.seq.0 (length seg.body) })

-- ---- what stands in these segments

-- The segment is a reset without ACK, at this number and without data.
pub record IsReset (number : ℕ) (s : Segment) : Type 0 where
  pub seq : s.head.seq.0 ≡ number
  pub ack : s.head.ack.0 ≡ 0
  pub flags : s.head.flags ≡ 0x04
  pub body : s.body ≡ []

-- The reset goes back to where the segment comes from.
pub record GoesBack (seg s : Segment) : Type 0 where
  pub source : s.source ≡ seg.target
  pub source_port : s.head.source_port ≡ seg.head.target_port
  pub target : s.target ≡ seg.source
  pub target_port : s.head.target_port ≡ seg.head.source_port
  pub reset : IsReset seg.head.ack.0 s

-- The reset goes from the service to the client.
pub record TurnsAway (setup : SetupView) (flow : Flow) (forged : ℕ) (s : Segment) : Type 0 where
  pub source : s.source ≡ setup.service.address
  pub source_port : s.head.source_port ≡ setup.service.port
  pub target : s.target ≡ flow.address
  pub target_port : s.head.target_port ≡ flow.port
  pub reset : IsReset (number_of forged 1) s

-- A segment that acknowledges something and is no reset is answered by a reset that goes back, and no other is answered.
pub record IsAnsweredByReset (seg : Segment) : Type 0 where
  pub some : has_rst seg.head.flags ≡ false → has_ack seg.head.flags ≡ true → IsSome (reset_of seg)
  pub back : IfSome (reset_of seg) (GoesBack seg)
  pub no_reset : has_rst seg.head.flags ≡ true → reset_of seg ≡ None
  pub no_ack : has_ack seg.head.flags ≡ false → reset_of seg ≡ None

abbrev pub ResetNumbers : Type 0
ResetNumbers = (seg : Segment) → IsAnsweredByReset seg

abbrev pub TurnedNumbers : Type 0
TurnedNumbers = (setup : SetupView) (flow : Flow) (forged : ℕ) → TurnsAway setup flow forged (turned_segment setup flow forged)
