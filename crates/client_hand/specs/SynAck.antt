-- The client's side of a handshake (RFC 9293, 3.5): what is kept of its SYN, and how the balancer answers it in place of
-- a server.
use Rattle.std.specs.Prelude.{◌≡◌, ℕ, [], Some, unwrap_or, option_map}
use Rattle.seq_space.specs.Positions.{number_of}
use Rattle.flow_id.specs.declared.key.Flow.{Flow}
use Rattle.flow_id.specs.Hashes.{marked}
use Rattle.flow_record.specs.declared.record.Record.{Record}
use Rattle.flow_record.specs.declared.record.Record.TheVariants.{Syn}
use Rattle.flow_record.specs.Records.{syn_number, syn_scale, syn_sack}
use Rattle.window_scale.specs.Windows.{own_shift}
use Rattle.tcp_segment.specs.OptionArea.{no_options, shift_of}
use Rattle.tcp_segment.specs.declared.segment.Head.{Head}
use Rattle.tcp_segment.specs.declared.segment.Segment.{Segment}
use Rattle.rule_table.specs.Setups.{SetupView}

-- the record of a client's SYN; a client that gives no maximum segment size takes 536 bytes (RFC 9293, 3.7.1)
abbrev pub syn_record_of : Head → Record
syn_record_of head =
    Syn head.seq (unwrap_or head.options.mss 536) head.window (shift_of head.options.scale) head.options.sack_permitted

-- the balancer's first number towards the client of a flow
abbrev pub forged_of : SetupView → Flow → ℕ
forged_of setup flow = (marked setup.secret flow).forged

-- the answer to the SYN that the record is of; the balancer scales its windows, and takes selective acknowledgments, where
-- the client does
unfoldable pub syn_ack_segment : SetupView → Flow → Record → Segment
syn_ack_segment setup flow syn = record {
  source = setup.service.address;
  target = flow.address;
  head = record {
    source_port = setup.service.port;
    target_port = flow.port;
    seq = record { 0 = forged_of setup flow };
    ack = record { 0 = number_of (syn_number syn) 1 };
    flags = 0x12;
    window = 14600;
    urgent = 0;
    options = record no_options { mss = Some 1460; scale = option_map (λ shift. own_shift) (syn_scale syn); sack_permitted = syn_sack syn };
  };
  body = [];
}

-- The segment goes from the service to the client, has the first number of the stream that the balancer forges and
-- acknowledges position 1 of the client's, its flags are SYN and ACK, and it has no data.
pub record AnswersSyn (setup : SetupView) (flow : Flow) (syn : Record) (s : Segment) : Type 0 where
  pub source : s.source ≡ setup.service.address
  pub source_port : s.head.source_port ≡ setup.service.port
  pub target : s.target ≡ flow.address
  pub target_port : s.head.target_port ≡ flow.port
  pub seq : s.head.seq.0 ≡ forged_of setup flow
  pub ack : s.head.ack.0 ≡ number_of (syn_number syn) 1
  pub flags : s.head.flags ≡ 0x12
  pub body : s.body ≡ []
