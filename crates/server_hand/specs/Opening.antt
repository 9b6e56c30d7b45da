-- How the balancer opens a flow's connection to its server (RFC 9293, 3.5) with the client's own numbers: it sends the
-- client's SYN, and once the server has answered it the acknowledgment and the bytes that the client has sent so far.
use Rattle.std.specs.Prelude.{◌≡◌, ◌≤◌, ◌<◌, ℕ, ◌+◌, ◌-◌, ◌*◌, ◌==◌, if◌then◌else◌, min, max, List, [], ◌∷◌, map, length, take, drop, slice_get, Option, Some, None, IfSome}
use Rattle.std.specs.List.{range_with_len, flat_map}
use Rattle.std.specs.Fork.{slice_chunk}
use Rattle.std.specs.Int.{div_ceil}
use Rattle.seq_space.specs.Positions.{number_of}
use Rattle.flow_record.specs.declared.record.Record.{Record}
use Rattle.flow_record.specs.Records.{syn_number, syn_mss, syn_window, syn_scale, syn_sack, open_server, open_port, open_number, open_scale}
use Rattle.window_scale.specs.Windows.{IsGreatest, restated, shifts_by}
use Rattle.tcp_segment.specs.OptionArea.{no_options}
use Rattle.tcp_segment.specs.declared.segment.Segment.{Segment}
use Rattle.rule_table.specs.Setups.{SetupView, server_of}

-- the client's SYN, sent to the server from this port of the service's address
unfoldable pub server_syn_segment : SetupView → Record → ℕ → ℕ → Segment
server_syn_segment setup syn server port = record {
  source = setup.service.address;
  target = (server_of setup server).address;
  head = record {
    source_port = port;
    target_port = (server_of setup server).port;
    seq = record { 0 = syn_number syn };
    ack = record { 0 = 0 };
    flags = 0x02;
    window = syn_window syn;
    urgent = 0;
    options = record no_options { mss = Some (min 1460 (syn_mss syn)); scale = syn_scale syn; sack_permitted = syn_sack syn };
  };
  body = [];
}

-- by how many bits the server shifts the windows that it is sent
abbrev pub server_shift : Record → Record → ℕ
server_shift syn opened = (shifts_by (syn_scale syn) (open_scale opened)).server_reads

-- the acknowledgment of the server's SYN, behind the client's; the window is that of the client's SYN
unfoldable pub opening_ack : SetupView → Record → Record → Segment
opening_ack setup syn opened = record {
  source = setup.service.address;
  target = (server_of setup (open_server opened)).address;
  head = record {
    source_port = open_port opened;
    target_port = (server_of setup (open_server opened)).port;
    seq = record { 0 = number_of (syn_number syn) 1 };
    ack = record { 0 = number_of (open_number opened) 1 };
    flags = 0x10;
    window = restated (syn_window syn) 0 (server_shift syn opened);
    urgent = 0;
    options = no_options;
  };
  body = [];
}

-- how many bytes a piece has: as many as the server takes (RFC 9293, 3.7.1), but from 64 to 1460
abbrev pub piece_size : Option ℕ → ℕ
piece_size None = 536
piece_size (Some mss) = min 1460 (max 64 mss)

-- how many pieces of this size are sent of so many bytes: ten at most
abbrev pub piece_count : ℕ → ℕ → ℕ
piece_count size n = min 10 (div_ceil n size)

-- Piece i of the bytes that are held, of which so many are sent: the acknowledgment again, with the piece as its data and
-- the number of its place; the last piece has PSH.
unfoldable pub piece_segment : Segment → ℕ → List ℕ → ℕ → ℕ → Segment
piece_segment ack size held count i = record ack {
  head = record ack.head {
    seq = record { 0 = number_of ack.head.seq.0 (i * size) };
    flags = if i + 1 == count then 0x18 else 0x10;
  };
  body = slice_chunk held size i;
}

-- the pieces in their order
abbrev pub opening_pieces : Segment → ℕ → List ℕ → List Segment
opening_pieces ack size held =
    let count = piece_count size (length held) in
    map (piece_segment ack size held count) (range_with_len 0 count)

-- what a server's SYN-ACK that gives this maximum segment size, or none, is answered with
unfoldable pub opening_segments : SetupView → Record → Record → Option ℕ → List ℕ → List Segment
opening_segments setup syn opened mss held =
    let ack = opening_ack setup syn opened in
    ack ∷ opening_pieces ack (piece_size mss) held

-- ---- what stands in these segments

-- The client's SYN to this server from this port: it has the client's number, its flag is SYN, and it has no data.
pub record OpensTo (setup : SetupView) (syn : Record) (server port : ℕ) (s : Segment) : Type 0 where
  pub source : s.source ≡ setup.service.address
  pub source_port : s.head.source_port ≡ port
  pub target : s.target ≡ (server_of setup server).address
  pub target_port : s.head.target_port ≡ (server_of setup server).port
  pub seq : s.head.seq.0 ≡ syn_number syn
  pub flags : s.head.flags ≡ 0x02
  pub body : s.body ≡ []

abbrev pub ServerSynNumbers : Type 0
ServerSynNumbers =
    (setup : SetupView) (syn : Record) (server port : ℕ) → OpensTo setup syn server port (server_syn_segment setup syn server port)

-- The segment goes to the server that was opened to, stands at this position of the client's stream, and acknowledges
-- position 1 of the server's. The server counts no more by its window than the client gave in its SYN, and no greater
-- field says so few.
pub record StandsAt (setup : SetupView) (syn opened : Record) (position : ℕ) (s : Segment) : Type 0 where
  pub source : s.source ≡ setup.service.address
  pub source_port : s.head.source_port ≡ open_port opened
  pub target : s.target ≡ (server_of setup (open_server opened)).address
  pub target_port : s.head.target_port ≡ (server_of setup (open_server opened)).port
  pub seq : s.head.seq.0 ≡ number_of (syn_number syn) position
  pub ack : s.head.ack.0 ≡ number_of (open_number opened) 1
  pub window : IsGreatest s.head.window (server_shift syn opened) (syn_window syn)

-- The acknowledgment alone.
pub record IsOpeningAck (setup : SetupView) (syn opened : Record) (s : Segment) : Type 0 where
  pub stands : StandsAt setup syn opened 1 s
  pub flags : s.head.flags ≡ 0x10
  pub body : s.body ≡ []

-- Piece i of so many: a part of what is held that is not empty and has at most `size` bytes.
pub record IsPiece (setup : SetupView) (syn opened : Record) (size : ℕ) (held : List ℕ) (count i : ℕ) (s : Segment) : Type 0 where
  pub stands : StandsAt setup syn opened (1 + i * size) s
  pub flags : s.head.flags ≡ (if i + 1 == count then 0x18 else 0x10)
  pub part : s.body ≡ take (length s.body) (drop (i * size) held)
  pub some : 0 < length s.body
  pub few : length s.body ≤ size
  pub within : i * size + length s.body ≤ length held

-- The acknowledgment and then the pieces: ten at most, and their data is that of the bytes that are held, in order.
pub record AnswersServer (setup : SetupView) (syn opened : Record) (size : ℕ) (held : List ℕ) (outs : List Segment) : Type 0 where
  pub first : IfSome (slice_get outs 0) (IsOpeningAck setup syn opened)
  pub pieces : (i : ℕ) (s : Segment) → slice_get outs (i + 1) ≡ Some s → IsPiece setup syn opened size held (length outs - 1) i s
  pub few : (1 ≤ length outs) × (length outs ≤ 11)
  pub whole : flat_map (λ s. s.body) outs ≡ take (10 * size) held

abbrev pub OpeningNumbers : Type 0
OpeningNumbers =
    (setup : SetupView) (syn opened : Record) (mss : Option ℕ) (held : List ℕ)
    → AnswersServer setup syn opened (piece_size mss) held (opening_segments setup syn opened mss held)
