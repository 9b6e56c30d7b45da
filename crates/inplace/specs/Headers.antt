-- The parts of rewritten headers, by the bytes of the headers that were there.
use Rattle.std.specs.Prelude.{◌≤◌, ℕ, ◌+◌, ◌-◌, ◌*◌, ◌%◌, if◌then◌else◌, List, ◌++◌, length, drop, sum, slice_index}
use Rattle.common.specs.Fields.{field}
use Rattle.ipv4.specs.Checksum.{ones, words}
use Rattle.ipv4.specs.Packet.{header_words}
use Rattle.ipv4.specs.Written.{header}
use Rattle.tcp_segment.specs.Flags.{has_ack}
use Rattle.tcp_segment.specs.OptionArea.{no_options}
use Rattle.tcp_segment.specs.Segments.{pseudo_header}
use Rattle.tcp_segment.specs.Written.{head_with}
use Rattle.tcp_segment.specs.declared.segment.Head.{Head}
use Rattle.inplace.specs.declared.change.Change.{Change}

-- the bytes behind the packet's header
abbrev pub behind_packet : List ℕ → List ℕ
behind_packet head = drop (4 * header_words head) head

-- There is a header of a packet and at least the fixed part of a segment's, and with n bytes of data they fit a packet.
pub record AreHeaders (head : List ℕ) (n : ℕ) : Type 0 where
  pub words : 5 ≤ header_words head
  pub long : 4 * header_words head + 20 ≤ length head
  pub size : length head + n ≤ 65535

-- the checksum where words with the sum `old`, the checksum that was there among them, give way to words with the sum `new`
-- (RFC 1624, 3, equation 3: there the old checksum and the other words that go are complemented one by one)
abbrev pub carried_on : ℕ → ℕ → ℕ
carried_on old new = 65535 - ones ((65535 - old) + new)

-- the sum of the words that go: those of the pseudo header and of the segment's header with its checksum
abbrev pub sum_before : List ℕ → ℕ → ℕ
sum_before head n =
    ones (sum (words (pseudo_header (field 12 4 head) (field 16 4 head) (length (behind_packet head) + n)))
    + sum (words (behind_packet head)))

-- the sum of the words that come
abbrev pub sum_after : Change → Head → ℕ → ℕ
sum_after change h n =
    ones (sum (words (pseudo_header change.source change.target (20 + n))) + sum (words (head_with h 5 0)))

-- the fields of the new header
abbrev pub head_after : Change → List ℕ → Head
head_after change head = record {
  source_port = change.source_port;
  target_port = change.target_port;
  seq = change.seq;
  ack = record { 0 = if has_ack (slice_index (behind_packet head) 13) then change.ack.0 else 0 };
  flags = slice_index (behind_packet head) 13 % 64;
  window = change.window;
  urgent = field 18 2 (behind_packet head);
  options = no_options;
}

-- the new headers
abbrev pub headers_after : Change → List ℕ → ℕ → List ℕ
headers_after change head n =
    header change.source change.target (40 + n)
    ++ head_with (head_after change head) 5
    (carried_on (sum_before head n) (sum_after change (head_after change head) n))
