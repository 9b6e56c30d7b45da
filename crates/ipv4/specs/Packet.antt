-- IPv4 packets (RFC 791, 3.1): which bytes spell a packet, and the faults of bytes that do not.
use Rattle.std.specs.Prelude.{◌≡◌, ◌≤◌, ◌<◌, ℕ, ◌+◌, ◌*◌, ◌/◌, ◌%◌, ◌^◌, Bool, nat_lt, ◌==◌, ◌||◌, not, List, [], ◌∷◌, ◌++◌, length, take, slice_index}
use Rattle.common.specs.Fields.{field}
use Rattle.ipv4.specs.declared.packet.TheConstants.{PAYLOAD_LIMIT}
use Rattle.ipv4.specs.declared.packet.Packet.{Packet}
use Rattle.ipv4.specs.declared.packet.IpFault.{IpFault}
use Rattle.ipv4.specs.declared.packet.IpFault.TheVariants.{Short, Version, HeaderLength, TotalLength, BadSum, Fragment, Protocol}
use Rattle.ipv4.specs.Checksum.{checksum, blanked}
use Rattle.ipv4.specs.Written.{spelling}

abbrev pub version_of : List ℕ → ℕ
version_of bytes = slice_index bytes 0 / 16

-- the header's length in words of four bytes
abbrev pub header_words : List ℕ → ℕ
header_words bytes = slice_index bytes 0 % 16

-- the packet's length in bytes
abbrev pub total_length : List ℕ → ℕ
total_length bytes = field 2 2 bytes

-- the flag of more fragments and the fragment's offset; the two flags above them say nothing of a fragment
abbrev pub fragment_bits : List ℕ → ℕ
fragment_bits bytes = field 6 2 bytes % 2 ^ 14

abbrev pub protocol_of : List ℕ → ℕ
protocol_of bytes = slice_index bytes 9

abbrev pub kept_sum : List ℕ → ℕ
kept_sum bytes = field 10 2 bytes

-- the checksum of the header with the sum's own field zero
abbrev pub header_sum : List ℕ → ℕ
header_sum bytes = checksum (blanked 10 (take (4 * header_words bytes) bytes))

-- the bytes begin with a packet, and this is where it stands
pub record IsPacket (bytes : List ℕ) (p : Packet) : Type 0 where
  pub long : 20 ≤ length bytes
  pub version : version_of bytes ≡ 4
  pub words : 5 ≤ header_words bytes
  pub start : p.start ≡ 4 * header_words bytes
  pub stop : p.end ≡ total_length bytes
  pub ordered : p.start ≤ p.end
  pub inside : p.end ≤ length bytes
  pub summed : kept_sum bytes ≡ header_sum bytes
  pub whole : fragment_bits bytes ≡ 0
  pub protocol : protocol_of bytes ≡ 6
  pub source : p.source ≡ field 12 4 bytes
  pub target : p.target ≡ field 16 4 bytes

-- the faults in the order in which they are looked for, each where it holds
abbrev pub faults : List ℕ → List (Bool × IpFault)
faults bytes =
    (nat_lt (length bytes) 20, Short 20 (length bytes))
    ∷ (not (version_of bytes == 4), Version (version_of bytes))
    ∷ (nat_lt (header_words bytes) 5 || nat_lt (length bytes) (4 * header_words bytes), HeaderLength (header_words bytes))
    ∷ (nat_lt (total_length bytes) (4 * header_words bytes) || nat_lt (length bytes) (total_length bytes), TotalLength (total_length bytes))
    ∷ (not (kept_sum bytes == header_sum bytes), BadSum (kept_sum bytes) (header_sum bytes))
    ∷ (not (fragment_bits bytes == 0), Fragment)
    ∷ (not (protocol_of bytes == 6), Protocol (protocol_of bytes))
    ∷ []

-- what is written is read again, whatever follows it
abbrev pub IsReadAgain : ℕ → ℕ → List ℕ → List ℕ → Type 0
IsReadAgain source target payload more =
    source < 2 ^ 32 → target < 2 ^ 32 → length payload ≤ PAYLOAD_LIMIT
    → IsPacket (spelling source target payload ++ more) (record { source = source; target = target; start = 20; end = 20 + length payload })
