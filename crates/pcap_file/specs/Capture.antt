-- Captures in the classic pcap format (the manual page pcap-savefile): the file header, a record, and the faults of
-- both. All lengths and places are in bytes.
use Rattle.std.specs.Prelude.{◌≡◌, ◌≤◌, ℕ, ◌+◌, ◌/◌, Bool, nat_lt, ◌==◌, ◌||◌, ◌&&◌, not, if◌then◌else◌, List, [], ◌∷◌, length, drop}
use Rattle.byteorder.specs.Endian.{little_number}
use Rattle.common.specs.Fields.{field}
use Rattle.pcap_file.specs.declared.capture.TheConstants.{RECORD_LIMIT}
use Rattle.pcap_file.specs.declared.capture.Link.TheVariants.{Ethernet, Raw}
use Rattle.pcap_file.specs.declared.capture.Frame.{Frame}
use Rattle.pcap_file.specs.declared.capture.Settings.{Settings}
use Rattle.pcap_file.specs.declared.capture.PcapFault.{PcapFault}
use Rattle.pcap_file.specs.declared.capture.PcapFault.TheVariants.{HeaderCut, Magic, Version, Link as UnknownLink, RecordCut, TooLarge}

-- the number in the n bytes from place i, the lowest first where `little` is true
abbrev pub number_at : Bool → ℕ → ℕ → List ℕ → ℕ
number_at little i n bytes = if little then little_number n (drop i bytes) else field i n bytes

-- the first four bytes, the highest first
abbrev pub magic_of : List ℕ → ℕ
magic_of bytes = field 0 4 bytes

-- the magic numbers of the other byte order
abbrev pub is_little : List ℕ → Bool
is_little bytes = magic_of bytes == 0xd4c3_b2a1 || magic_of bytes == 0x4d3c_b2a1

abbrev pub link_type : List ℕ → ℕ
link_type bytes = number_at (is_little bytes) 20 4 bytes

-- the faults of the file header in the order in which they are looked for, each where it holds
abbrev pub header_faults : List ℕ → List (Bool × PcapFault)
header_faults bytes =
    let major = number_at (is_little bytes) 4 2 bytes in
    let minor = number_at (is_little bytes) 6 2 bytes in
    (nat_lt (length bytes) 24, HeaderCut (length bytes))
    ∷ (not (magic_of bytes == 0xa1b2_c3d4 || magic_of bytes == 0xa1b2_3c4d || is_little bytes), Magic (magic_of bytes))
    ∷ (not (major == 2 && minor == 4), Version major minor)
    ∷ (not (link_type bytes == 1 || link_type bytes == 101), UnknownLink (link_type bytes))
    ∷ []

-- what a file header without a fault says; two of the magic numbers stand for fractions in nanoseconds
abbrev pub settings_of : List ℕ → Settings
settings_of bytes = record {
  little = is_little bytes;
  nano = magic_of bytes == 0xa1b2_3c4d || magic_of bytes == 0x4d3c_b2a1;
  link = if link_type bytes == 1 then Ethernet else Raw;
}

-- the kept length of the record whose head begins at this place
abbrev pub kept_at : Settings → ℕ → List ℕ → ℕ
kept_at s at bytes = number_at s.little (at + 8) 4 bytes

-- the fraction of a second in microseconds
abbrev pub micros_at : Settings → ℕ → List ℕ → ℕ
micros_at s at bytes = if s.nano then number_at s.little (at + 4) 4 bytes / 1000 else number_at s.little (at + 4) 4 bytes

-- the faults of the record that begins at this place, before the end of the bytes, in the order in which they are
-- looked for
abbrev pub record_faults : Settings → ℕ → List ℕ → List (Bool × PcapFault)
record_faults s at bytes =
    (nat_lt (length bytes) (at + 16), RecordCut at)
    ∷ (nat_lt RECORD_LIMIT (kept_at s at bytes), TooLarge at (kept_at s at bytes))
    ∷ (nat_lt (length bytes) (at + 16 + kept_at s at bytes), RecordCut at)
    ∷ []

-- a whole record begins at this place, and this is its frame
pub record IsFrame (s : Settings) (at : ℕ) (bytes : List ℕ) (f : Frame) : Type 0 where
  pub head : at + 16 ≤ length bytes
  pub small : f.kept ≤ RECORD_LIMIT
  pub inside : at + 16 + f.kept ≤ length bytes
  pub place : f.at ≡ at + 16
  pub seconds : f.seconds ≡ number_at s.little at 4 bytes
  pub micros : f.micros ≡ micros_at s at bytes
  pub kept : f.kept ≡ kept_at s at bytes
  pub original : f.original ≡ number_at s.little (at + 12) 4 bytes
  pub link : f.link ≡ s.link

-- ---- words of proofs
abbrev pub major_of : List ℕ → ℕ
major_of bytes = number_at (is_little bytes) 4 2 bytes

abbrev pub minor_of : List ℕ → ℕ
minor_of bytes = number_at (is_little bytes) 6 2 bytes
