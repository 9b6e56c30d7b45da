-- The one spelling of a written packet (RFC 791, 3.1): version 4, a header of five words of four bytes, service 0,
-- identification 0, the flag "don't fragment", 64 hops to live, protocol 6.
use Rattle.std.specs.Prelude.{ℕ, ◌+◌, List, ◌∷◌, ◌++◌, length}
use Rattle.byteorder.specs.Endian.{big_bytes}
use Rattle.ipv4.specs.Checksum.{checksum}

-- the header of a packet of `total` bytes, with this sum in it
unfoldable pub header_with : ℕ → ℕ → ℕ → ℕ → List ℕ
header_with source target total sum =
    69 ∷ 0 ∷ big_bytes 2 total ++ (0 ∷ 0 ∷ 64 ∷ 0 ∷ 64 ∷ 6 ∷ big_bytes 2 sum) ++ big_bytes 4 source ++ big_bytes 4 target

-- the header, with the checksum of itself with a sum of zero
abbrev pub header : ℕ → ℕ → ℕ → List ℕ
header source target total = header_with source target total (checksum (header_with source target total 0))

-- the packet with this payload
abbrev pub spelling : ℕ → ℕ → List ℕ → List ℕ
spelling source target payload = header source target (20 + length payload) ++ payload
