-- Numbers at places of a list of bytes, in network byte order: the highest byte stands first (RFC 791, appendix B).
use Rattle.std.specs.Prelude.{ℕ, List, drop}
use Rattle.byteorder.specs.Endian.{big_number}

-- the number in the n bytes from place i
abbrev pub field : ℕ → ℕ → List ℕ → ℕ
field i n bytes = big_number n (drop i bytes)
