-- The Internet checksum in closed form (RFC 791, 3.1; RFC 1071, 1).
use Rattle.std.specs.Prelude.{ℕ, ◌+◌, ◌-◌, ◌*◌, ◌%◌, ◌==◌, if◌then◌else◌, List, [], ◌∷◌, ◌++◌, take, drop, sum}

-- the 16-bit words of the bytes, the high byte first; an odd last byte is padded on the right with zero
abbrev pub words : List ℕ → List ℕ
words [] = []
words (high ∷ []) = 256 * high ∷ []
words (high ∷ low ∷ bytes) = (256 * high + low) ∷ words bytes

-- what a total is in 16 bits of one's complement, where 65536 counts as 1: 0 only where the total is 0, and 65535 for
-- each other multiple of 65535
abbrev pub ones : ℕ → ℕ
ones total = if total == 0 then 0 else (total - 1) % 65535 + 1

-- the complement of the one's complement sum of the words
abbrev pub checksum : List ℕ → ℕ
checksum bytes = 65535 - ones (sum (words bytes))

-- the bytes with a zero for the two from place i
abbrev pub blanked : ℕ → List ℕ → List ℕ
blanked i bytes = take i bytes ++ 0 ∷ 0 ∷ drop (i + 2) bytes
