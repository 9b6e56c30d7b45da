-- A hash of bytes, and the slot that it names.
use Rattle.std.specs.Prelude.{ℕ, ◌+◌, ◌*◌, ◌/◌, ◌%◌, ◌^◌, List, [], ◌∷◌}

-- the hash with one more byte
abbrev pub hash_step : ℕ → ℕ → ℕ
hash_step hash byte = (hash * 31 + byte) % 2 ^ 32

-- the hash with these bytes more
abbrev pub hash_from : ℕ → List ℕ → ℕ
hash_from hash [] = hash
hash_from hash (byte ∷ bytes) = hash_from (hash_step hash byte) bytes

unfoldable pub hash_of : List ℕ → ℕ
hash_of bytes = hash_from 0 bytes

-- the slot that a hash names, by the golden ratio (Knuth, The Art of Computer Programming, volume 3, 6.4)
abbrev pub first_slot : ℕ → ℕ
first_slot hash = (hash * 2654435769) % 2 ^ 32 / 2 ^ 16 % 2048
