-- The forms of what a rule may ask for: all printable ASCII (RFC 20), without what would cut it short.
use Rattle.std.specs.Prelude.{ℕ, Bool, false, ◌&&◌, not, ◌==◌, nat_lt, nat_le, List, [], ◌∷◌, length}
use Rattle.std.specs.List.{list_all, list_any}

-- b'/'
abbrev pub slash : ℕ
slash = 47

-- b':'
abbrev pub colon : ℕ
colon = 58

-- b';'
abbrev pub semicolon : ℕ
semicolon = 59

-- b'='
abbrev pub equals : ℕ
equals = 61

-- b'?'
abbrev pub question : ℕ
question = 63

-- b'['
abbrev pub bracket : ℕ
bracket = 91

-- a printable ASCII character that is no space
abbrev pub is_visible : ℕ → Bool
is_visible b = nat_lt 32 b && nat_lt b 127

-- from 1 to so many visible characters, none of them this one
abbrev pub is_word : ℕ → ℕ → List ℕ → Bool
is_word limit other bytes =
    nat_lt 0 (length bytes) && nat_le (length bytes) limit && list_all (λ b. is_visible b && not (b == other)) bytes

abbrev pub is_host : List ℕ → Bool
is_host host = is_word 255 colon host

abbrev pub begins_with : ℕ → List ℕ → Bool
begins_with c [] = false
begins_with c (b ∷ bytes) = b == c

abbrev pub is_path : List ℕ → Bool
is_path path = is_word 1024 question path && begins_with slash path

abbrev pub is_cookie : List ℕ → Bool
is_cookie cookie = is_word 1024 semicolon cookie && list_any (λ b. b == equals) cookie
