-- What a request head tells: its length, its target, its Host value, and the pairs of its Cookie fields
-- (RFC 9112, 3.2; RFC 6265, 4.2).
use Rattle.std.specs.Prelude.{ℕ, Bool, true, false, ◌&&◌, ◌==◌, List, [], ◌∷◌, ◌++◌, length, map, Option, Some, None, if◌then◌else◌, codes}
use Rattle.std.specs.Char.{to_ascii_lowercase}
use Rattle.std.specs.List.{slice_split, list_any}
use Rattle.std.specs.Borrow.{Bor}
use Rattle.std.specs.Str.{bytes_eq}
use Rattle.httparse.specs.Ascii.{semicolon}
use Rattle.httparse.specs.Grammar.{trim_ows, print_request}
use Rattle.httparse.specs.Spans.{name_and_value}
use Rattle.http_head.specs.Reading.{Reading, complete, bad, partial}

-- whether the bytes begin with a head
abbrev pub is_complete : Reading → Bool
is_complete (complete head) = true
is_complete bad = false
is_complete partial = false

-- how many bytes the head has
abbrev pub length_of : Reading → ℕ
length_of (complete head) = length (print_request head)
length_of bad = 0
length_of partial = 0

-- the request target as written
abbrev pub target_of : Reading → List ℕ
target_of (complete head) = head.target
target_of bad = []
target_of partial = []

-- the name and the value of each field, a value without the white space around it
abbrev pub fields_of : Reading → List (List ℕ × List ℕ)
fields_of (complete head) = map name_and_value head.fields
fields_of bad = []
fields_of partial = []

-- the two names are the same but for ASCII case
abbrev pub same_name : List ℕ → List ℕ → Bool
same_name a b = bytes_eq (map to_ascii_lowercase a) (map to_ascii_lowercase b)

-- the value of the first field of that name
abbrev pub first_named : List ℕ → List (List ℕ × List ℕ) → Option (List ℕ)
first_named name [] = None
first_named name (f ∷ fields) = if same_name f.0 name then Some f.1 else first_named name fields

-- the value of the first Host field
abbrev pub host_of : Reading → Option (List ℕ)
host_of r = first_named (codes "host") (fields_of r)

-- whether a piece of the value is the pair; the value is cut at each `;`, and the pieces have no space or tab around them
abbrev pub has_piece : List ℕ → List ℕ → Bool
has_piece pair value = list_any (λ piece. bytes_eq (trim_ows piece) pair) (slice_split (λ b. b == semicolon) value)

-- a Cookie field that has the pair
abbrev pub is_pair_field : List ℕ → List ℕ × List ℕ → Bool
is_pair_field pair f = same_name f.0 (codes "cookie") && has_piece pair f.1

-- whether a Cookie field of the head has the pair
abbrev pub has_pair : Reading → List ℕ → Bool
has_pair r pair = list_any (is_pair_field pair) (fields_of r)

-- the pieces of a value, without the spaces and tabs around them
abbrev pub pieces_of : List ℕ → List (List ℕ)
pieces_of value = map trim_ows (slice_split (λ b. b == semicolon) value)

-- those of a value of which something may be left
abbrev pub pieces_left : Option (Bor (List ℕ)) → List (List ℕ)
pieces_left None = []
pieces_left (Some value) = pieces_of value.now

-- the pieces of the Cookie fields among these
abbrev pub cookies_in : List (List ℕ × List ℕ) → List (List ℕ)
cookies_in [] = []
cookies_in (f ∷ fields) = if same_name f.0 (codes "cookie") then pieces_of f.1 ++ cookies_in fields else cookies_in fields

-- the pieces of a head's Cookie fields
abbrev pub cookies_of : Reading → List (List ℕ)
cookies_of r = cookies_in (fields_of r)
