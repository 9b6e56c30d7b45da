-- The lines of a request head: its bytes, cut at each line feed (RFC 9112, 2.1 and 2.2).
use Rattle.std.specs.Prelude.{ℕ, ◌+◌, Bool, true, false, ◌&&◌, ◌||◌, ◌==◌, List, [], ◌∷◌, if◌then◌else◌}
use Rattle.std.specs.List.{slice_split}
use Rattle.httparse.specs.Ascii.{line_feed, carriage_return}
use Rattle.httparse.specs.Grammar.{LineEnd, crlf, lf}

-- the lines without their line feeds; the last has none yet
abbrev pub lines_of : List ℕ → List (List ℕ)
lines_of bytes = slice_split (λ b. b == line_feed) bytes

-- a line of nothing, or of a carriage return alone
abbrev pub is_blank : List ℕ → Bool
is_blank [] = true
is_blank (b ∷ []) = b == carriage_return
is_blank (b ∷ c ∷ line) = false

-- a line without the carriage return at its end, if it has one, and which end the line so has
abbrev pub without_end : List ℕ → List ℕ × LineEnd
without_end [] = ([], lf)
without_end (b ∷ []) = if b == carriage_return then ([], crlf) else (b ∷ [], lf)
without_end (b ∷ c ∷ line) = let r = without_end (c ∷ line) in (b ∷ r.0, r.1)

-- the lines after the request line, which is the first that is not blank
abbrev pub after_request_line : List (List ℕ) → List (List ℕ)
after_request_line [] = []
after_request_line (line ∷ lines) = if is_blank line then after_request_line lines else lines

-- a line has its line feed where another line follows it
abbrev pub is_ended : List (List ℕ) → Bool
is_ended [] = false
is_ended (next ∷ lines) = true

-- whether a blank line has its line feed: the empty line that ends a head
abbrev pub has_empty_line : List (List ℕ) → Bool
has_empty_line [] = false
has_empty_line (line ∷ lines) = (is_blank line && is_ended lines) || has_empty_line lines

-- how many field lines have begun before the first blank line, the last one even without a line feed
abbrev pub field_lines : List (List ℕ) → ℕ
field_lines [] = 0
field_lines (line ∷ lines) = if is_blank line then 0 else 1 + field_lines lines
