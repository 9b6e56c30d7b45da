-- What bytes say of a request head, in three answers. The head itself is that of the grammar (RFC 9112, 2 to 5), which
-- is computed here line by line.
use Rattle.std.specs.Prelude.{ℕ, Bool, ◌&&◌, ◌||◌, ◌==◌, nat_lt, nat_le, List, [], ◌∷◌, length, Option, Some, None, option_map, if◌then◌else◌, codes}
use Rattle.std.specs.List.{slice_split, list_all, list_any, before_first, after_first}
use Rattle.std.specs.Option.{option_and_then}
use Rattle.std.specs.Str.{bytes_eq, is_utf8}
use Rattle.httparse.specs.Ascii.{space, colon}
use Rattle.httparse.specs.Grammar.{is_token, is_uri_byte, is_value_byte, LineEnd, Field, RequestHead}
use Rattle.http_head.specs.Lines.{lines_of, is_blank, is_ended, without_end, after_request_line, has_empty_line, field_lines}

-- the most field lines that a head may have
abbrev pub field_line_limit : ℕ
field_line_limit = 64

-- the minor version that the bytes name
abbrev pub minor_version : List ℕ → Option ℕ
minor_version version =
    if bytes_eq version (codes "HTTP/1.0") then Some 0 else if bytes_eq version (codes "HTTP/1.1") then Some 1 else None

-- a request target: bytes that are no space or control, in UTF-8
abbrev pub is_target : List ℕ → Bool
is_target target = nat_lt 0 (length target) && list_all is_uri_byte target && is_utf8 target

-- a field with this name, value and line end, if these are of their classes
abbrev pub field_with : List ℕ → List ℕ → LineEnd → Option Field
field_with name raw end =
    if is_token name && list_all is_value_byte raw then Some (record { name = name; raw = raw; end = end }) else None

-- the field of a field line: a name, a colon and the value
abbrev pub field_of : List ℕ → Option Field
field_of line =
    let w = without_end line in
    if list_any (λ b. b == colon) w.0
    then field_with (before_first (λ b. b == colon) w.0) (after_first (λ b. b == colon) w.0) w.1
    else None

-- the field lines up to the empty line, and the end of that
abbrev pub section_of : List (List ℕ) → Option (List Field × LineEnd)
section_of [] = None
section_of (line ∷ lines) =
    if is_blank line then (if is_ended lines then Some ([], (without_end line).1) else None)
    else option_and_then (λ f. option_map (λ s. (f ∷ s.0, s.1)) (section_of lines)) (field_of line)

-- the head of a request line's words and the fields after it
abbrev pub head_with : List (List ℕ) → LineEnd → List Field × LineEnd → Option RequestHead
head_with (method ∷ target ∷ version ∷ []) end section =
    if is_token method && is_target target
    then option_map (λ minor. record {
      blank = [];
      method = method;
      target = target;
      minor = minor;
      line_end = end;
      fields = section.0;
      last = section.1;
    }) (minor_version version)
    else None
head_with words end section = None

-- the head with a blank line before it
abbrev pub after_blank : LineEnd → RequestHead → RequestHead
after_blank end h = record h { blank = end ∷ h.blank }

-- the head at the front of the lines, if there is one
abbrev pub head_of : List (List ℕ) → Option RequestHead
head_of [] = None
head_of (line ∷ lines) =
    let w = without_end line in
    if is_blank line then option_map (after_blank w.1) (head_of lines)
    else option_and_then (head_with (slice_split (λ b. b == space) w.0) w.1) (section_of lines)

-- what bytes say: they begin with a head; they hold none, and its lines are over; or nothing ends its lines yet
pub data Reading : Type 0 where
  complete : RequestHead → Reading
  bad partial : Reading

-- the lines after the request line are over: the empty line has come, or one field line too many has begun
abbrev pub fields_over : List (List ℕ) → Bool
fields_over lines = has_empty_line lines || nat_lt field_line_limit (field_lines lines)

-- the head's lines are over
abbrev pub are_over : List (List ℕ) → Bool
are_over lines = fields_over (after_request_line lines)

-- what the lines say where no head is at their front
abbrev pub without_head : List (List ℕ) → Reading
without_head lines = if are_over lines then bad else partial

-- a head with too many field lines is none
abbrev pub reading_with : Option RequestHead → List (List ℕ) → Reading
reading_with None lines = without_head lines
reading_with (Some h) lines = if nat_le (length h.fields) field_line_limit then complete h else without_head lines

-- what the bytes say of a request head
unfoldable pub reading : List ℕ → Reading
reading bytes = let lines = lines_of bytes in reading_with (head_of lines) lines
