-- What holds of every reading of bytes.
use Rattle.std.specs.Prelude.{◌≡◌, ◌↔◌, ℕ, ◌≤◌, List, ◌++◌, length, take}
use Rattle.httparse.specs.Grammar.{RequestHead, ReadsRequest, print_request}
use Rattle.http_head.specs.Lines.{lines_of}
use Rattle.http_head.specs.Reading.{reading, complete, bad, without_head, field_line_limit}

-- a prefix of the bytes is the head, which has no more field lines than a head may have
abbrev pub BeginsWith : List ℕ → RequestHead → Type 0
BeginsWith bytes head = ((rest : List ℕ) × ReadsRequest bytes head rest) × (length head.fields ≤ field_line_limit)

-- bytes are complete exactly where a prefix is a head of the grammar
abbrev pub CompleteIsHead : Type 0
CompleteIsHead = (bytes : List ℕ) (head : RequestHead) → (reading bytes ≡ complete head) ↔ BeginsWith bytes head

-- all others are bad where their lines are over, and else partial
abbrev pub OthersByLines : Type 0
OthersByLines =
    (bytes : List ℕ) → ((head : RequestHead) → BeginsWith bytes head → ⊥) → reading bytes ≡ without_head (lines_of bytes)

-- that prefix is the only one
abbrev pub HeadIsOne : Type 0
HeadIsOne =
    (bytes : List ℕ) (one other : RequestHead) (rest left : List ℕ) → ReadsRequest bytes one rest
    → ReadsRequest bytes other left → (one ≡ other) × (rest ≡ left)

-- whatever follows, the head stays the same
abbrev pub CompleteStays : Type 0
CompleteStays =
    (bytes more : List ℕ) (head : RequestHead) → reading bytes ≡ complete head → reading (bytes ++ more) ≡ complete head

-- the head's own bytes are enough
abbrev pub HeadAlone : Type 0
HeadAlone =
    (bytes : List ℕ) (head : RequestHead) → reading bytes ≡ complete head
    → reading (take (length (print_request head)) bytes) ≡ complete head

-- bytes that are bad stay bad, whatever follows
abbrev pub BadStays : Type 0
BadStays = (bytes more : List ℕ) → reading bytes ≡ bad → reading (bytes ++ more) ≡ bad
