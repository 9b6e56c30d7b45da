-- What the calls of a shelf say: contents by name, counts of faults by kind and name, and which names are sure. Names
-- and contents are lists of bytes. These are definitions of this project.
use Rattle.std.specs.Prelude.{◌≡◌, ◌≢◌, ℕ, ◌-◌, ◌<◌, ◌≤◌, Bool, false, ◌||◌, ◌==◌, List, [], ◌∷◌, length, take, drop, Option, if◌then◌else◌}
use Rattle.std.specs.Option.{option_map}
use Rattle.shelf.specs.declared.outside.Kind.{Kind}

-- the bytes that each name holds, where that is told
abbrev pub Contents : Type 0
Contents = List ℕ → Option (List ℕ)

-- the faults of each kind at each name
abbrev pub Counts : Type 0
Counts = Kind → List ℕ → ℕ

-- every name holds what it held, and is told as it was
abbrev pub SameContents : Contents → Contents → Type 0
SameContents old new = (n : List ℕ) → new n ≡ old n

-- every name but this one holds what it held, and is told as it was
abbrev pub SameOthers : List ℕ → Contents → Contents → Type 0
SameOthers name old new = (n : List ℕ) → n ≢ name → new n ≡ old n

-- no count has fallen
abbrev pub NoneFell : Counts → Counts → Type 0
NoneFell old new = (k : Kind) (n : List ℕ) → old k n ≤ new k n

-- each sure name is still sure
abbrev pub StaysSure : (List ℕ → Type 0) → (List ℕ → Type 0) → Type 0
StaysSure old new = (n : List ℕ) → old n → new n

-- the first n bytes of a buffer are those of the content from a place on, and there are none only past the end
pub record IsRead (content : List ℕ) (at : ℕ) (buffer : List ℕ) (n : ℕ) : Type 0 where
  pub bytes : take n buffer ≡ take n (drop at content)
  pub inside : n ≤ length content - at
  pub goes_on : 0 < length buffer → at < length content → 0 < n

-- the names `-` and `!`: standard output and standard error
abbrev pub is_stream : List ℕ → Bool
is_stream (x ∷ []) = (x == 45) || (x == 33)
is_stream _ = false

-- what a name holds once it has been started: nothing, but a standard stream keeps what it has
abbrev pub started : List ℕ → Option (List ℕ) → Option (List ℕ)
started name content = if is_stream name then content else option_map (λ _. []) content
