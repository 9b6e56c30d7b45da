-- What is added to what a name holds.
use Rattle.std.specs.Prelude.{◌≡◌, ◌⊎◌, ℕ, ◌≤◌, List, ◌++◌, length, take, Option}
use Rattle.std.specs.Option.{option_map}
use Rattle.shelf.specs.Shelf.{started}

-- a content with these bytes behind it
abbrev pub longer : Option (List ℕ) → List ℕ → Option (List ℕ)
longer content bytes = option_map (λ c. c ++ bytes) content

-- a beginning of these bytes was added
pub record AddsPart (old new : Option (List ℕ)) (bytes : List ℕ) : Type 0 where
  pub count : ℕ
  pub within : count ≤ length bytes
  pub is : new ≡ longer old (take count bytes)

-- of a text a beginning was added to the first content, a buffer holds what comes then, and this is left
pub record Sends (first now : Option (List ℕ)) (buffer left text : List ℕ) : Type 0 where
  pub sent : List ℕ
  pub is : now ≡ longer first sent
  pub whole : sent ++ (buffer ++ left) ≡ text

-- what a name holds once it was started and these bytes were added
abbrev pub written : List ℕ → Option (List ℕ) → List ℕ → Option (List ℕ)
written name content bytes = longer (started name content) bytes

-- the name holds what it held, or it was started and a beginning of the bytes was added
abbrev pub HoldsPart : List ℕ → Option (List ℕ) → Option (List ℕ) → List ℕ → Type 0
HoldsPart name old new bytes = (new ≡ old) ⊎ AddsPart (started name old) new bytes
