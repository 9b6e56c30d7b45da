-- A shelf before and after what was done to it.
use Rattle.std.specs.Prelude.{ℕ, List, [], IsSome, unwrap_or}
use Rattle.std.specs.List.{AllByRecursion}
use Rattle.shelf.specs.Shelf.{Contents, Counts}

-- a shelf before a change and after it
pub record Change : Type 1 where
  pub old : Contents
  pub new : Contents
  -- the counts of faults
  pub before : Counts
  pub now : Counts
  -- the names that were sure before it
  pub sure : List ℕ → Type 0

-- the change from one state of a shelf to another, by the shelf's three meanings
abbrev pub change : {S : Type 0} → (S → Contents) → (S → Counts) → (S → List ℕ → Type 0) → S → S → Change
change content faults sure s t = record { old = content s; new = content t; before = faults s; now = faults t; sure = sure s }

-- what a name holds, where it is told
abbrev pub held : Contents → List ℕ → List ℕ
held content name = unwrap_or (content name) []

-- it is told what each of these names holds
abbrev pub AreTold : Contents → List (List ℕ) → Type 0
AreTold content names = AllByRecursion (λ n. IsSome (content n)) names
