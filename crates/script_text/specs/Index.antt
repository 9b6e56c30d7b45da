-- What an index tells of the lines that it was made for.
use Rattle.std.specs.Prelude.{◌≡◌, ℕ, ◌-◌, ◌^◌, ◌<◌, ⊤, false, ◌&&◌, not, nat_eq, nat_le, List, length}
use Rattle.std.specs.List.{list_any, count_by}
use Rattle.std.specs.List.Sorted.{IsNonDecreasing}
use Rattle.std.specs.HashMap as map
use Rattle.std.specs.HashSet as set
use Rattle.script_text.specs.declared.line.Line.{Line}
use Rattle.script_text.specs.declared.line.Line.TheVariants.{Give, Crash, Back, Fail}
use Rattle.script_text.specs.declared.index.Index.{Index}
use Rattle.script_text.specs.Faults.{fails, last_turn, may_back, may_crash, is_disordered, is_twice}
use Rattle.script_text.specs.Lives.{given, living}
use Rattle.script_text.specs.Changes.{changes_of, is_even, last_change}

-- these are the changes of the instance's life: they do not fall, and it is down after an odd number of them
pub record IsLife (lines : List Line) (number : ℕ) (changes : List ℕ) : Type 0 where
  pub lives : (at : ℕ) → living lines number at ≡ is_even (count_by (λ c. nat_le c at) changes)
  pub crash : (item : ℕ) → may_crash (last_turn number lines) item ≡ (is_even (length changes) && nat_le (last_change changes) item)
  pub back : (item : ℕ) → may_back (last_turn number lines) item ≡ (not (is_even (length changes)) && nat_le (last_change changes) item)
  pub sorted : IsNonDecreasing changes

-- the index is that of these lines
pub record IsIndex (lines : List Line) (index : Index) : Type 0 where
  pub gives : (at : ℕ) → map.get nat_eq index.gives at ≡ given lines at
  pub failed : (number : ℕ) → set.contains nat_eq index.failed number ≡ list_any (fails number) lines
  pub lives : (number : ℕ) → IsLife lines number (changes_of index.lives number)

-- the line may stand after these
pub record MayStand (lines : List Line) (line : Line) : Type 0 where
  pub once : is_twice lines line ≡ false
  pub ordered : is_disordered lines line ≡ false

-- there is room for the line with so many instances
abbrev pub HasRoom : ℕ → Line → Type 0
HasRoom instances (Crash instance item after) = (instance < instances) × (item < 2 ^ 32 - 1)
HasRoom instances (Back instance item) = instance < instances
HasRoom instances (Give item instance) = ⊤
HasRoom instances (Fail replica item) = ⊤
