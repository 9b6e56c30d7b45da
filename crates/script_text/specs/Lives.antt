-- Which instances live at a record, and which of them it goes to.
use Rattle.std.specs.Prelude.{ℕ, ◌+◌, ◌%◌, Bool, false, ◌&&◌, ◌||◌, not, ◌==◌, nat_lt, nat_le, List, [], ◌∷◌, map, find, Option, Some, None, unwrap_or, if◌then◌else◌}
use Rattle.std.specs.List.{list_any, range_with_len}
use Rattle.script_text.specs.declared.line.Line.{Line}
use Rattle.script_text.specs.declared.line.Line.TheVariants.{Give, Crash, Back}

-- a `crash` of this instance at a record below this one
abbrev pub crashes_below : ℕ → ℕ → Line → Bool
crashes_below number below (Crash instance item after) = instance == number && nat_lt item below
crashes_below number below _ = false

-- a `back` of this instance at this record or one below it
abbrev pub is_back_by : ℕ → ℕ → Line → Bool
is_back_by number by (Back instance item) = instance == number && nat_le item by
is_back_by number by _ = false

-- a crash below the record has no back after it at or below the record
abbrev pub is_down : List Line → ℕ → ℕ → Bool
is_down [] number at = false
is_down (line ∷ lines) number at =
    (crashes_below number at line && not (list_any (is_back_by number at) lines)) || is_down lines number at

-- the instance is living for the record
abbrev pub living : List Line → ℕ → ℕ → Bool
living lines number at = not (is_down lines number at)

-- the instance that a record is given to
abbrev pub given : List Line → ℕ → Option ℕ
given [] at = None
given (Give item instance ∷ lines) at = if item == at then Some instance else given lines at
given (_ ∷ lines) at = given lines at

-- the first living instance from the one that the record is given to, or else from this one, on and round all instances
abbrev pub assigned : List Line → ℕ → ℕ → ℕ → Option ℕ
assigned lines instances at first =
    find (λ i. living lines i at) (map (λ k. (unwrap_or (given lines at) first + k) % instances) (range_with_len 0 instances))

-- ---- words of proofs

-- the instances from this one on, round to the one before it
abbrev pub round_from : ℕ → ℕ → List ℕ
round_from instances first = map (λ k. (first + k) % instances) (range_with_len 0 instances)
