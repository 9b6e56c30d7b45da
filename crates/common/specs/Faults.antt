-- A list of faults in the order in which they are looked for: each line has a test, and the fault where it holds.
use Rattle.std.specs.Prelude.{Bool, List, [], ◌∷◌, Option, Some, None, if◌then◌else◌}

-- the fault of the first line that holds
abbrev pub first : {F : Type 0} → List (Bool × F) → Option F
first [] = None
first ((holds, fault) ∷ lines) = if holds then Some fault else first lines
