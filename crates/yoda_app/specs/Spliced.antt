-- A text of own bytes and of slices of the trace between them.
use Rattle.std.specs.Prelude.{◌≤◌, ℕ, List, [], ◌∷◌, ◌++◌, length, drop, slice_range}
use Rattle.yoda_app.specs.declared.spliced.Splice.{Splice}
use Rattle.yoda_app.specs.declared.spliced.Spliced.{Spliced}

-- what stands behind so many of the own bytes
abbrev pub text_from : List ℕ → List ℕ → ℕ → List Splice → List ℕ
text_from trace own from [] = drop from own
text_from trace own from (s ∷ splices) = slice_range own from s.behind ++ (slice_range trace s.start s.end ++ text_from trace own s.behind splices)

-- the whole text
abbrev pub text_of : List ℕ → Spliced → List ℕ
text_of trace t = text_from trace t.own.items 0 t.splices.items

-- the slices stand one behind the other, each between own bytes that are there, and are parts of the trace
abbrev pub AreInOrder : List ℕ → List ℕ → ℕ → List Splice → Type 0
AreInOrder trace own from [] = from ≤ length own
AreInOrder trace own from (s ∷ splices) =
    (from ≤ s.behind) × (s.behind ≤ length own) × (s.start ≤ s.end) × (s.end ≤ length trace) × AreInOrder trace own s.behind splices

abbrev pub IsSpliced : List ℕ → Spliced → Type 0
IsSpliced trace t = AreInOrder trace t.own.items 0 t.splices.items
