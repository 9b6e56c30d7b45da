-- What holds of every assignment.
use Rattle.std.specs.Prelude.{◌≡◌, ℕ, ◌<◌, IsTrue, List, Some}
use Rattle.script_text.specs.declared.line.Line.{Line}
use Rattle.script_text.specs.Lives.{living, assigned}

-- who is assigned is an instance, and living
abbrev pub AssignedIsLiving : Type 0
AssignedIsLiving =
    (lines : List Line) (instances at first instance : ℕ) → assigned lines instances at first ≡ Some instance
    → (instance < instances) × IsTrue (living lines instance at)
