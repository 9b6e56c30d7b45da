-- When an instance's life changes.
use Rattle.std.specs.Prelude.{ℕ, ◌-◌, ◌%◌, Bool, ◌==◌, List, [], length, slice_get, unwrap_or}
use Rattle.std.specs.Option.{option_map_or}
use Rattle.script_text.specs.declared.lives.Lives.{Lives}

-- the records from which the life of the instance changes
abbrev pub changes_of : Lives → ℕ → List ℕ
changes_of lives number = option_map_or (λ changes. changes.items) (slice_get lives.changes.items number) []

abbrev pub is_even : ℕ → Bool
is_even n = n % 2 == 0

-- the last change, or 0
abbrev pub last_change : List ℕ → ℕ
last_change changes = unwrap_or (slice_get changes (length changes - 1)) 0
