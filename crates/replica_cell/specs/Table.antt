-- A walk's step at one cell, as a table: by what is carried, and by what a living cell has under the key.
use Rattle.std.specs.Prelude.{◌≡◌, true, Option, Some, None, is_some, if◌then◌else◌, [], ◌∷◌, ◌++◌}
use Rattle.flow_id.specs.declared.key.Key.{Key}
use Rattle.flow_record.specs.Records.{asked_key}
use Rattle.flow_record.specs.declared.record.Record.{Record}
use Rattle.replica_cell.specs.Cells.{Replica, kept}
use Rattle.replica_cell.specs.Walks.{next, walk_at, cell_at, stores_at}
use Rattle.replica_cell.specs.declared.walk.Walk.{Walk}

-- at a living cell: the walk behind it, and the record that it stores
abbrev pub at_living : Walk → Option Record → Option Record → Walk × Option Record
at_living w None None = (record { ask = w.ask; place = w.place; carried = None; met = true }, None)
at_living w None (Some r) = (next w (Some r) true, None)
at_living w (Some r) None = (next w (Some r) true, Some r)
at_living w (Some r) (Some q) = (next w (Some q) true, None)

-- a failed cell is passed by
abbrev pub at_cell : Walk → Replica → Walk × Option Record
at_cell w c = if c.living then at_living w w.carried (kept c (asked_key w.ask)) else (next w w.carried w.met, None)

-- the cell after it stored this under the key
abbrev pub with_stored : Key → Option Record → Replica → Replica
with_stored k None c = c
with_stored k (Some r) c = record { living = c.living; pairs = c.pairs ++ (k, r) ∷ [] }

-- each step is what the table says
abbrev pub StepsByTable : Type 0
StepsByTable =
    (w : Walk) (c : Replica)
    → (walk_at w.carried w c ≡ (at_cell w c).0)
    × (cell_at w.carried w c ≡ with_stored (asked_key w.ask) (at_cell w c).1 c)
    × (stores_at w.carried w c ≡ is_some (at_cell w c).1)
