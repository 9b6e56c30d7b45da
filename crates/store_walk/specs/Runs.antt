-- Runs of a store: asks are started and make steps, and cells fail, in any order.
use Rattle.std.specs.Prelude.{ℕ, Option, Some, None, List, [], ◌∷◌, ◌++◌, length, slice_get, slice_set, replicate}
use Rattle.flow_record.specs.declared.record.Ask.{Ask}
use Rattle.replica_cell.specs.Cells.{Replica, empty, failed}
use Rattle.replica_cell.specs.Walks.{start_of, changed, walk_on, cells_after, standing}
use Rattle.replica_cell.specs.declared.walk.Stepped.{Stepped}
use Rattle.replica_cell.specs.declared.walk.Stepped.TheVariants.{Going, Decided, Absent, Down}
use Rattle.replica_cell.specs.declared.walk.Walk.{Walk}

-- what happens: an ask is started, the ask of this number makes a step, the cell at this place fails
pub data Event : Type 0 where
  Start : Ask → Event
  Step : ℕ → Event
  Fail : ℕ → Event

-- an ask that was started: where its walk is, what it said last, and the replicas at which it made its steps, each as
-- it was then
pub record Asked : Type 0 where
  pub walk : Walk
  pub said : Stepped
  pub seen : List Replica

-- the replicas, and every ask that was started, numbered in their order
pub record Store : Type 0 where
  pub cells : List Replica
  pub asks : List Asked

abbrev pub started : List Replica → Ask → Asked
started cells ask = record { walk = start_of ask; said = standing (length cells) (start_of ask); seen = [] }

abbrev pub seen_more : List Replica → Option Replica → List Replica
seen_more seen None = seen
seen_more seen (Some c) = seen ++ c ∷ []

-- an ask after a step, among so many replicas, at this one
abbrev pub stepped_on : ℕ → Asked → Option Replica → Asked
stepped_on count a o = record { walk = walk_on a.walk o; said = standing count (walk_on a.walk o); seen = seen_more a.seen o }

abbrev pub stepped : List Replica → Asked → Asked
stepped cells a = stepped_on (length cells) a (slice_get cells a.walk.place)

-- an ask that has ended makes no step
abbrev pub step_if : Stepped → Store → ℕ → Asked → Store
step_if Going s n a = record { cells = cells_after a.walk s.cells; asks = slice_set s.asks n (stepped s.cells a) }
step_if (Decided r) s n a = s
step_if Absent s n a = s
step_if Down s n a = s

abbrev pub step_at : Store → ℕ → Option Asked → Store
step_at s n None = s
step_at s n (Some a) = step_if a.said s n a

abbrev pub happens : Store → Event → Store
happens s (Start ask) = record { cells = s.cells; asks = s.asks ++ started s.cells ask ∷ [] }
happens s (Step n) = step_at s n (slice_get s.asks n)
happens s (Fail place) = record { cells = changed place failed s.cells; asks = s.asks }

abbrev pub run : List Event → Store → Store
run [] s = s
run (e ∷ events) s = run events (happens s e)

-- so many empty living replicas, and no asks
abbrev pub opening : ℕ → Store
opening count = record { cells = replicate count empty; asks = [] }

-- after these events
abbrev pub after : ℕ → List Event → Store
after count events = run events (opening count)
