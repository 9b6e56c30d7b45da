-- A walk's step is what the table says.
use Rattle.std.proofs.Common.{◌≡◌, ℕ, Bool, true, false, cond, refl, Option, Some, None}
use Rattle.std.specs.Prelude.{is_some}
use Rattle.flow_record.specs.Records.{asked_key}
use Rattle.flow_record.specs.declared.record.Record.{Record}
use Rattle.flow_record.specs.declared.record.Ask.{Ask}
use Rattle.replica_cell.specs.Cells.{Replica, kept, put_at, look_at, after_put}
use Rattle.replica_cell.specs.declared.answer.Put.TheVariants as put
use Rattle.replica_cell.specs.declared.answer.Look.TheVariants as look
use Rattle.replica_cell.specs.Walks.{next, walk_at, cell_at, stores_at, moved_put, moved_look, is_stored}
use Rattle.replica_cell.specs.declared.walk.Walk.{Walk}
use Rattle.replica_cell.specs.Table.{at_cell, at_living, with_stored, StepsByTable}

abbrev walk_of : Ask → ℕ → Option Record → Bool → Walk
walk_of ask place carried met = record { ask = ask; place = place; carried = carried; met = met }

abbrev IsSame : Ask → ℕ → Option Record → Bool → Replica → Type 0
IsSame ask place o met c =
    let w = walk_of ask place o met in
    (walk_at o w c ≡ (at_cell w c).0) × (cell_at o w c ≡ with_stored (asked_key ask) (at_cell w c).1 c) × (stores_at o w c ≡ is_some (at_cell w c).1)

same : (ask : Ask) (place : ℕ) (o : Option Record) (met : Bool) (c : Replica) → IsSame ask place o met c
same ask place None met c = by c.living (kept c (asked_key ask))
  where
    by : (b : Bool) (k : Option Record)
        → (moved_look (walk_of ask place None met) (cond b (look_at k) look.Failed) ≡ (cond b (at_living (walk_of ask place None met) None k) (next (walk_of ask place None met) None met, None)).0)
        × (c ≡ with_stored (asked_key ask) (cond b (at_living (walk_of ask place None met) None k) (next (walk_of ask place None met) None met, None)).1 c)
        × (false ≡ is_some (cond b (at_living (walk_of ask place None met) None k) (next (walk_of ask place None met) None met, None)).1)
    by true None = (refl, refl, refl)
    by true (Some r) = (refl, refl, refl)
    by false k = (refl, refl, refl)
same ask place (Some s) met c = by c.living (kept c (asked_key ask))
  where
    by : (b : Bool) (k : Option Record)
        → (moved_put (walk_of ask place (Some s) met) (cond b (put_at k) put.Failed) ≡ (cond b (at_living (walk_of ask place (Some s) met) (Some s) k) (next (walk_of ask place (Some s) met) (Some s) met, None)).0)
        × (after_put c (asked_key ask) s (cond b (put_at k) put.Failed) ≡ with_stored (asked_key ask) (cond b (at_living (walk_of ask place (Some s) met) (Some s) k) (next (walk_of ask place (Some s) met) (Some s) met, None)).1 c)
        × (is_stored (cond b (put_at k) put.Failed) ≡ is_some (cond b (at_living (walk_of ask place (Some s) met) (Some s) k) (next (walk_of ask place (Some s) met) (Some s) met, None)).1)
    by true None = (refl, refl, refl)
    by true (Some r) = (refl, refl, refl)
    by false k = (refl, refl, refl)

pub steps_by_table : StepsByTable
steps_by_table w c = same w.ask w.place w.carried w.met c
