-- A fact of a key and its record that each record on a replica or carried by a walk has, as that an ask put it there.
use Rattle.std.proofs.Common.{◌≡◌, ℕ, zero, suc, Option, Some, None, List, replicate, refl, ◌∙◌, subst}
use Rattle.std.specs.Prelude.{slice_get}
use Rattle.std.specs.List.{AllByRecursion}
use Rattle.std.proofs.lemmas.Option.{none-some, same_Some}
use Rattle.flow_id.specs.declared.key.Key.{Key}
use Rattle.flow_record.specs.Records.{asked_key}
use Rattle.flow_record.specs.declared.record.Record.{Record}
use Rattle.flow_record.specs.declared.record.Ask.{Ask}
use Rattle.flow_record.specs.declared.record.Ask.TheVariants.{Get, Add}
use Rattle.replica_cell.specs.Cells.{Replica, empty, failed, put_answer, look_answer, after_put}
use Rattle.replica_cell.specs.Walks.{start_of, moved_look, moved_put, walk_at, cell_at, changed, walk_on, walk_after, cells_after}
use Rattle.replica_cell.specs.declared.answer.Put.{Put}
use Rattle.replica_cell.specs.declared.answer.Put.TheVariants as put
use Rattle.replica_cell.specs.declared.answer.Look.{Look}
use Rattle.replica_cell.specs.declared.answer.Look.TheVariants as look
use Rattle.replica_cell.specs.declared.walk.Walk.{Walk}
use Rattle.replica_cell.proofs.Lists.{all_push, all_changed, at}
use Rattle.replica_cell.proofs.Lookups.{OfEach, of_found}
use Rattle.replica_cell.proofs.Replicas.{PutIs, put_is, LookIs, look_is}
use Rattle.replica_cell.proofs.Replicas.PutIs.{put_fails, put_stores, put_finds}
use Rattle.replica_cell.proofs.Replicas.LookIs.{look_fails, look_misses, look_finds}

module _ (P : Key → Record → Type 0) where
  abbrev pub FromCell : Replica → Type 0
  FromCell c = OfEach P c.pairs

  abbrev pub FromWalk : Walk → Type 0
  FromWalk w = (r : Record) → w.carried ≡ Some r → P (asked_key w.ask) r

  abbrev pub FromAsk : Ask → Type 0
  FromAsk (Get k) = Unit {0}
  FromAsk (Add k r) = P k r

  -- ---- one operation
  put_cell : (c : Replica) (k : Key) (f : Record) (a : Put) → FromCell c → P k f → FromCell (after_put c k f a)
  put_cell c k f put.Stored from new = all_push (λ p. P p.0 p.1) c.pairs (k, f) from new
  put_cell c k f (put.Found q) from new = from
  put_cell c k f put.Failed from new = from

  cell_from : (w : Walk) (o : Option Record) → w.carried ≡ o → FromWalk w → (c : Replica) → FromCell c → FromCell (cell_at o w c)
  cell_from w None carries walk c from = from
  cell_from w (Some f) carries walk c from = put_cell c (asked_key w.ask) f (put_answer c (asked_key w.ask)) from (walk f carries)

  moved_put_from : (w : Walk) (c : Replica) (a : Put) → PutIs c (asked_key w.ask) a → FromWalk w → FromCell c → FromWalk (moved_put w a)
  moved_put_from w c put.Failed (put_fails dead) walk from r is = walk r is
  moved_put_from w c put.Stored (put_stores lives lacks) walk from r is = walk r is
  moved_put_from w c (put.Found q) (put_finds lives holds) walk from r is = of_found P (asked_key w.ask) c.pairs r from (holds ∙ is)

  moved_look_from : (w : Walk) (c : Replica) (a : Look) → LookIs c (asked_key w.ask) a → FromWalk w → FromCell c → FromWalk (moved_look w a)
  moved_look_from w c look.Failed (look_fails dead) walk from r is = walk r is
  moved_look_from w c look.Absent (look_misses lives lacks) walk from r is = walk r is
  moved_look_from w c (look.Found q) (look_finds lives holds) walk from r is = of_found P (asked_key w.ask) c.pairs r from (holds ∙ is)

  walk_from : (w : Walk) (o : Option Record) (c : Replica) → FromWalk w → FromCell c → FromWalk (walk_at o w c)
  walk_from w None c walk from = moved_look_from w c (look_answer c (asked_key w.ask)) (look_is c (asked_key w.ask)) walk from
  walk_from w (Some f) c walk from = moved_put_from w c (put_answer c (asked_key w.ask)) (put_is c (asked_key w.ask)) walk from

  -- ---- a step
  pub cells_from : (cells : List Replica) (w : Walk) → AllByRecursion FromCell cells → FromWalk w → AllByRecursion FromCell (cells_after w cells)
  cells_from cells w from walk = all_changed FromCell (cell_at w.carried w) w.place cells from (λ c is. cell_from w w.carried refl walk c (at FromCell cells w.place c from is))

  on_from : (cells : List Replica) (w : Walk) (o : Option Replica) → slice_get cells w.place ≡ o → AllByRecursion FromCell cells → FromWalk w → FromWalk (walk_on w o)
  on_from cells w None is from walk = walk
  on_from cells w (Some c) is from walk = walk_from w w.carried c walk (at FromCell cells w.place c from is)

  pub after_from : (cells : List Replica) (w : Walk) → AllByRecursion FromCell cells → FromWalk w → FromWalk (walk_after w cells)
  after_from cells w from walk = on_from cells w (slice_get cells w.place) refl from walk

  -- ---- the start, and a failure
  pub start_from : (ask : Ask) → FromAsk ask → FromWalk (start_of ask)
  start_from (Get k) from r is = absurd (none-some r is)
  start_from (Add k q) from r is = subst (λ x. P k x) (same_Some _ _ is) from

  pub fail_from : (cells : List Replica) (place : ℕ) → AllByRecursion FromCell cells → AllByRecursion FromCell (changed place failed cells)
  fail_from cells place from = all_changed FromCell failed place cells from (λ c is. at FromCell cells place c from is)

  pub empty_from : (n : ℕ) → AllByRecursion FromCell (replicate n empty)
  empty_from zero = tt
  empty_from (suc n) = (tt, empty_from n)
