-- What one step of a walk does to the walk and to the list, and what its answer tells.
use Rattle.std.proofs.Common.{◌≡◌, ℕ, suc, Bool, true, false, inl, inr, Option, Some, None, List, length, refl, sym, ◌∙◌, ap, subst}
use Rattle.std.specs.Prelude.{slice_get, nat_lt}
use Rattle.std.specs.List.{AllByRecursion}
use Rattle.std.proofs.lemmas.Bool.{ltb-false, false≢true}
use Rattle.std.proofs.lemmas.Option.{none-some, same_Some}
use Rattle.flow_id.proofs.SameKeys.{exact_key}
use Rattle.flow_record.specs.Records.{asked_key}
use Rattle.flow_record.specs.declared.record.Record.{Record}
use Rattle.flow_record.specs.declared.record.Ask.{Ask}
use Rattle.replica_cell.specs.Cells.{Replica, kept, put_answer, after_put, look_answer}
use Rattle.replica_cell.specs.Stores.{Holds, Covers, InOrder}
use Rattle.replica_cell.specs.Walks.{start_of, moved_put, moved_look, walk_at, cell_at, walk_on, walk_after, cells_after, standing_by, standing, Agrees}
use Rattle.replica_cell.specs.declared.answer.Put.{Put}
use Rattle.replica_cell.specs.declared.answer.Put.TheVariants as put
use Rattle.replica_cell.specs.declared.answer.Look.{Look}
use Rattle.replica_cell.specs.declared.answer.Look.TheVariants as look
use Rattle.replica_cell.specs.declared.walk.Stepped.TheVariants.{Going, Decided, Absent, Down}
use Rattle.replica_cell.specs.declared.walk.Walk.{Walk}
use Rattle.replica_cell.proofs.Lists.{FirstAll, first_weaker, first_both, first_more, first_to_all, at}
use Rattle.replica_cell.proofs.Lookups.{lookup_push}
use Rattle.replica_cell.proofs.Orders.{Later, later_changed, later_first, later_length, order_changed, covers_first}
use Rattle.replica_cell.proofs.Replicas.{PutIs, put_is, LookIs, look_is, kept-stored, later_cell_at}
use Rattle.replica_cell.proofs.Replicas.PutIs.{put_fails, put_stores, put_finds}
use Rattle.replica_cell.proofs.Replicas.LookIs.{look_fails, look_misses, look_finds}

-- ---- a step leaves the ask
put_ask : (w : Walk) (a : Put) → (moved_put w a).ask ≡ w.ask
put_ask w put.Stored = refl
put_ask w (put.Found q) = refl
put_ask w put.Failed = refl

look_ask : (w : Walk) (a : Look) → (moved_look w a).ask ≡ w.ask
look_ask w look.Absent = refl
look_ask w (look.Found q) = refl
look_ask w look.Failed = refl

pub at_ask : (o : Option Record) (w : Walk) (c : Replica) → (walk_at o w c).ask ≡ w.ask
at_ask None w c = look_ask w (look_answer c (asked_key w.ask))
at_ask (Some f) w c = put_ask w (put_answer c (asked_key w.ask))

on_ask : (w : Walk) (o : Option Replica) → (walk_on w o).ask ≡ w.ask
on_ask w None = refl
on_ask w (Some c) = at_ask w.carried w c

pub same_ask : (cells : List Replica) (w : Walk) → (walk_after w cells).ask ≡ w.ask
same_ask cells w = on_ask w (slice_get cells w.place)

-- ---- the list: each replica keeps what it has
pub step_later : (cells : List Replica) (w : Walk) → Later cells (cells_after w cells)
step_later cells w = later_changed (cell_at w.carried w) (later_cell_at w.carried w) w.place cells

-- ---- the list and the walk: what a walk carries, each living replica before its place has
abbrev pub IsBacked : List Replica → Walk → Type 0
IsBacked cells w = (r : Record) → w.carried ≡ Some r → FirstAll (Holds (asked_key w.ask) r) w.place cells

pub later_backed : (cells news : List Replica) → Later cells news → (w : Walk) → IsBacked cells w → IsBacked news w
later_backed cells news later w backed r carries = later_first w.place cells news (asked_key w.ask) r later (backed r carries)

pub start_backed : (cells : List Replica) (ask : Ask) → IsBacked cells (start_of ask)
start_backed cells ask r is = tt

-- where the walk stands after an operation at c, if it carries r then
record Here (cells : List Replica) (w v : Walk) (c : Replica) (r : Record) : Type 0 where
  ask : v.ask ≡ w.ask
  place : v.place ≡ suc w.place
  before : FirstAll (Holds (asked_key w.ask) r) w.place cells
  here : Holds (asked_key w.ask) r c

module _ (cells : List Replica) (w : Walk) (c : Replica) (order : InOrder cells) (backed : IsBacked cells w) (is : slice_get cells w.place ≡ Some c) where
  found_before : (q : Record) → c.living ≡ true → kept c (asked_key w.ask) ≡ Some q → FirstAll (Holds (asked_key w.ask) q) w.place cells
  found_before q lives holds = first_weaker (λ b. Covers b c) (Holds (asked_key w.ask) q) (λ b covers. covers lives (asked_key w.ask) q holds) w.place cells (covers_first w.place cells c order is)

  here_put : (f : Record) (a : Put) → w.carried ≡ Some f → PutIs c (asked_key w.ask) a → (r : Record) → (moved_put w a).carried ≡ Some r → Here cells w (moved_put w a) (after_put c (asked_key w.ask) f a) r
  here_put f put.Failed carries (put_fails dead) r now = record { ask = refl; place = refl; before = backed r now; here = λ lives. absurd (cc) }
  here_put f put.Stored carries (put_stores lives lacks) r now =
      record { ask = refl; place = refl; before = backed r now; here = λ _. kept-stored c (asked_key w.ask) f lacks ∙ sym carries ∙ now }
  here_put f (put.Found q) carries (put_finds lives holds) r now = record {
    ask = refl;
    place = refl;
    before = subst (λ x. FirstAll (Holds (asked_key w.ask) x) w.place cells) (same_Some _ _ now) (found_before q lives holds);
    here = λ _. holds ∙ now;
  }

  here_look : (a : Look) → w.carried ≡ None → LookIs c (asked_key w.ask) a → (r : Record) → (moved_look w a).carried ≡ Some r → Here cells w (moved_look w a) c r
  here_look look.Failed nothing (look_fails dead) r now = absurd (cc)
  here_look look.Absent nothing (look_misses lives lacks) r now = absurd (cc)
  here_look (look.Found q) nothing (look_finds lives holds) r now = record {
    ask = refl;
    place = refl;
    before = subst (λ x. FirstAll (Holds (asked_key w.ask) x) w.place cells) (same_Some _ _ now) (found_before q lives holds);
    here = λ _. holds ∙ now;
  }

  here_at : (o : Option Record) → w.carried ≡ o → (r : Record) → (walk_at o w c).carried ≡ Some r → Here cells w (walk_at o w c) (cell_at o w c) r
  here_at None nothing r now = here_look (look_answer c (asked_key w.ask)) nothing (look_is c (asked_key w.ask)) r now
  here_at (Some f) carries r now = here_put f (put_answer c (asked_key w.ask)) carries (put_is c (asked_key w.ask)) r now

  stepped_backed : IsBacked (cells_after w cells) (walk_at w.carried w c)
  stepped_backed r now =
      let h = here_at w.carried refl r now in
      subst (λ (v : ℕ). FirstAll (Holds (asked_key (walk_at w.carried w c).ask) r) v (cells_after w cells)) (sym h.place)
      (subst (λ a. FirstAll (Holds (asked_key a) r) (suc w.place) (cells_after w cells)) (sym h.ask)
      (first_more (Holds (asked_key w.ask) r) (cell_at w.carried w) w.place cells c is h.before h.here))

  covers_put : (f : Record) (a : Put) → w.carried ≡ Some f → FirstAll (λ b. Covers b (after_put c (asked_key w.ask) f a)) w.place cells
  covers_put f put.Failed carries = covers_first w.place cells c order is
  covers_put f (put.Found q) carries = covers_first w.place cells c order is
  covers_put f put.Stored carries =
      first_both (λ b. Covers b c) (Holds (asked_key w.ask) f) (λ b. Covers b (after_put c (asked_key w.ask) f put.Stored))
      (λ b covers holds lives k r finds. elim (lookup_push _ c.pairs (asked_key w.ask, f) r finds) [
        | inl old ↦ covers lives k r old
        | inr new ↦ subst (λ x. Holds x r b) (sym (exact_key k (asked_key w.ask) new.0)) (subst (λ x. Holds (asked_key w.ask) x b) new.1 holds)
      ])
      w.place cells (covers_first w.place cells c order is) (backed f carries)

  -- each replica before covers the changed one
  covers_at : (o : Option Record) → w.carried ≡ o → FirstAll (λ b. Covers b (cell_at o w c)) w.place cells
  covers_at None nothing = covers_first w.place cells c order is
  covers_at (Some f) carries = covers_put f (put_answer c (asked_key w.ask)) carries

module _ (cells : List Replica) (w : Walk) (order : InOrder cells) (backed : IsBacked cells w) where
  pub step_order : InOrder (cells_after w cells)
  step_order = order_changed (cell_at w.carried w) (later_cell_at w.carried w) w.place cells order (λ c is. covers_at cells w c order backed is w.carried refl)

  step_backed_by : (o : Option Replica) → slice_get cells w.place ≡ o → IsBacked (cells_after w cells) (walk_on w o)
  step_backed_by None is = later_backed cells (cells_after w cells) (step_later cells w) w backed
  step_backed_by (Some c) is = stepped_backed cells w c order backed is

  pub step_backed : IsBacked (cells_after w cells) (walk_after w cells)
  step_backed = step_backed_by (slice_get cells w.place) refl

-- ---- Decided: each living replica has the record
decided_by : (left met : Bool) (o : Option Record) (r : Record) → standing_by left met o ≡ Decided r → (left ≡ false) × (met ≡ true) × (o ≡ Some r)
decided_by left true None r h = absurd (cc)
decided_by true true (Some q) r h = absurd (cc)
decided_by false true (Some q) r h = (refl, refl, cc)
decided_by true false o r h = absurd (cc)
decided_by false false o r h = absurd (cc)

pub decided_held : (cells : List Replica) (w : Walk) (r : Record) → IsBacked cells w → standing (length cells) w ≡ Decided r → AllByRecursion (Holds (asked_key w.ask) r) cells
decided_held cells w r backed says =
    let parts = decided_by (nat_lt w.place (length cells)) w.met w.carried r says in
    first_to_all (Holds (asked_key w.ask) r) w.place cells (ltb-false w.place (length cells) parts.0) (backed r parts.2)

pub step_decides : (cells : List Replica) (w : Walk) (r : Record) → InOrder cells → IsBacked cells w → standing (length cells) (walk_after w cells) ≡ Decided r → AllByRecursion (Holds (asked_key w.ask) r) (cells_after w cells)
step_decides cells w r order backed says =
    subst (λ a. AllByRecursion (Holds (asked_key a) r) (cells_after w cells)) (same_ask cells w)
    (decided_held (cells_after w cells) (walk_after w cells) r (step_backed cells w order backed) (ap (λ n. standing n (walk_after w cells)) (later_length cells (cells_after w cells) (step_later cells w)) ∙ says))

-- what is decided is carried
pub decided_carried : (count : ℕ) (w : Walk) (r : Record) → standing count w ≡ Decided r → w.carried ≡ Some r
decided_carried count w r says = (decided_by (nat_lt w.place count) w.met w.carried r says).2

-- ---- Absent: a living replica lacks the key
never_absent : (left met : Bool) (r : Record) → standing_by left met (Some r) ≡ Absent → ⊥
never_absent true true r h = cc
never_absent false true r h = cc
never_absent true false r h = cc
never_absent false false r h = cc

still_unmet : (left met : Bool) → standing_by left met None ≡ Going → met ≡ false
still_unmet left true h = absurd (cc)
still_unmet left false h = refl

unmet_none : (left met : Bool) → met ≡ false → standing_by left met None ≡ Absent → ⊥
unmet_none left true h is = absurd (cc)
unmet_none true false h is = cc
unmet_none false false h is = cc

-- a walk that carries nothing has met no living replica: so it starts, and so it is while it goes on
abbrev pub CarriesIfMet : Walk → Type 0
CarriesIfMet w = w.carried ≡ None → w.met ≡ false

pub start_unmet : (ask : Ask) → CarriesIfMet (start_of ask)
start_unmet ask nothing = refl

pub going_unmet : (count : ℕ) (w : Walk) → standing count w ≡ Going → CarriesIfMet w
going_unmet count w going nothing = still_unmet (nat_lt w.place count) w.met (ap (standing_by (nat_lt w.place count) w.met) (sym nothing) ∙ going)

absent_by : (left met : Bool) (o : Option Record) → standing_by left met o ≡ Absent → (met ≡ true) × (o ≡ None)
absent_by left true None h = (refl, refl)
absent_by true true (Some q) h = absurd (cc)
absent_by false true (Some q) h = absurd (cc)
absent_by true false o h = absurd (cc)
absent_by false false o h = absurd (cc)

module _ (count : ℕ) (w : Walk) (c : Replica) (unmet : CarriesIfMet w) where
  absent_look : (a : Look) → w.carried ≡ None → LookIs c (asked_key w.ask) a → standing count (moved_look w a) ≡ Absent → (c.living ≡ true) × (kept c (asked_key w.ask) ≡ None)
  absent_look look.Failed nothing (look_fails dead) is =
      absurd (unmet_none (nat_lt (suc w.place) count) w.met (unmet nothing) (ap (standing_by (nat_lt (suc w.place) count) w.met) (sym nothing) ∙ is))
  absent_look look.Absent nothing (look_misses lives lacks) is = (lives, lacks)
  absent_look (look.Found q) nothing (look_finds lives holds) is = absurd (never_absent (nat_lt (suc w.place) count) true q is)

  absent_put : (f : Record) (a : Put) → w.carried ≡ Some f → standing count (moved_put w a) ≡ Absent → ⊥
  absent_put f put.Failed carries is = never_absent (nat_lt (suc w.place) count) w.met f (ap (standing_by (nat_lt (suc w.place) count) w.met) (sym carries) ∙ is)
  absent_put f put.Stored carries is = never_absent (nat_lt (suc w.place) count) true f (ap (standing_by (nat_lt (suc w.place) count) true) (sym carries) ∙ is)
  absent_put f (put.Found q) carries is = never_absent (nat_lt (suc w.place) count) true q is

  -- where a step at c says Absent, the walk carried nothing, and c is living and lacks the key
  pub absent_at : (o : Option Record) → w.carried ≡ o → standing count (walk_at o w c) ≡ Absent → (o ≡ None) × (c.living ≡ true) × (kept c (asked_key w.ask) ≡ None)
  absent_at None nothing is =
      let look = absent_look (look_answer c (asked_key w.ask)) nothing (look_is c (asked_key w.ask)) is in
      (refl, look.0, look.1)
  absent_at (Some f) carries is = absurd (absent_put f (put_answer c (asked_key w.ask)) carries is)

absent_on : (cells : List Replica) (w : Walk) → CarriesIfMet w → (o : Option Replica) → slice_get cells w.place ≡ o → standing (length cells) (walk_on w o) ≡ Absent → (r : Record) → AllByRecursion (Holds (asked_key w.ask) r) cells → ⊥
absent_on cells w unmet None is says r all =
    let parts = absent_by (nat_lt w.place (length cells)) w.met w.carried says in
    false≢true (sym (unmet parts.1) ∙ parts.0)
absent_on cells w unmet (Some c) is says r all =
    let lacks = absent_at (length cells) w c unmet w.carried refl says in
    none-some r (sym lacks.2 ∙ at (Holds (asked_key w.ask) r) cells w.place c all is lacks.1)

-- where a step says Absent, not each living replica has a record under the key
pub absent_lacks : (cells : List Replica) (w : Walk) → CarriesIfMet w → standing (length cells) (walk_after w cells) ≡ Absent → (r : Record) → AllByRecursion (Holds (asked_key w.ask) r) cells → ⊥
absent_lacks cells w unmet says r all = absent_on cells w unmet (slice_get cells w.place) refl says r all

-- ---- an ask that begins where each living replica has a record under its key carries that record once it met one
abbrev pub CarriesOnceMet : Record → Walk → Type 0
CarriesOnceMet r w = w.met ≡ true → w.carried ≡ Some r

pub start_late : (r : Record) (ask : Ask) → CarriesOnceMet r (start_of ask)
start_late r ask met = absurd (false≢true met)

module _ (r : Record) (w : Walk) (c : Replica) (holds : Holds (asked_key w.ask) r c) (late : CarriesOnceMet r w) where
  late_put : (a : Put) → PutIs c (asked_key w.ask) a → CarriesOnceMet r (moved_put w a)
  late_put put.Failed (put_fails dead) met = late met
  late_put put.Stored (put_stores lives lacks) met = absurd (none-some r (sym lacks ∙ holds lives))
  late_put (put.Found q) (put_finds lives finds) met = sym finds ∙ holds lives

  late_look : (a : Look) → LookIs c (asked_key w.ask) a → CarriesOnceMet r (moved_look w a)
  late_look look.Failed (look_fails dead) met = late met
  late_look look.Absent (look_misses lives lacks) met = absurd (none-some r (sym lacks ∙ holds lives))
  late_look (look.Found q) (look_finds lives finds) met = sym finds ∙ holds lives

  late_at : (o : Option Record) → CarriesOnceMet r (walk_at o w c)
  late_at None = late_look (look_answer c (asked_key w.ask)) (look_is c (asked_key w.ask))
  late_at (Some f) = late_put (put_answer c (asked_key w.ask)) (put_is c (asked_key w.ask))

late_on : (cells : List Replica) (r : Record) (w : Walk) → AllByRecursion (Holds (asked_key w.ask) r) cells → CarriesOnceMet r w → (o : Option Replica) → slice_get cells w.place ≡ o → CarriesOnceMet r (walk_on w o)
late_on cells r w all late None is = late
late_on cells r w all late (Some c) is = late_at r w c (at (Holds (asked_key w.ask) r) cells w.place c all is) late w.carried

pub step_late : (cells : List Replica) (r : Record) (w : Walk) → AllByRecursion (Holds (asked_key w.ask) r) cells → CarriesOnceMet r w → CarriesOnceMet r (walk_after w cells)
step_late cells r w all late = late_on cells r w all late (slice_get cells w.place) refl

late_by : (r : Record) (left met : Bool) (o : Option Record) → (met ≡ true → o ≡ Some r) → Agrees r (standing_by left met o)
late_by r left true None late = absurd (none-some r (late refl))
late_by r true true (Some q) late = tt
late_by r false true (Some q) late = same_Some _ _ (late refl)
late_by r true false o late = tt
late_by r false false o late = tt

pub late_agrees : (count : ℕ) (r : Record) (w : Walk) → CarriesOnceMet r w → Agrees r (standing count w)
late_agrees count r w late = late_by r (nat_lt w.place count) w.met w.carried late

-- ---- Down: a walk that met no living replica found each one failed
abbrev pub IsDead : Replica → Type 0
IsDead c = c.living ≡ false

put_unmet : (w : Walk) (c : Replica) (a : Put) → PutIs c (asked_key w.ask) a → (moved_put w a).met ≡ false → (w.met ≡ false) × IsDead c × ((moved_put w a).place ≡ suc w.place)
put_unmet w c put.Failed (put_fails dead) unmet = (unmet, dead, refl)
put_unmet w c put.Stored (put_stores lives lacks) unmet = absurd (false≢true (sym unmet))
put_unmet w c (put.Found q) (put_finds lives holds) unmet = absurd (false≢true (sym unmet))

look_unmet : (w : Walk) (c : Replica) (a : Look) → LookIs c (asked_key w.ask) a → (moved_look w a).met ≡ false → (w.met ≡ false) × IsDead c × ((moved_look w a).place ≡ suc w.place)
look_unmet w c look.Failed (look_fails dead) unmet = (unmet, dead, refl)
look_unmet w c look.Absent (look_misses lives lacks) unmet = absurd (false≢true (sym unmet))
look_unmet w c (look.Found q) (look_finds lives holds) unmet = absurd (false≢true (sym unmet))

pub at_unmet : (o : Option Record) (w : Walk) (c : Replica) → (walk_at o w c).met ≡ false → (w.met ≡ false) × IsDead c × ((walk_at o w c).place ≡ suc w.place)
at_unmet None w c unmet = look_unmet w c (look_answer c (asked_key w.ask)) (look_is c (asked_key w.ask)) unmet
at_unmet (Some f) w c unmet = put_unmet w c (put_answer c (asked_key w.ask)) (put_is c (asked_key w.ask)) unmet

pub down_by : (left met : Bool) (o : Option Record) → standing_by left met o ≡ Down → (left ≡ false) × (met ≡ false)
down_by left true None is = absurd (cc)
down_by true true (Some q) is = absurd (cc)
down_by false true (Some q) is = absurd (cc)
down_by true false o is = absurd (cc)
down_by false false o is = (refl, refl)
