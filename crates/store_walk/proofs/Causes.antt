-- Why an ask says Absent or Down: by the replicas at which it made its steps.
use Rattle.std.proofs.Common.{◌≡◌, ◌↔◌, ℕ, suc, ◌<◌, ◌≤◌, Bool, true, false, ◌||◌, Option, Some, None, List, [], ◌∷◌, ◌++◌, length, refl, sym, ◌∙◌, ap, subst, arith}
use Rattle.std.specs.Prelude.{slice_get, is_some, nat_lt, if◌then◌else◌}
use Rattle.std.specs.List.{AllByRecursion}
use Rattle.std.proofs.lemmas.Bool.{ltb-true, ltb-false, false≢true}
use Rattle.std.proofs.lemmas.List.{length-replicate}
use Rattle.flow_id.specs.declared.key.Key.{Key}
use Rattle.flow_record.specs.Records.{asked_key}
use Rattle.flow_record.specs.declared.record.Record.{Record}
use Rattle.flow_record.specs.declared.record.Ask.{Ask}
use Rattle.flow_record.specs.declared.record.Ask.TheVariants.{Get, Add}
use Rattle.replica_cell.specs.Cells.{Replica, empty, kept}
use Rattle.replica_cell.specs.Walks.{start_of, walk_at, standing_by, standing, CarriesAsAsked, IsGet}
use Rattle.replica_cell.specs.declared.walk.Stepped.{Stepped}
use Rattle.replica_cell.specs.declared.walk.Stepped.TheVariants.{Going, Decided, Absent, Down}
use Rattle.replica_cell.specs.declared.walk.Walk.{Walk}
use Rattle.replica_cell.proofs.Lists.{all_push, all_set, at, none_within}
use Rattle.replica_cell.proofs.Moves.{Moved, moved, going_left, going_moves, not_left, standing_down, says_absent, absent_says, says_down, down_says, goes_on}
use Rattle.replica_cell.proofs.Orders.{later_length}
use Rattle.replica_cell.proofs.Steps.{at_unmet, down_by}
use Rattle.store_walk.specs.Laws.{IsFailed, first_living, Lacks, AbsentCause, DownCause}
use Rattle.store_walk.specs.Runs.{Event, Asked, Store, started, stepped_on, stepped, step_if, step_at, happens, run, opening, after}
use Rattle.store_walk.specs.Runs.Event.{Start, Step, Fail}
use Rattle.store_walk.proofs.Runs.{later_happens}

-- ---- the first living replica of a list
or_living : Option Replica → Replica → Option Replica
or_living (Some d) c = Some d
or_living None c = if c.living then Some c else None

first_living-push : (seen : List Replica) (c : Replica) → first_living (seen ++ c ∷ []) ≡ or_living (first_living seen) c
unfolding or_living
first_living-push [] c = refl
first_living-push (d ∷ seen) c = go d.living (first_living-push seen c)
  where
    go : (b : Bool) → first_living (seen ++ c ∷ []) ≡ or_living (first_living seen) c
        → (if b then Some d else first_living (seen ++ c ∷ [])) ≡ or_living (if b then Some d else first_living seen) c
    go true rest = refl
    go false rest = rest

-- whether a replica more is met
some_more : (o : Option Replica) (c : Replica) → is_some (or_living o c) ≡ (is_some o || c.living)
unfolding or_living
some_more (Some d) c = refl
some_more None c = go c.living
  where
    go : (b : Bool) → is_some (if b then Some c else None) ≡ b
    go true = refl
    go false = refl

none_failed : (seen : List Replica) → is_some (first_living seen) ≡ false → AllByRecursion IsFailed seen
none_failed [] none = tt
none_failed (c ∷ seen) none = go c.living refl (none_failed seen) none
  where
    go : (b : Bool) → c.living ≡ b → (is_some (first_living seen) ≡ false → AllByRecursion IsFailed seen) → is_some (if b then Some c else first_living seen) ≡ false → AllByRecursion IsFailed (c ∷ seen)
    go true lives rest none = absurd (false≢true (sym none))
    go false dead rest none = (dead, rest none)

failed_none : (seen : List Replica) → AllByRecursion IsFailed seen → is_some (first_living seen) ≡ false
failed_none [] all = refl
failed_none (c ∷ seen) all = ap (λ b. is_some (if b then Some c else first_living seen)) all.0 ∙ failed_none seen all.1

-- ---- an ask and its steps
record Traced (count : ℕ) (a : Asked) : Type 0 where
  said : a.said ≡ standing count a.walk
  carries : a.said ≡ Going → CarriesAsAsked a.walk
  met : a.walk.met ≡ is_some (first_living a.seen)
  long : a.said ≡ Going → length a.seen ≡ a.walk.place
  down : (a.said ≡ Down) ↔ ((length a.seen ≡ count) × AllByRecursion IsFailed a.seen)
  absent : (a.said ≡ Absent) ↔ (IsGet a.walk.ask × Lacks (asked_key a.walk.ask) (first_living a.seen))

length-push : {X : Type 0} (xs : List X) (x : X) → length (xs ++ x ∷ []) ≡ suc (length xs)
length-push [] x = refl
length-push (y ∷ xs) x = ap suc (length-push xs x)

-- the first living replica, if there was none before
lacks_more : (k : Key) (o : Option Replica) (c : Replica) → is_some o ≡ false → c.living ≡ true → kept c k ≡ None → Lacks k (or_living o c)
unfolding or_living
lacks_more k (Some d) c none lives lacks = absurd (false≢true (sym none))
lacks_more k None c none lives lacks = subst (λ b. Lacks k (if b then Some c else None)) (sym lives) lacks

lacks_here : (k : Key) (c : Replica) (b : Bool) → c.living ≡ b → Lacks k (if b then Some c else None) → (c.living ≡ true) × (kept c k ≡ None)
lacks_here k c true lives lacks = (lives, lacks)
lacks_here k c false dead lacks = absurd lacks

module _ (count : ℕ) (a : Asked) (c : Replica) (traced : Traced count a) (going : a.said ≡ Going) where
  -- the walk after the step at c, and the replicas of the steps
  abbrev v : Walk
  v = walk_at a.walk.carried a.walk c

  abbrev seen : List Replica
  seen = a.seen ++ c ∷ []

  move : Moved a.walk v c
  move = moved a.walk.carried a.walk c refl

  carries : CarriesAsAsked a.walk
  carries = traced.carries going

  inside : a.walk.place < count
  inside = ltb-true a.walk.place count (going_left (nat_lt a.walk.place count) a.walk.met a.walk.carried (sym traced.said ∙ going))

  seen_long : length seen ≡ suc a.walk.place
  seen_long = length-push a.seen c ∙ ap suc (traced.long going)

  met_seen : v.met ≡ is_some (first_living seen)
  met_seen = move.met ∙ ap (λ b. b || c.living) traced.met ∙ sym (some_more (first_living a.seen) c) ∙ ap is_some (sym (first_living-push a.seen c))

  long_after : standing count v ≡ Going → length seen ≡ v.place
  long_after is = seen_long ∙ sym (going_moves count a.walk c is)

  down_to : standing count v ≡ Down → (length seen ≡ count) × AllByRecursion IsFailed seen
  down_to is =
      let ends = says_down count a.walk carries c inside is in
      let still : v.met ≡ false = move.met ∙ ap (λ b. b || c.living) ends.1 ∙ ends.2 in
      (seen_long ∙ ends.0, none_failed seen (sym met_seen ∙ still))

  down_from : length seen ≡ count → AllByRecursion IsFailed seen → standing count v ≡ Down
  down_from whole all =
      let unmet = at_unmet a.walk.carried a.walk c (met_seen ∙ failed_none seen all) in
      down_says count a.walk carries c (sym seen_long ∙ whole, unmet.0, unmet.1)

  absent_to : standing count v ≡ Absent → IsGet v.ask × Lacks (asked_key v.ask) (first_living seen)
  absent_to is =
      let ends = says_absent count a.walk carries c is in
      let none : is_some (first_living a.seen) ≡ false = sym traced.met ∙ ends.1 in (
        subst IsGet (sym move.ask) ends.0,
        subst (λ ask. Lacks (asked_key ask) (first_living seen)) (sym move.ask)
            (subst (Lacks (asked_key a.walk.ask)) (sym (first_living-push a.seen c)) (lacks_more (asked_key a.walk.ask) (first_living a.seen) c none ends.2 ends.3)),
      )

  absent_by_first : (o : Option Replica) → first_living a.seen ≡ o → IsGet a.walk.ask → Lacks (asked_key a.walk.ask) (or_living o c) → standing count v ≡ Absent
  unfolding or_living
  absent_by_first (Some d) first get lacks =
      let ended : a.said ≡ Absent = traced.absent.1 (get, subst (Lacks (asked_key a.walk.ask)) (sym first) lacks) in
      absurd (let e : Absent ≡ Going = sym ended ∙ going in cc)
  absent_by_first None first get lacks =
      let here = lacks_here (asked_key a.walk.ask) c c.living refl lacks in
      absent_says count a.walk carries c (get, traced.met ∙ ap is_some first, here.0, here.1)

  absent_from : IsGet v.ask → Lacks (asked_key v.ask) (first_living seen) → standing count v ≡ Absent
  absent_from get lacks =
      let own : Lacks (asked_key a.walk.ask) (first_living seen) = subst (λ ask. Lacks (asked_key ask) (first_living seen)) move.ask lacks in
      absent_by_first (first_living a.seen) refl (subst IsGet move.ask get) (subst (Lacks (asked_key a.walk.ask)) (first_living-push a.seen c) own)

  traced_after : Traced count (record { walk = v; said = standing count v; seen = seen })
  traced_after = record {
    said = refl;
    carries = goes_on count a.walk carries c;
    met = met_seen;
    long = long_after;
    down = (down_to, λ h. down_from h.0 h.1);
    absent = (absent_to, λ h. absent_from h.0 h.1);
  }

-- ---- the events
carries_first : (ask : Ask) → CarriesAsAsked (start_of ask)
carries_first (Get k) = refl
carries_first (Add k r) = refl

first_down : (count : ℕ) (o : Option Record) → standing_by (nat_lt 0 count) false o ≡ Down → 0 ≡ count
first_down count o is = let past : count ≤ 0 = ltb-false 0 count (down_by (nat_lt 0 count) false o is).0 in omega arith

first_absent : (left : Bool) (o : Option Record) → standing_by left false o ≡ Absent → ⊥
first_absent true o is = cc
first_absent false o is = cc

started_traced : (cells : List Replica) (ask : Ask) → Traced (length cells) (started cells ask)
started_traced cells ask = record {
  said = refl;
  carries = λ is. carries_first ask;
  met = refl;
  long = λ is. refl;
  down = ((λ is. (first_down (length cells) (start_of ask).carried is, tt)), λ h. standing_down (nat_lt 0 (length cells)) false (start_of ask).carried (not_left 0 (length cells) h.0) refl);
  absent = ((λ is. absurd (first_absent (nat_lt 0 (length cells)) (start_of ask).carried is)), λ h. absurd h.1);
}

stepped_by : (cells : List Replica) (a : Asked) → Traced (length cells) a → a.said ≡ Going → (o : Option Replica) → slice_get cells a.walk.place ≡ o → Traced (length cells) (stepped_on (length cells) a o)
stepped_by cells a traced going None is =
    absurd (none_within cells a.walk.place is (ltb-true a.walk.place (length cells) (going_left (nat_lt a.walk.place (length cells)) a.walk.met a.walk.carried (sym traced.said ∙ going))))
stepped_by cells a traced going (Some c) is = traced_after (length cells) a c traced going

stepped_traced : (cells : List Replica) (a : Asked) → Traced (length cells) a → a.said ≡ Going → Traced (length cells) (stepped cells a)
stepped_traced cells a traced going = stepped_by cells a traced going (slice_get cells a.walk.place) refl

if_traced : (s : Store) (n : ℕ) (a : Asked) → Traced (length s.cells) a → AllByRecursion (Traced (length s.cells)) s.asks → (said : Stepped) → a.said ≡ said → AllByRecursion (Traced (length s.cells)) (step_if said s n a).asks
if_traced s n a traced all Going is = all_set (Traced (length s.cells)) s.asks n (stepped s.cells a) all (stepped_traced s.cells a traced is)
if_traced s n a traced all (Decided r) is = all
if_traced s n a traced all Absent is = all
if_traced s n a traced all Down is = all

at_traced : (s : Store) (n : ℕ) (o : Option Asked) → slice_get s.asks n ≡ o → AllByRecursion (Traced (length s.cells)) s.asks → AllByRecursion (Traced (length s.cells)) (step_at s n o).asks
at_traced s n None is all = all
at_traced s n (Some a) is all = if_traced s n a (at (Traced (length s.cells)) s.asks n a all is) all a.said refl

happens_traced : (s : Store) (e : Event) → AllByRecursion (Traced (length s.cells)) s.asks → AllByRecursion (Traced (length s.cells)) (happens s e).asks
happens_traced s (Start ask) all = all_push (Traced (length s.cells)) s.asks (started s.cells ask) all (started_traced s.cells ask)
happens_traced s (Step n) all = at_traced s n (slice_get s.asks n) refl all
happens_traced s (Fail place) all = all

same_length : (s : Store) (e : Event) → length (happens s e).cells ≡ length s.cells
same_length s e = later_length s.cells (happens s e).cells (later_happens s e)

run_traced : (count : ℕ) (events : List Event) (s : Store) → length s.cells ≡ count → AllByRecursion (Traced count) s.asks → AllByRecursion (Traced count) (run events s).asks
run_traced count [] s same all = all
run_traced count (e ∷ events) s same all =
    run_traced count events (happens s e) (same_length s e ∙ same)
    (subst (λ n. AllByRecursion (Traced n) (happens s e).asks) same (happens_traced s e (subst (λ n. AllByRecursion (Traced n) s.asks) (sym same) all)))

traced_at : (count : ℕ) (events : List Event) (n : ℕ) (a : Asked) → slice_get (after count events).asks n ≡ Some a → Traced count a
traced_at count events n a is =
    at (Traced count) (after count events).asks n a (run_traced count events (opening count) (length-replicate count empty) tt) is

-- ---- the laws
pub down_cause : DownCause
down_cause count events n a is = (traced_at count events n a is).down

pub absent_cause : AbsentCause
absent_cause count events n a is = (traced_at count events n a is).absent
