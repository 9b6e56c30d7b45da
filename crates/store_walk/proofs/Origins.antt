-- Each record of a run is that of an Add that was started.
use Rattle.std.proofs.Common.{◌≡◌, ℕ, Option, Some, None, List, [], ◌∷◌, length, refl, sym, ◌∙◌, subst}
use Rattle.std.specs.Prelude.{slice_get, Contains}
use Rattle.std.specs.List.{AllByRecursion}
use Rattle.std.proofs.lemmas.List.Elements.{All-contains_itself, recursion_from_All}
use Rattle.flow_id.specs.declared.key.Key.{Key}
use Rattle.flow_record.specs.declared.record.Record.{Record}
use Rattle.flow_record.specs.declared.record.Ask.{Ask}
use Rattle.flow_record.specs.declared.record.Ask.TheVariants.{Get, Add}
use Rattle.replica_cell.specs.declared.walk.Stepped.{Stepped}
use Rattle.replica_cell.specs.declared.walk.Stepped.TheVariants.{Going, Decided, Absent, Down}
use Rattle.replica_cell.proofs.Lists.{all_weaker, all_push, all_set, at}
use Rattle.replica_cell.proofs.Origins.{FromCell, FromWalk, FromAsk, cells_from, after_from, start_from, fail_from, empty_from}
use Rattle.replica_cell.proofs.Steps.{decided_carried}
use Rattle.store_walk.specs.Laws.{AddedIn, OriginOnCells, OriginInWalks, OriginOfDecided}
use Rattle.store_walk.specs.Runs.{Event, Asked, Store, started, stepped, step_if, step_at, happens, run, opening, after}
use Rattle.store_walk.specs.Runs.Event.{Start, Step, Fail}
use Rattle.store_walk.proofs.Runs.{SoundAsk, sound_after}

module _ (P : Key → Record → Type 0) where
  abbrev FromEvent : Event → Type 0
  FromEvent (Start ask) = FromAsk P ask
  FromEvent (Step n) = Unit {0}
  FromEvent (Fail place) = Unit {0}

  abbrev FromAsked : Asked → Type 0
  FromAsked a = FromWalk P a.walk

  pub record From (s : Store) : Type 0 where
    pub cells : AllByRecursion (FromCell P) s.cells
    pub asks : AllByRecursion (λ a. FromWalk P a.walk) s.asks

  if_from : (s : Store) (n : ℕ) (a : Asked) → From s → FromAsked a → (said : Stepped) → From (step_if said s n a)
  if_from s n a from walk Going = record {
    cells = cells_from P s.cells a.walk from.cells walk;
    asks = all_set FromAsked s.asks n (stepped s.cells a) from.asks (after_from P s.cells a.walk from.cells walk);
  }
  if_from s n a from walk (Decided r) = from
  if_from s n a from walk Absent = from
  if_from s n a from walk Down = from

  at_from : (s : Store) (n : ℕ) (o : Option Asked) → slice_get s.asks n ≡ o → From s → From (step_at s n o)
  at_from s n None is from = from
  at_from s n (Some a) is from = if_from s n a from (at FromAsked s.asks n a from.asks is) a.said

  happens_from : (s : Store) (e : Event) → FromEvent e → From s → From (happens s e)
  happens_from s (Start ask) event from = record { cells = from.cells; asks = all_push FromAsked s.asks (started s.cells ask) from.asks (start_from P ask event) }
  happens_from s (Step n) event from = at_from s n (slice_get s.asks n) refl from
  happens_from s (Fail place) event from = record { cells = fail_from P s.cells place from.cells; asks = from.asks }

  run_from : (events : List Event) (s : Store) → AllByRecursion FromEvent events → From s → From (run events s)
  run_from [] s all from = from
  run_from (e ∷ events) s all from = run_from events (happens s e) all.1 (happens_from s e all.0 from)

  from_after : (count : ℕ) (events : List Event) → AllByRecursion FromEvent events → From (after count events)
  from_after count events all = run_from events (opening count) all (record { cells = empty_from P count; asks = tt })

-- each event is one of the list
own_ask : (events : List Event) (ask : Ask) → Contains events (Start ask) → FromAsk (AddedIn events) ask
own_ask events (Get k) own = tt
own_ask events (Add k r) own = own

own_event : (events : List Event) (e : Event) → Contains events e → FromEvent (AddedIn events) e
own_event events (Start ask) own = own_ask events ask own
own_event events (Step n) own = tt
own_event events (Fail place) own = tt

origin : (count : ℕ) (events : List Event) → From (AddedIn events) (after count events)
origin count events =
    from_after (AddedIn events) count events
    (all_weaker (Contains events) (FromEvent (AddedIn events)) (own_event events) events (recursion_from_All (Contains events) events (All-contains_itself events)))

pub origin_on_cells : OriginOnCells
origin_on_cells count events place c i p at_place at_i =
    let from = origin count events in
    at (λ (q : Key × Record). AddedIn events q.0 q.1) c.pairs i p (at (FromCell (AddedIn events)) (after count events).cells place c from.cells at_place) at_i

pub origin_in_walks : OriginInWalks
origin_in_walks count events n a r at_n carries = at (FromAsked (AddedIn events)) (after count events).asks n a (origin count events).asks at_n r carries

pub origin_of_decided : OriginOfDecided
origin_of_decided count events k r (n, a, is, key, says) =
    let s : Store = after count events in
    let ask : SoundAsk s.cells a = at (SoundAsk s.cells) s.asks n a (sound_after count events).asks is in
    subst (λ x. AddedIn events x r) key (origin_in_walks count events n a r is (decided_carried (length s.cells) a.walk r (sym ask.said ∙ says)))
