-- What each event keeps: the order of the list, and for each ask that what it carries stands before it.
use Rattle.std.proofs.Common.{◌≡◌, ℕ, zero, suc, Option, Some, None, List, [], ◌∷◌, ◌++◌, length, refl, sym, ◌∙◌, ap, subst}
use Rattle.std.specs.Prelude.{slice_get, slice_set}
use Rattle.std.specs.List.{AllByRecursion}
use Rattle.std.proofs.lemmas.Option.{none-some, same_Some}
use Rattle.flow_id.specs.declared.key.Key.{Key}
use Rattle.flow_record.specs.Records.{asked_key}
use Rattle.flow_record.specs.declared.record.Record.{Record}
use Rattle.flow_record.specs.declared.record.Ask.{Ask}
use Rattle.replica_cell.specs.Cells.{Replica, failed}
use Rattle.replica_cell.specs.Stores.{Holds, InOrder}
use Rattle.replica_cell.specs.Walks.{changed, standing, walk_after, cells_after}
use Rattle.replica_cell.specs.declared.walk.Stepped.{Stepped}
use Rattle.replica_cell.specs.declared.walk.Stepped.TheVariants.{Going, Decided, Absent, Down}
use Rattle.replica_cell.proofs.Lists.{all_weaker, all_push, all_set, at}
use Rattle.replica_cell.proofs.Orders.{Later, same_cells, later_all, later_length, order_at_first, fail_later, fail_order}
use Rattle.replica_cell.proofs.Steps.{IsBacked, later_backed, start_backed, step_later, step_order, step_backed, decided_held, going_unmet, absent_lacks}
use Rattle.replica_cell.proofs.Words.{word_from_all, all_from_word}
use Rattle.store_walk.specs.Laws.{DecidedIn, OrderLaw, AgreementLaw, WordLaw, WordStays, AbsentLaw}
use Rattle.store_walk.specs.Runs.{Event, Asked, Store, started, stepped, step_if, step_at, happens, run, opening, after}
use Rattle.store_walk.specs.Runs.Event.{Start, Step, Fail}

-- ---- one ask
pub record SoundAsk (cells : List Replica) (a : Asked) : Type 0 where
  pub backed : IsBacked cells a.walk
  pub said : a.said ≡ standing (length cells) a.walk

pub later_ask : (cells news : List Replica) → Later cells news → (a : Asked) → SoundAsk cells a → SoundAsk news a
later_ask cells news later a sound = record {
  backed = later_backed cells news later a.walk sound.backed;
  said = sound.said ∙ ap (λ n. standing n a.walk) (sym (later_length cells news later));
}

started_sound : (cells : List Replica) (ask : Ask) → SoundAsk cells (started cells ask)
started_sound cells ask = record { backed = start_backed cells ask; said = refl }

stepped_sound : (cells : List Replica) (a : Asked) → InOrder cells → SoundAsk cells a → SoundAsk (cells_after a.walk cells) (stepped cells a)
stepped_sound cells a order sound = record {
  backed = step_backed cells a.walk order sound.backed;
  said = ap (λ n. standing n (walk_after a.walk cells)) (sym (later_length cells (cells_after a.walk cells) (step_later cells a.walk)));
}

-- what it decided each living cell has
pub ask_held : (cells : List Replica) (a : Asked) (r : Record) → SoundAsk cells a → a.said ≡ Decided r → AllByRecursion (Holds (asked_key a.walk.ask) r) cells
ask_held cells a r sound is = decided_held cells a.walk r sound.backed (sym sound.said ∙ is)

-- ---- the store
pub record Sound (s : Store) : Type 0 where
  pub order : InOrder s.cells
  pub asks : AllByRecursion (SoundAsk s.cells) s.asks

asks_later : (cells news : List Replica) → Later cells news → (asks : List Asked) → AllByRecursion (SoundAsk cells) asks → AllByRecursion (SoundAsk news) asks
asks_later cells news later asks sound = all_weaker (SoundAsk cells) (SoundAsk news) (later_ask cells news later) asks sound

module _ (s : Store) (sound : Sound s) (n : ℕ) (a : Asked) (ask : SoundAsk s.cells a) where
  sound_if : (said : Stepped) → Sound (step_if said s n a)
  sound_if Going = record {
    order = step_order s.cells a.walk sound.order ask.backed;
    asks = all_set (SoundAsk (cells_after a.walk s.cells)) s.asks n (stepped s.cells a)
        (asks_later s.cells (cells_after a.walk s.cells) (step_later s.cells a.walk) s.asks sound.asks) (stepped_sound s.cells a sound.order ask);
  }
  sound_if (Decided r) = sound
  sound_if Absent = sound
  sound_if Down = sound

sound_at : (s : Store) → Sound s → (n : ℕ) (o : Option Asked) → slice_get s.asks n ≡ o → Sound (step_at s n o)
sound_at s sound n None is = sound
sound_at s sound n (Some a) is = sound_if s sound n a (at (SoundAsk s.cells) s.asks n a sound.asks is) a.said

pub sound_happens : (s : Store) (e : Event) → Sound s → Sound (happens s e)
sound_happens s (Start ask) sound = record { order = sound.order; asks = all_push (SoundAsk s.cells) s.asks (started s.cells ask) sound.asks (started_sound s.cells ask) }
sound_happens s (Step n) sound = sound_at s sound n (slice_get s.asks n) refl
sound_happens s (Fail place) sound = record {
  order = fail_order s.cells place sound.order;
  asks = asks_later s.cells (changed place failed s.cells) (fail_later s.cells place) s.asks sound.asks;
}

pub sound_run : (events : List Event) (s : Store) → Sound s → Sound (run events s)
sound_run [] s sound = sound
sound_run (e ∷ events) s sound = sound_run events (happens s e) (sound_happens s e sound)

pub sound_after : (count : ℕ) (events : List Event) → Sound (after count events)
sound_after count events = sound_run events (opening count) (record { order = order_at_first count; asks = tt })

-- ---- the list goes on: each cell keeps what it has
later_if : (said : Stepped) (s : Store) (n : ℕ) (a : Asked) → Later s.cells (step_if said s n a).cells
later_if Going s n a = step_later s.cells a.walk
later_if (Decided r) s n a = same_cells s.cells
later_if Absent s n a = same_cells s.cells
later_if Down s n a = same_cells s.cells

later_at : (s : Store) (n : ℕ) (o : Option Asked) → Later s.cells (step_at s n o).cells
later_at s n None = same_cells s.cells
later_at s n (Some a) = later_if a.said s n a

pub later_happens : (s : Store) (e : Event) → Later s.cells (happens s e).cells
later_happens s (Start ask) = same_cells s.cells
later_happens s (Step n) = later_at s n (slice_get s.asks n)
later_happens s (Fail place) = fail_later s.cells place

pub held_run : (k : Key) (r : Record) (events : List Event) (s : Store) → AllByRecursion (Holds k r) s.cells → AllByRecursion (Holds k r) (run events s).cells
held_run k r [] s all = all
held_run k r (e ∷ events) s all = held_run k r events (happens s e) (later_all s.cells (happens s e).cells k r (later_happens s e) all)

pub run-append : (early late : List Event) (s : Store) → run (early ++ late) s ≡ run late (run early s)
run-append [] late s = refl
run-append (e ∷ early) late s = run-append early late (happens s e)

pub decided_all : (s : Store) (k : Key) (r : Record) → Sound s → DecidedIn s k r → AllByRecursion (Holds k r) s.cells
decided_all s k r sound (n, a, is, key, says) =
    subst (λ x. AllByRecursion (Holds x r) s.cells) key (ask_held s.cells a r (at (SoundAsk s.cells) s.asks n a sound.asks is) says)

-- ---- the laws
pub order_law : OrderLaw
order_law count events = (sound_after count events).order

pub word_law : WordLaw
word_law count events k r lives decided = word_from_all k r (after count events).cells (decided_all (after count events) k r (sound_after count events) decided) lives

pub agreement_law : AgreementLaw
agreement_law count events k r q lives one other = same_Some r q (sym (word_law count events k r lives one) ∙ word_law count events k q lives other)

pub word_stays : WordStays
word_stays count early late k r lives is =
    let s : Store = after count early in
    let all : AllByRecursion (Holds k r) (run late s).cells = held_run k r late s (all_from_word k r s.cells (sound_after count early).order is) in
    word_from_all k r (after count (early ++ late)).cells (subst (λ (t : Store). AllByRecursion (Holds k r) t.cells) (sym (run-append early late (opening count))) all) lives

-- the ask that made the step
pub get-set : {X : Type 0} (xs : List X) (n : ℕ) (x y : X) → slice_get xs n ≡ Some x → slice_get (slice_set xs n y) n ≡ Some y
get-set [] n x y is = absurd (none-some x is)
get-set (z ∷ xs) zero x y is = refl
get-set (z ∷ xs) (suc n) x y is = get-set xs n x y is

stepped_at : (s : Store) (n : ℕ) (a : Asked) → slice_get s.asks n ≡ Some a → a.said ≡ Going → slice_get (happens s (Step n)).asks n ≡ Some (stepped s.cells a)
stepped_at s n a is going =
    ap (λ o. slice_get (step_at s n o).asks n) is ∙ ap (λ said. slice_get (step_if said s n a).asks n) going ∙ get-set s.asks n a (stepped s.cells a) is

pub absent_law : AbsentLaw
absent_law count events n a b r is going then says decided =
    let s : Store = after count events in
    let ask : SoundAsk s.cells a = at (SoundAsk s.cells) s.asks n a (sound_after count events).asks is in
    let made : b ≡ stepped s.cells a =
    same_Some b (stepped s.cells a) (sym then ∙ ap (λ (t : Store). slice_get t.asks n) (run-append events (Step n ∷ []) (opening count)) ∙ stepped_at s n a is going) in
    absent_lacks s.cells a.walk (going_unmet (length s.cells) a.walk (sym ask.said ∙ going)) (sym (ap (λ (x : Asked). x.said) made) ∙ says) r
    (decided_all s (asked_key a.walk.ask) r (sound_after count events) decided)
