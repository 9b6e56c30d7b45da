-- An ask that was started after a decision of its key says nothing else.
use Rattle.std.proofs.Common.{◌≡◌, ℕ, zero, suc, ◌≤◌, Option, Some, None, List, [], ◌∷◌, ◌++◌, length, refl, sym, subst, arith}
use Rattle.std.specs.Prelude.{slice_get, slice_set}
use Rattle.std.specs.List.{AllByRecursion}
use Rattle.std.proofs.lemmas.Option.{none-some}
use Rattle.flow_id.specs.declared.key.Key.{Key}
use Rattle.flow_record.specs.Records.{asked_key}
use Rattle.flow_record.specs.declared.record.Record.{Record}
use Rattle.replica_cell.specs.Cells.{Replica}
use Rattle.replica_cell.specs.Stores.{Holds}
use Rattle.replica_cell.specs.Walks.{walk_after, Agrees}
use Rattle.replica_cell.specs.declared.walk.Stepped.{Stepped}
use Rattle.replica_cell.specs.declared.walk.Stepped.TheVariants.{Going, Decided, Absent, Down}
use Rattle.replica_cell.proofs.Lists.{all_push, all_set, at}
use Rattle.replica_cell.proofs.Orders.{later_all}
use Rattle.replica_cell.proofs.Steps.{CarriesOnceMet, start_late, step_late, late_agrees, same_ask}
use Rattle.store_walk.specs.Laws.{LateLaw}
use Rattle.store_walk.specs.Runs.{Event, Asked, Store, started, stepped, step_if, step_at, happens, run, opening, after}
use Rattle.store_walk.specs.Runs.Event.{Start, Step, Fail}
use Rattle.store_walk.proofs.Runs.{sound_after, decided_all, later_happens, run-append}

-- ---- each element from place m on
module _ {X : Type 0} (P : X → Type 0) where
  abbrev AllFrom : ℕ → List X → Type 0
  AllFrom zero xs = AllByRecursion P xs
  AllFrom (suc m) [] = Unit {0}
  AllFrom (suc m) (x ∷ xs) = AllFrom m xs

  from_none : (m : ℕ) (xs : List X) → length xs ≤ m → AllFrom m xs
  from_none zero [] past = tt
  from_none zero (x ∷ xs) past = absurd (omega arith)
  from_none (suc m) [] past = tt
  from_none (suc m) (x ∷ xs) past = from_none m xs (omega arith)

  from_push : (m : ℕ) (xs : List X) (x : X) → AllFrom m xs → P x → AllFrom m (xs ++ x ∷ [])
  from_push zero xs x h p = all_push P xs x h p
  from_push (suc zero) [] x h p = tt
  from_push (suc (suc m)) [] x h p = tt
  from_push (suc m) (y ∷ xs) x h p = from_push m xs x h p

  from_set : (m : ℕ) (xs : List X) (n : ℕ) (x : X) → AllFrom m xs → (m ≤ n → P x) → AllFrom m (slice_set xs n x)
  from_set zero xs n x h p = all_set P xs n x h (p (omega arith))
  from_set (suc m) [] n x h p = tt
  from_set (suc m) (y ∷ xs) zero x h p = h
  from_set (suc m) (y ∷ xs) (suc n) x h p = from_set m xs n x h (λ past. p (omega arith))

  from_at : (m : ℕ) (xs : List X) (n : ℕ) (x : X) → AllFrom m xs → m ≤ n → slice_get xs n ≡ Some x → P x
  from_at zero xs n x h past is = at P xs n x h is
  from_at (suc m) [] n x h past is = absurd (none-some x is)
  from_at (suc m) (y ∷ xs) zero x h past is = absurd (omega arith)
  from_at (suc m) (y ∷ xs) (suc n) x h past is = from_at m xs n x h (omega arith) is

module _ (k : Key) (r : Record) (m : ℕ) where
  -- ---- an ask of the key
  record LateAsk (a : Asked) : Type 0 where
    carries : asked_key a.walk.ask ≡ k → CarriesOnceMet r a.walk
    agrees : asked_key a.walk.ask ≡ k → Agrees r a.said

  started_late : (s : Store) (ask : _) → LateAsk (started s.cells ask)
  started_late s ask = record {
    carries = λ key. start_late r ask;
    agrees = λ key. late_agrees (length s.cells) r (started s.cells ask).walk (start_late r ask);
  }

  stepped_late : (cells : List Replica) (a : Asked) → AllByRecursion (Holds k r) cells → LateAsk a → LateAsk (stepped cells a)
  stepped_late cells a all late =
      let same = same_ask cells a.walk in
      let carries = λ (key : asked_key (walk_after a.walk cells).ask ≡ k). let own : asked_key a.walk.ask ≡ k = subst (λ x. asked_key x ≡ k) same key in
      step_late cells r a.walk (subst (λ x. AllByRecursion (Holds x r) cells) (sym own) all) (late.carries own) in
      record { carries = carries; agrees = λ key. late_agrees (length cells) r (walk_after a.walk cells) (carries key) }

  -- ---- the store: each living cell has the record, and each ask from number m on is late
  record LateStore (s : Store) : Type 0 where
    held : AllByRecursion (Holds k r) s.cells
    asks : AllFrom LateAsk m s.asks

  asks_if : (s : Store) (n : ℕ) (a : Asked) → LateStore s → (m ≤ n → LateAsk a) → (said : Stepped) → AllFrom LateAsk m (step_if said s n a).asks
  asks_if s n a late own Going = from_set LateAsk m s.asks n (stepped s.cells a) late.asks (λ past. stepped_late s.cells a late.held (own past))
  asks_if s n a late own (Decided q) = late.asks
  asks_if s n a late own Absent = late.asks
  asks_if s n a late own Down = late.asks

  asks_at : (s : Store) (n : ℕ) (o : Option Asked) → slice_get s.asks n ≡ o → LateStore s → AllFrom LateAsk m (step_at s n o).asks
  asks_at s n None is late = late.asks
  asks_at s n (Some a) is late = asks_if s n a late (λ past. from_at LateAsk m s.asks n a late.asks past is) a.said

  asks_happen : (s : Store) (e : Event) → LateStore s → AllFrom LateAsk m (happens s e).asks
  asks_happen s (Start ask) late = from_push LateAsk m s.asks (started s.cells ask) late.asks (started_late s ask)
  asks_happen s (Step n) late = asks_at s n (slice_get s.asks n) refl late
  asks_happen s (Fail place) late = late.asks

  late_run : (events : List Event) (s : Store) → LateStore s → LateStore (run events s)
  late_run [] s late = late
  late_run (e ∷ events) s late =
      late_run events (happens s e) (record { held = later_all s.cells (happens s e).cells k r (later_happens s e) late.held; asks = asks_happen s e late })

pub late_law : LateLaw
late_law count early late k r n a decided past is key =
    let s : Store = after count early in
    let m : ℕ = length s.asks in
    let begins : LateStore k r m s = record { held = decided_all s k r (sound_after count early) decided; asks = from_none (LateAsk k r m) m s.asks (omega arith) } in
    let ends : LateStore k r m (after count (early ++ late)) = subst (LateStore k r m) (sym (run-append early late (opening count))) (late_run k r m late s begins) in
    (from_at (LateAsk k r m) m (after count (early ++ late)).asks n a ends.asks past is).agrees key
