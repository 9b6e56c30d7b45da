-- Workers are fed, and give back what they made.
use Rattle.std.proofs.Common.{◌≡◌, ◌≢◌, ℕ, ◌+◌, ◌<◌, ◌≤◌, max, min, List, [], ◌∷◌, ◌++◌, length, take, All, true, false, refl, sym, ◌∙◌, ap, subst, arith, ⊎_elim}
use Rattle.std.specs.Prelude.{slice_index_or, slice_set, nat_le, ◌&&◌}
use Rattle.std.specs.List.{filter}
use Rattle.std.proofs.lemmas.Grind.{common_steps}
use Rattle.std.proofs.lemmas.List.{append-nil, length-set, get_or-set_same, get_or-set_other, take_all}
use Rattle.bench.specs.Inputs.{IsInputs}
use Rattle.bench.specs.declared.input.inputs.Inputs.{Inputs}
use Rattle.run_threads.specs.Crews.{IsCrew}
use Rattle.run_threads.specs.Due.{due_at, is_due}
use Rattle.run_threads.specs.Feeding.{own_numbers}
use Rattle.run_threads.specs.Handles.{MayBegin, IsBack, IsFed, IsKept, IsHandle, IsOpen, AreHandles, AreOpen, HasServed}
use Rattle.run_threads.specs.Outcomes.{OutcomeView}
use Rattle.run_threads.specs.Pool.{AreLocks, AreFresh, AreCrews, HasWorked}
use Rattle.run_threads.specs.Seats.{BenchLock, BenchSeat}
use Rattle.run_threads.specs.Served.{is_record, if_counts, counted, GoesOnServing, IsServedTo}
use Rattle.run_threads.specs.declared.handle.Fed.{Fed}
use Rattle.run_threads.specs.declared.handle.Handle.{Handle}
use Rattle.run_threads.specs.declared.handle.Handle.TheVariants.{Thread, Caller, NoMemory}
use Rattle.run_threads.specs.declared.handle.Kept.{Kept}
use Rattle.run_threads.specs.declared.pool.Worker.{Worker}
use Rattle.run_threads.specs.declared.thread.Back.{Back}
use Rattle.run_threads.proofs.Crews.{same_or_not}
use Rattle.run_threads.proofs.Feeding.{own_same, own_added, counted_own}
use Rattle.run_threads.proofs.Seats.{fresh_crew, has_worked}
use Rattle.run_threads.proofs.Served.{serves_none}
use Rattle.run_threads.proofs.Taken.{popped_is, popped_long}

-- every record is in the list
pub all_frames : (inputs : Inputs) (worker n : ℕ) → n ≡ length inputs.frames → own_numbers inputs worker 0 (take n inputs.frames) ≡ own_numbers inputs worker 0 inputs.frames
all_frames inputs worker n is = ap (own_numbers inputs worker 0) (take_all n inputs.frames (omega (arith, is)))

module _ (inputs : Inputs) (locks : List BenchLock) where
  -- a worker is not given a record that is not its own
  pub passed_over : (w item : ℕ) (h : Handle) → item < length inputs.frames → is_record inputs w item ≡ false → IsHandle inputs w item locks h → IsHandle inputs w (item + 1) locks h
  passed_over w item (Thread fed) within other is = record {
    inputs_are = is.inputs_are;
    locks_are = is.locks_are;
    worker_is = is.worker_is;
    inbox_is = is.inbox_is;
    given = is.given ∙ sym (own_same inputs w item within other);
  }
  passed_over w item (Caller kept) within other is = record {
    next = let less = is.next in omega (arith, less);
    due = is.due;
    crew = is.crew;
    base = is.base;
    fresh = is.fresh;
    served = subst (λ ns. IsServedTo inputs w kept.next ns locks is.base kept.crew kept.made) (sym (own_same inputs w item within other)) is.served;
  }
  passed_over w item NoMemory within other is = tt

  -- ---- all of them
  pub handles_set : (n place : ℕ) (old : List Handle) (h : Handle) → AreHandles inputs n locks old → place < inputs.setup.instances → IsHandle inputs place n locks h → AreHandles inputs n locks (slice_set old place h)
  handles_set n place old h are within is = record {
    many = length-set old place h ∙ are.many;
    each = λ w d below. ⊎_elim
        (λ e. subst (λ k. IsHandle inputs k n locks (slice_index_or (slice_set old place h) k d)) (sym e)
        (subst (λ z. IsHandle inputs place n locks z) (sym (get_or-set_same old place h d (subst (λ k. place < k) (sym are.many) within))) is))
        (λ apart. subst (λ z. IsHandle inputs w n locks z) (sym (get_or-set_other old place w h d apart)) (are.each w d below))
        (same_or_not w place);
  }

  -- .. where another one was put there before
  pub handles_put : (n place : ℕ) (old : List Handle) (z h : Handle) → AreHandles inputs n locks old → place < inputs.setup.instances → z ≡ NoMemory → IsHandle inputs place n locks h → AreHandles inputs n locks (slice_set (slice_set old place z) place h)
  handles_put n place old z h are within none is =
      handles_set n place (slice_set old place z) h (handles_set n place old z are within (subst (IsHandle inputs place n locks) (sym none) tt)) within is

  -- one of them was given a record of its own
  pub handles_fed : (item place : ℕ) (old : List Handle) (h : Handle) → AreHandles inputs item locks old → item < length inputs.frames → place < inputs.setup.instances
      → ((w : ℕ) → place ≢ w → is_record inputs w item ≡ false) → IsHandle inputs place (item + 1) locks h → AreHandles inputs (item + 1) locks (slice_set old place h)
  handles_fed item place old h are inside within others is = record {
    many = length-set old place h ∙ are.many;
    each = λ w d below. ⊎_elim
        (λ e. subst (λ k. IsHandle inputs k (item + 1) locks (slice_index_or (slice_set old place h) k d)) (sym e)
        (subst (λ z. IsHandle inputs place (item + 1) locks z) (sym (get_or-set_same old place h d (subst (λ k. place < k) (sym are.many) within))) is))
        (λ apart. subst (λ z. IsHandle inputs w (item + 1) locks z) (sym (get_or-set_other old place w h d apart)) (passed_over w item (slice_index_or old w d) inside (others w (λ same. apart (sym same))) (are.each w d below)))
        (same_or_not w place);
  }

  -- .. and none was
  pub handles_passed : (item : ℕ) (old : List Handle) → AreHandles inputs item locks old → item < length inputs.frames → ((w : ℕ) → is_record inputs w item ≡ false) → AreHandles inputs (item + 1) locks old
  handles_passed item old are inside others = record { many = are.many; each = λ w d below. passed_over w item (slice_index_or old w d) inside (others w) (are.each w d below) }

  -- ---- the caller does a worker's items
  take_none : {X : Type 0} (xs : List X) → take 0 xs ≡ []
  take_none [] = refl
  take_none (x ∷ xs) = refl

  pub kept_first : (w : ℕ) (kept : Kept) → AreLocks inputs.setup inputs.setup.shards locks → AreFresh (w + 1) 0 inputs.setup.shards locks kept.crew → kept.made ≡ [] → kept.next ≡ 0
      → ((item : ℕ) → item < inputs.records → due_at kept.due item ≡ filter (is_due item) inputs.script.lines) → IsKept inputs w 0 locks kept
  kept_first w kept are fresh nothing first due =
      let crew = fresh_crew inputs.setup (w + 1) 0 locks kept.crew are fresh in record {
        next = omega (arith, first);
        due = due;
        crew = crew;
        base = kept.crew;
        fresh = fresh;
        served = subst (λ ns. IsServedTo inputs w kept.next ns locks kept.crew kept.crew kept.made) (sym (ap (own_numbers inputs w 0) (take_none inputs.frames)))
            (subst (λ n. IsServedTo inputs w n [] locks kept.crew kept.crew kept.made) (sym first) (serves_none inputs w locks kept.crew kept.made [] crew nothing refl));
      }

  kept_next : (r next item : ℕ) → next ≤ item → min r (max next (item + 1)) ≤ item + 1
  kept_next r next item low = grind (arith, common_steps)

  le_true : (a b : ℕ) → a ≤ b → nat_le a b ≡ true
  le_true a b h = grind (arith, common_steps)

  -- .. up to a record of the worker
  pub kept_more : (w item : ℕ) (old new : Kept) → item < length inputs.frames → is_record inputs w item ≡ true → IsKept inputs w item locks old → new.due ≡ old.due → IsCrew inputs.setup locks new.crew
      → new.next ≡ min inputs.records (max old.next (item + 1)) → GoesOnServing inputs w old.next new.next (if_counts (nat_le old.next item && is_record inputs w item) item) locks old.crew new.crew old.made new.made → IsKept inputs w (item + 1) locks new
  kept_more w item old new within own is same_due crew next goes =
      let before = own_numbers inputs w 0 (take item inputs.frames) in
      let more : before ++ if_counts (nat_le old.next item && is_record inputs w item) item ≡ own_numbers inputs w 0 (take (item + 1) inputs.frames) =
      ap (λ b. before ++ if_counts (b && is_record inputs w item) item) (le_true old.next item is.next) ∙ (ap (λ b. before ++ if_counts b item) own ∙ sym (own_added inputs w item within own)) in record {
        next = subst (λ k. k ≤ item + 1) (sym next) (kept_next inputs.records old.next item is.next);
        due = λ n below. ap (λ d. due_at d n) same_due ∙ is.due n below;
        crew = crew;
        base = is.base;
        fresh = is.fresh;
        served = subst (λ ns. IsServedTo inputs w new.next ns locks is.base new.crew new.made) more (goes is.base before is.served);
      }

  -- .. and to the end
  pub kept_worked : (w n : ℕ) (kept : Kept) (seats : List BenchSeat) (made : List (ℕ × OutcomeView)) → length locks ≡ inputs.setup.shards → n ≡ length inputs.frames → IsKept inputs w n locks kept
      → GoesOnServing inputs w kept.next n [] locks kept.crew seats kept.made made → HasWorked inputs w locks seats made
  kept_worked w n kept seats made many whole is goes =
      let numbers = own_numbers inputs w 0 (take n inputs.frames) in
      has_worked inputs w locks many is.base seats (numbers ++ []) made is.fresh (append-nil numbers ∙ all_frames inputs w n whole)
      (subst (λ k. IsServedTo inputs w k (numbers ++ []) locks is.base seats made) whole (goes is.base numbers is.served))

  -- ---- what a worker made of all its records
  -- what a thread gave back, by what its caller knows
  pub back_is : (w n : ℕ) (fed : Fed) (back : Back) → IsFed inputs w n locks fed
      → IsBack fed.thread.promise.inputs.now fed.thread.promise.worker fed.thread.promise.locks.now fed.thread.promise.taker.value.inbox back → IsBack inputs w locks fed.giver.inbox back
  back_is w n fed back is given =
      let p = fed.thread.promise in
      subst (λ i. IsBack inputs w locks i back) is.inbox_is
      (subst (λ l. IsBack inputs w l p.taker.value.inbox back) is.locks_are
      (subst (λ k. IsBack inputs k p.locks.now p.taker.value.inbox back) is.worker_is
      (subst (λ i. IsBack i p.worker p.locks.now p.taker.value.inbox back) is.inputs_are given)))

  pub thread_worked : (worker : ℕ) (taken : List ℕ) (seats : List BenchSeat) (made : List (ℕ × OutcomeView)) → length locks ≡ inputs.setup.shards → taken ≡ own_numbers inputs worker 0 inputs.frames → HasServed inputs worker taken locks seats made → HasWorked inputs worker locks seats made
  thread_worked worker taken seats made many taken_is has =
      has_worked inputs worker locks many has.base seats (counted inputs worker 0 taken) made has.fresh (ap (counted inputs worker 0) taken_is ∙ counted_own inputs worker) has.served

-- those behind this place are as they were
pub open_rest : (place : ℕ) (old : List Handle) (z h : Handle) → ((k : ℕ) (d : Handle) → place ≤ k → k < length old → IsOpen (slice_index_or old k d))
    → (k : ℕ) (d : Handle) → place + 1 ≤ k → k < length (slice_set (slice_set old place z) place h) → IsOpen (slice_index_or (slice_set (slice_set old place z) place h) k d)
open_rest place old z h were k d above below =
    let apart : k ≢ place = λ e. absurd (omega (arith, e, above)) in
    let long = length-set (slice_set old place z) place h ∙ length-set old place z in
    subst IsOpen (sym (get_or-set_other (slice_set old place z) place k h d apart ∙ get_or-set_other old place k z d apart)) (were k d (omega (arith, above)) (subst (λ m. k < m) long below))

-- those that are open stay so
pub open_set : (place : ℕ) (old : List Handle) (h : Handle) → AreOpen old → IsOpen h → AreOpen (slice_set old place h)
open_set place old h were is w d below =
    let inside = subst (λ k. w < k) (length-set old place h) below in
    ⊎_elim
    (λ e. subst (λ k. IsOpen (slice_index_or (slice_set old place h) k d)) (sym e) (subst IsOpen (sym (get_or-set_same old place h d (subst (λ k. k < length old) e inside))) is))
    (λ apart. subst IsOpen (sym (get_or-set_other old place w h d apart)) (were w d inside))
    (same_or_not w place)

-- ---- places for all
pub none_there : (inputs : Inputs) (locks : List BenchLock) (handles : List Handle) → length handles ≡ inputs.setup.instances → All (λ (h : Handle). h ≡ NoMemory) handles → AreHandles inputs 0 locks handles
none_there inputs locks handles many none = record { many = many; each = λ w d below. subst (IsHandle inputs w 0 locks) (sym (none w d (subst (λ k. w < k) (sym many) below))) tt }

pub none_open : (handles : List Handle) → All (λ (h : Handle). h ≡ NoMemory) handles → AreOpen handles
none_open handles none w d below = subst IsOpen (sym (none w d below)) tt

-- the last of the workers that have not begun
module _ (inputs : Inputs) (locks : List BenchLock) (all rest now : List Worker) (w : Worker) (are : AreCrews inputs.setup.shards inputs.setup.instances locks all) (begun : rest ≡ take (length rest) all) (few : length rest ≤ length all) (popped : rest ≡ now ++ w ∷ []) where
  pub its_place : length now < inputs.setup.instances
  its_place =
      let long = popped_long rest now w popped in
      let many = are.many in omega (arith, long, many, few)

  pub its_number : w.worker ≡ length now
  its_number = subst (λ (z : Worker). z.worker ≡ length now) (popped_is all rest now w w begun popped) (are.each (length now) w its_place).worker_is

  pub may_begin : IsInputs inputs → AreLocks inputs.setup inputs.setup.shards locks → MayBegin inputs locks w
  may_begin good locks_are = record {
    inputs_are = good;
    locks_are = locks_are;
    worker_is = subst (λ k. k < inputs.setup.instances) (sym its_number) its_place;
    seats_are = subst (λ k. AreFresh (k + 1) 0 inputs.setup.shards locks w.crew) (sym its_number)
        (subst (λ (z : Worker). AreFresh (length now + 1) 0 inputs.setup.shards locks z.crew) (popped_is all rest now w w begun popped) (are.each (length now) w its_place).seats_are);
  }
