-- The lock of one shard more is closed.
use Rattle.std.proofs.Common.{◌≡◌, ℕ, zero, suc, ◌+◌, ◌-◌, ◌<◌, List, [], ◌∷◌, ◌++◌, length, take, Contains, Option, Some, None, sym, ◌∙◌, ap, subst, arith, ⊎_elim}
use Rattle.std.specs.Prelude.{slice_index_or}
use Rattle.std.proofs.lemmas.List.Elements.{Contains-append_right}
use Rattle.seen_lock.specs.declared.knowledge.Known.{Known}
use Rattle.seen_lock.specs.declared.object.Entry.{Entry}
use Rattle.seen_lock.specs.Histories.{AllAllowed, calls_by}
use Rattle.seen_lock.specs.Knowledge.{numbers_in}
use Rattle.seen_lock.specs.Seats.{Knows, AllJoined, AnswersFor, IsClosed, own_calls, joined_calls}
use Rattle.seen_lock.proofs.SeatLemmas.{head_there}
use Rattle.bench.specs.Bench.{BenchState, served}
use Rattle.bench.specs.Calls.{IsCall}
use Rattle.bench.specs.declared.call.Call.{Call}
use Rattle.run_threads.specs.Pool.{HasJoined, IsLegalFor, IsHistory, AreHistories, AllIn}
use Rattle.run_threads.specs.Seats.{BenchLock, BenchSeat}
use Rattle.run_threads.proofs.Crews.{same_or_not}
use Rattle.run_threads.proofs.Taken.{popped_is, popped_long}

pub all_joined : (instances : ℕ) (l : BenchLock) (s : BenchSeat) → HasJoined instances 0 l s → AllJoined s
all_joined instances l s had zero le = subst (λ n. AnswersFor s n) had.number_is (head_there s.number (numbers_in (joined_calls s)))
all_joined instances l s had (suc w) le =
    let made = had.made_is in
    Contains-append_right (s.number ∷ []) (numbers_in (joined_calls s)) (suc w) (subst (λ k. Contains (numbers_in (joined_calls s)) k) (let e : w + 1 ≡ suc w = omega arith in e) (had.answers_for w (omega arith) (omega (arith, le, made))))

legal_for : (first : BenchState) (n m : ℕ) (v : Option (Known BenchState Call)) (history : List (Entry Call)) → Knows first n m v → AllAllowed (λ b c. IsCall b.setup b.shard c) first history → IsLegalFor v history
legal_for first n m None history knows legal = absurd knows
legal_for first n m (Some k) history knows legal = subst (λ b. AllAllowed (λ b c. IsCall b.setup b.shard c) b history) (sym knows.first_is) legal

pub legal_from : (first : BenchState) (n m : ℕ) (v : Option (Known BenchState Call)) (history : List (Entry Call)) → Knows first n m v → IsLegalFor v history → AllAllowed (λ b c. IsCall b.setup b.shard c) first history
legal_from first n m None history knows legal = absurd knows
legal_from first n m (Some k) history knows legal = subst (λ b. AllAllowed (λ b c. IsCall b.setup b.shard c) b history) knows.first_is legal

pub closed_history : (instances : ℕ) (l : BenchLock) (s : BenchSeat) (history : List (Entry Call)) (b : BenchState) → HasJoined instances 0 l s → IsClosed (λ b c. (served b c).0) (λ b c. IsCall b.setup b.shard c) l s history b → IsHistory instances s history
closed_history instances l s history b had closed = record {
  fits = record {
    listed = λ n calls c. closed.listed n calls (Contains-append_right ((s.number, own_calls s) ∷ []) (joined_calls s) (n, calls) c);
    heard = closed.heard;
  };
  zero_none = ap (λ n. calls_by n history) (sym had.number_is) ∙ (closed.listed s.number (own_calls s) (head_there (s.number, own_calls s) (joined_calls s)) ∙ had.idle);
  nobody_else = λ n more. closed.nobody_else n (subst (λ k. k < n) (sym had.made_is) more);
  legal = legal_for l.first s.number s.made s.view history had.of.knows closed.legal;
}

pub histories_more : (instances shards n : ℕ) (first : List BenchSeat) (seat : BenchSeat) (history : List (Entry Call)) (histories now : List (List (Entry Call))) → AreHistories instances shards (n + 1) first histories
    → ((s : BenchSeat) → slice_index_or first n s ≡ seat) → IsHistory instances seat history → now ≡ history ∷ histories → AreHistories instances shards n first now
histories_more instances shards n first seat history histories now are here is pushed =
    let many = are.many in record {
      many = ap (λ l. length l + n) pushed ∙ (let e : suc (length histories) + n ≡ shards = omega (arith, many) in e);
      each = λ g s h above below. subst (λ z. IsHistory instances (slice_index_or first g s) (slice_index_or z (g - n) h)) (sym pushed) (⊎_elim
          (λ e. subst (λ k. IsHistory instances (slice_index_or first g s) (slice_index_or (history ∷ histories) k h)) (let q : 0 ≡ g - n = omega (arith, e) in q)
          (subst (λ z. IsHistory instances z history) (sym (ap (λ k. slice_index_or first k s) e ∙ here s)) is))
          (λ apart. subst (λ k. IsHistory instances (slice_index_or first g s) (slice_index_or (history ∷ histories) k h)) (let q : suc (g - (n + 1)) ≡ g - n = omega (arith, above, apart) in q)
          (are.each g s h (omega (arith, above, apart)) below))
          (same_or_not g n));
    }

pub no_histories : (instances shards n : ℕ) (first : List BenchSeat) (histories : List (List (Entry Call))) → histories ≡ [] → n ≡ shards → AreHistories instances shards n first histories
no_histories instances shards n first histories none all = record {
  many = ap (λ l. length l + n) none ∙ (let e : 0 + n ≡ shards = omega (arith, all) in e);
  each = λ g s h above below. absurd (omega (arith, above, below, all));
}

-- the seat of the last lock that is left
pub here_joined : (instances shards : ℕ) (locks rest now : List BenchLock) (lock : BenchLock) (first seats left : List BenchSeat) (seat : BenchSeat) (closed : ℕ) → AllIn instances shards locks first → closed + length rest ≡ shards
    → rest ≡ take (length rest) locks → seats ≡ take (length seats) first → length seats ≡ length rest → rest ≡ now ++ lock ∷ [] → seats ≡ left ++ seat ∷ [] → HasJoined instances 0 lock seat
here_joined instances shards locks rest now lock first seats left seat closed all many begun begun' same popped popped' =
    let long = popped_long rest now lock popped in
    let long' = popped_long seats left seat popped' in
    let even : length left ≡ length now = omega (arith, long, long', same) in
    subst (λ z. HasJoined instances 0 z seat) (popped_is locks rest now lock lock begun popped)
    (subst (λ z. HasJoined instances 0 (slice_index_or locks (length now) lock) z) (subst (λ k. slice_index_or first k seat ≡ seat) even (popped_is first seats left seat seat begun' popped'))
    (all.each (length now) lock seat (omega (arith, long, many))))
