-- Seats that are new, and seats that come back.
use Rattle.std.proofs.Common.{◌≡◌, ℕ, zero, suc, ◌+◌, ◌<◌, ◌≤◌, List, [], ◌∷◌, ◌++◌, length, take, drop, refl, sym, ◌∙◌, ap, subst, arith, ⊎_elim}
use Rattle.std.specs.Prelude.{slice_index_or, slice_set}
use Rattle.std.proofs.Math.Seq.{take-append_seam}
use Rattle.std.proofs.lemmas.List.{length-set, length-append, get_or-set_same, get_or-set_other, take-take, take_all}
use Rattle.seen_lock.specs.Histories.{calls_by}
use Rattle.seen_lock.specs.Seats.{IsSeatOf, seen, own_calls, joined_calls, joined_seen}
use Rattle.bench.specs.Histories.{opening}
use Rattle.bench.specs.declared.input.inputs.Inputs.{Inputs}
use Rattle.rule_table.specs.Setups.{SetupView}
use Rattle.run_threads.specs.Answered.{Answer, answered}
use Rattle.run_threads.specs.Crews.{IsCrew}
use Rattle.run_threads.specs.Feeding.{own_numbers}
use Rattle.run_threads.specs.Outcomes.{OutcomeView}
use Rattle.run_threads.specs.Pool.{AreLocks, IsFresh, AreFresh, IsSplit, IsReturned, HasWorked, IsCrewOf, AreCrews, AreSeats, IsJoin, JoinsFrom}
use Rattle.run_threads.specs.Seats.{BenchLock, BenchSeat, IsAt, Adds, answers}
use Rattle.run_threads.specs.Served.{AreBlocks, IsServedTo}
use Rattle.run_threads.specs.declared.pool.Worker.{Worker}
use Rattle.run_threads.proofs.Crews.{any_default, same_or_not}

pub fresh_at : (n m : ℕ) (l : BenchLock) (s : BenchSeat) → IsFresh n m l s → IsAt l s
fresh_at n m l s f = record { of = f.of; fits = ap (calls_by s.number) f.unseen ∙ sym f.idle }

pub fresh_answers : (n m : ℕ) (l : BenchLock) (s : BenchSeat) → IsFresh n m l s → answers l s ≡ []
fresh_answers n m l s f = ap (answered s.number l.first) f.unseen

pub fresh_crew : (setup : SetupView) (n m : ℕ) (locks : List BenchLock) (seats : List BenchSeat) → AreLocks setup setup.shards locks → AreFresh n m setup.shards locks seats → IsCrew setup locks seats
fresh_crew setup n m locks seats are fresh = record {
  lock_count = are.many;
  seat_count = fresh.many;
  each = λ g l s within. record { first = are.each g l within; at = fresh_at n m (slice_index_or locks g l) (slice_index_or seats g s) (fresh.each g l s within) };
}

module _ (inputs : Inputs) (worker : ℕ) (locks : List BenchLock) (many : length locks ≡ inputs.setup.shards) where
  returned_seat : (l : BenchLock) (s t : BenchSeat) (xs : List Answer) → IsFresh (worker + 1) 0 l s → Adds l s t xs → IsReturned worker l t
  returned_seat l s t xs f adds = record {
    at = adds.at;
    number_is = adds.same.number ∙ f.number_is;
    made_is = adds.same.made ∙ f.made_is;
    alone = adds.same.joined_are ∙ f.alone;
    deaf = adds.same.heard_are ∙ f.deaf;
  }

  -- a worker that has done all its items
  pub has_worked : (old new : List BenchSeat) (numbers : List ℕ) (made : List (ℕ × OutcomeView)) → AreFresh (worker + 1) 0 inputs.setup.shards locks old → numbers ≡ own_numbers inputs worker 0 inputs.frames
      → IsServedTo inputs worker (length inputs.frames) numbers locks old new made → HasWorked inputs worker locks new made
  has_worked old new numbers made fresh numbers_are done = record {
    many = done.does.count ∙ fresh.many;
    outcomes = done.outcomes;
    made_is = done.made_are;
    numbers_are = done.numbers_are ∙ numbers_are;
    returned = λ g l s within.
        let d = done.does.each g l s (subst (λ n. g < n) (sym many) within) in
        returned_seat (slice_index_or locks g l) (slice_index_or old g s) (slice_index_or new g s) d.answers (fresh.each g l s within) d.adds;
    blocks = λ g l s within.
        let d = done.does.each g l s (subst (λ n. g < n) (sym many) within) in
        let lock = slice_index_or locks g l in
        let was = slice_index_or old g s in
        let now = slice_index_or new g s in
        let same : answers lock now ≡ d.answers = d.adds.answered ∙ ap (λ xs. xs ++ d.answers) (fresh_answers (worker + 1) 0 lock was (fresh.each g l s within)) in
        subst (λ xs. AreBlocks inputs worker 0 inputs.frames done.outcomes g xs) (sym same)
        (subst (λ fs. AreBlocks inputs worker 0 fs done.outcomes g d.answers) (take_all (length inputs.frames) inputs.frames (omega arith)) d.are);
  }

pub written_back : {X : Type 0} (n : ℕ) (new old : List X) → n ≡ length new → take n (new ++ drop (length new) old) ≡ new
written_back n new old is = ap (λ k. take k (new ++ drop (length new) old)) is ∙ take-append_seam new (drop (length new) old)

-- ---- one more lock, and one more seat
pub last_of : {X : Type 0} (xs : List X) (x d : X) → slice_index_or (xs ++ x ∷ []) (length xs) d ≡ x
last_of [] x d = refl
last_of (y ∷ xs) x d = last_of xs x d

pub before_last : {X : Type 0} (xs : List X) (x d : X) (n : ℕ) → n < length xs → slice_index_or (xs ++ x ∷ []) n d ≡ slice_index_or xs n d
before_last [] x d n within = absurd (omega (arith, within))
before_last (y ∷ xs) x d zero within = refl
before_last (y ∷ xs) x d (suc n) within = before_last xs x d n (omega (arith, within))

pub locks_more : (setup : SetupView) (n : ℕ) (locks : List BenchLock) (lock : BenchLock) → AreLocks setup n locks → lock.first ≡ opening setup n → AreLocks setup (n + 1) (locks ++ lock ∷ [])
locks_more setup n locks lock are first = record {
  many = length-append locks (lock ∷ []) ∙ ap (λ k. k + 1) are.many;
  each = λ g l within. ⊎_elim
      (λ e. subst (λ k. (slice_index_or (locks ++ lock ∷ []) k l).first ≡ opening setup k) (sym e)
      (subst (λ k. (slice_index_or (locks ++ lock ∷ []) k l).first ≡ opening setup n) are.many (ap (λ (x : BenchLock). x.first) (last_of locks lock l) ∙ first)))
      (λ apart. let many = are.many in ap (λ (x : BenchLock). x.first) (before_last locks lock l g (omega (arith, within, apart, many))) ∙ are.each g l (omega (arith, within, apart)))
      (same_or_not g n);
}

pub fresh_more : (number made n : ℕ) (locks : List BenchLock) (lock : BenchLock) (seats : List BenchSeat) (seat : BenchSeat) → length locks ≡ n → AreFresh number made n locks seats → IsFresh number made lock seat
    → AreFresh number made (n + 1) (locks ++ lock ∷ []) (seats ++ seat ∷ [])
fresh_more number made n locks lock seats seat count are fresh = record {
  many = length-append seats (seat ∷ []) ∙ ap (λ k. k + 1) are.many;
  each = λ g l s within. ⊎_elim
      (λ e. subst (λ k. IsFresh number made (slice_index_or (locks ++ lock ∷ []) k l) (slice_index_or (seats ++ seat ∷ []) k s)) (sym e)
      (subst (λ z. IsFresh number made z (slice_index_or (seats ++ seat ∷ []) n s)) (sym (subst (λ k. slice_index_or (locks ++ lock ∷ []) k l ≡ lock) count (last_of locks lock l)))
      (subst (λ z. IsFresh number made lock z) (sym (subst (λ k. slice_index_or (seats ++ seat ∷ []) k s ≡ seat) are.many (last_of seats seat s))) fresh)))
      (λ apart. let many = are.many in
      subst (λ z. IsFresh number made z (slice_index_or (seats ++ seat ∷ []) g s)) (sym (before_last locks lock l g (omega (arith, within, apart, count))))
      (subst (λ z. IsFresh number made (slice_index_or locks g l) z) (sym (before_last seats seat s g (omega (arith, within, apart, many)))) (are.each g l s (omega (arith, within, apart)))))
      (same_or_not g n);
}

-- .. of the locks that there are
pub fresh_next : (number made n : ℕ) (locks : List BenchLock) (seats : List BenchSeat) (seat : BenchSeat) → AreFresh number made n locks seats → ((l : BenchLock) → IsFresh number made (slice_index_or locks n l) seat)
    → AreFresh number made (n + 1) locks (seats ++ seat ∷ [])
fresh_next number made n locks seats seat are fresh = record {
  many = length-append seats (seat ∷ []) ∙ ap (λ k. k + 1) are.many;
  each = λ g l s within. ⊎_elim
      (λ e. subst (λ k. IsFresh number made (slice_index_or locks k l) (slice_index_or (seats ++ seat ∷ []) k s)) (sym e)
      (subst (λ z. IsFresh number made (slice_index_or locks n l) z) (sym (subst (λ k. slice_index_or (seats ++ seat ∷ []) k s ≡ seat) are.many (last_of seats seat s))) (fresh l)))
      (λ apart. let many = are.many in
      subst (λ z. IsFresh number made (slice_index_or locks g l) z) (sym (before_last seats seat s g (omega (arith, within, apart, many)))) (are.each g l s (omega (arith, within, apart))))
      (same_or_not g n);
}

pub split_more : (worker n : ℕ) (locks : List BenchLock) (seats : List BenchSeat) (seat : BenchSeat) → n < length locks → IsSplit worker n locks seats → ((l : BenchLock) → IsFresh 0 (worker + 1) (slice_index_or locks n l) seat)
    → IsSplit worker (n + 1) locks (slice_set seats n seat)
split_more worker n locks seats seat within split fresh = record {
  many = length-set seats n seat ∙ split.many;
  done = λ g l s below. ⊎_elim
      (λ e. subst (λ k. IsFresh 0 (worker + 1) (slice_index_or locks k l) (slice_index_or (slice_set seats n seat) k s)) (sym e)
      (subst (λ z. IsFresh 0 (worker + 1) (slice_index_or locks n l) z) (sym (get_or-set_same seats n seat s (subst (λ k. n < k) (sym split.many) within))) (fresh l)))
      (λ apart. subst (λ z. IsFresh 0 (worker + 1) (slice_index_or locks g l) z) (sym (get_or-set_other seats n g seat s apart)) (split.done g l s (omega (arith, below, apart))))
      (same_or_not g n);
  left = λ g l s above inside. subst (λ z. IsFresh 0 worker (slice_index_or locks g l) z) (sym (get_or-set_other seats n g seat s (λ e. absurd (omega (arith, above, e))))) (split.left g l s (omega (arith, above)) inside);
}

pub none_fresh : (number made : ℕ) (locks : List BenchLock) (seats : List BenchSeat) → seats ≡ [] → AreFresh number made 0 locks seats
none_fresh number made locks seats none = record { many = ap length none; each = λ g l s within. absurd (omega (arith, within)) }

pub none_split : (made : ℕ) (locks : List BenchLock) (seats : List BenchSeat) → AreFresh 0 made (length locks) locks seats → IsSplit made 0 locks seats
none_split made locks seats fresh = record { many = fresh.many; done = λ g l s below. absurd (omega (arith, below)); left = λ g l s above inside. fresh.each g l s inside }

pub all_split : (made n : ℕ) (locks : List BenchLock) (seats : List BenchSeat) → length locks ≤ n → IsSplit made n locks seats → AreFresh 0 (made + 1) (length locks) locks seats
all_split made n locks seats all split = record { many = split.many; each = λ g l s within. split.done g l s (omega (arith, within, all)) }

module _ (made n : ℕ) (locks : List BenchLock) (first : List BenchSeat) (lock : BenchLock) (d : BenchSeat) (split : IsSplit made n locks first) (within : n < length locks) (lock_is : lock ≡ slice_index_or locks n lock) where
  was : IsFresh 0 made (slice_index_or locks n lock) (slice_index_or first n d)
  was = split.left n lock d (omega arith) within

  this : (l : BenchLock) → slice_index_or locks n l ≡ lock
  this l = any_default locks n l lock within ∙ sym lock_is

  pub new_seat : (s : BenchSeat) → IsSeatOf lock s → (s.number ≡ (slice_index_or first n d).made + 1) × (s.made ≡ 0)
      → (seen s ≡ seen (slice_index_or first n d)) × (own_calls s ≡ []) × (joined_calls s ≡ []) × (joined_seen s ≡ []) → (l : BenchLock) → IsFresh (made + 1) 0 (slice_index_or locks n l) s
  new_seat s of number sees l = subst (λ z. IsFresh (made + 1) 0 z s) (sym (this l)) record {
    of = of;
    number_is = number.0 ∙ ap (λ k. k + 1) was.made_is;
    made_is = number.1;
    unseen = sees.0 ∙ was.unseen;
    idle = sees.1;
    alone = sees.2;
    deaf = sees.3;
  }

  pub old_seat : (s : BenchSeat) → IsSeatOf lock s → (s.number ≡ 0) × (s.made ≡ (slice_index_or first n d).made + 1)
      → (seen s ≡ seen (slice_index_or first n d)) × (own_calls s ≡ own_calls (slice_index_or first n d)) × (joined_calls s ≡ joined_calls (slice_index_or first n d)) × (joined_seen s ≡ joined_seen (slice_index_or first n d))
      → (l : BenchLock) → IsFresh 0 (made + 1) (slice_index_or locks n l) s
  old_seat s of number same l = subst (λ z. IsFresh 0 (made + 1) z s) (sym (this l)) record {
    of = of;
    number_is = number.0;
    made_is = number.1 ∙ ap (λ k. k + 1) was.made_is;
    unseen = same.0 ∙ was.unseen;
    idle = same.1 ∙ was.idle;
    alone = same.2 ∙ was.alone;
    deaf = same.3 ∙ was.deaf;
  }

pub first_seat : (lock : BenchLock) (s : BenchSeat) → IsSeatOf lock s → (s.number ≡ 0) × (s.made ≡ 0) → (seen s ≡ []) × (own_calls s ≡ []) × (joined_calls s ≡ []) × (joined_seen s ≡ []) → IsFresh 0 0 lock s
first_seat lock s of number none = record { of = of; number_is = number.0; made_is = number.1; unseen = none.0; idle = none.1; alone = none.2; deaf = none.3 }

-- ---- crews
pub no_crews : (shards : ℕ) (locks : List BenchLock) (crews : List Worker) → crews ≡ [] → AreCrews shards 0 locks crews
no_crews shards locks crews none = record { many = ap length none; each = λ w c within. absurd (omega (arith, within)) }

pub crews_more : (shards n : ℕ) (locks : List BenchLock) (crews : List Worker) (crew : Worker) → AreCrews shards n locks crews → IsCrewOf shards n locks crew → AreCrews shards (n + 1) locks (crews ++ crew ∷ [])
crews_more shards n locks crews crew are is = record {
  many = length-append crews (crew ∷ []) ∙ ap (λ k. k + 1) are.many;
  each = λ w c within. ⊎_elim
      (λ e. subst (λ k. IsCrewOf shards k locks (slice_index_or (crews ++ crew ∷ []) k c)) (sym e)
      (subst (λ z. IsCrewOf shards n locks z) (sym (subst (λ k. slice_index_or (crews ++ crew ∷ []) k c ≡ crew) are.many (last_of crews crew c))) is))
      (λ apart. let many = are.many in subst (λ z. IsCrewOf shards w locks z) (sym (before_last crews crew c w (omega (arith, within, apart, many)))) (are.each w c (omega (arith, within, apart))))
      (same_or_not w n);
}

-- ---- seats are joined
pub take_at : {X : Type 0} (k : ℕ) (xs : List X) (i : ℕ) (d : X) → i < k → slice_index_or (take k xs) i d ≡ slice_index_or xs i d
take_at zero xs i d below = absurd (omega (arith, below))
take_at (suc k) [] i d below = refl
take_at (suc k) (x ∷ xs) zero d below = refl
take_at (suc k) (x ∷ xs) (suc i) d below = take_at k xs i d (omega (arith, below))

module _ (locks : List BenchLock) (old first seats rest now : List BenchSeat) (lock : BenchLock) (d seat t : BenchSeat) (olds : AreSeats locks old) (all : AreSeats locks seats)
    (begun : rest ≡ take (length rest) seats) (few : length rest ≤ length locks) (joins : JoinsFrom (length rest) locks old first seats) (popped : rest ≡ now ++ seat ∷ []) where
  one_less : length rest ≡ length now + 1
  one_less = ap length popped ∙ length-append now (seat ∷ [])

  pub rest_less : now ≡ take (length now) seats
  rest_less =
      sym (take-append_seam now (seat ∷ [])) ∙ (ap (take (length now)) (sym popped ∙ begun) ∙ take-take (length now) (length rest) seats (let e = one_less in omega (arith, e)))

  pub few_less : length now ≤ length locks
  few_less = let e = one_less in omega (arith, e, few)

  seat_is : (s : BenchSeat) → slice_index_or seats (length now) s ≡ seat
  seat_is s = sym (take_at (length rest) seats (length now) s (let e = one_less in omega (arith, e))) ∙ (ap (λ z. slice_index_or z (length now) s) (sym begun ∙ popped) ∙ last_of now seat s)

  within : length now < length locks
  within = let e = one_less in omega (arith, e, few)

  pub join_more : lock ≡ slice_index_or locks (length now) lock → IsJoin lock (slice_index_or first (length now) d) seat t → JoinsFrom (length now) locks old (slice_set first (length now) t) seats
  join_more lock_is join =
      let n = length now in
      let less = one_less in
      let count : length first ≡ length locks = joins.many ∙ olds.many in
      let inside : n < length first = let w = within in omega (arith, w, count) in record {
        many = length-set first n t ∙ joins.many;
        done = λ g l s above below. ⊎_elim
            (λ e. subst (λ k. IsJoin (slice_index_or locks k l) (slice_index_or old k s) (slice_index_or seats k s) (slice_index_or (slice_set first n t) k s)) (sym e)
            (subst (λ z. IsJoin z (slice_index_or old n s) (slice_index_or seats n s) (slice_index_or (slice_set first n t) n s)) (sym (any_default locks n l lock within ∙ sym lock_is))
            (subst (λ z. IsJoin lock (slice_index_or old n s) z (slice_index_or (slice_set first n t) n s)) (sym (seat_is s))
            (subst (λ z. IsJoin lock (slice_index_or old n s) seat z) (sym (get_or-set_same first n t s inside))
            (subst (λ z. IsJoin lock z seat t) (any_default first n d s inside ∙ joins.left n s (omega (arith, less))) join)))))
            (λ apart. subst (λ z. IsJoin (slice_index_or locks g l) (slice_index_or old g s) (slice_index_or seats g s) z) (sym (get_or-set_other first n g t s apart))
            (joins.done g l s (omega (arith, less, above, apart)) below))
            (same_or_not g n);
        left = λ g s below. get_or-set_other first n g t s (λ e. absurd (omega (arith, below, e))) ∙ joins.left g s (omega (arith, below, less));
      }
