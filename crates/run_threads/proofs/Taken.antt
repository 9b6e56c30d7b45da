-- The seats of one worker more are taken in.
use Rattle.std.proofs.Common.{◌≡◌, ℕ, ◌+◌, ◌-◌, ◌<◌, max, List, [], ◌∷◌, ◌++◌, length, take, Contains, sym, ◌∙◌, ap, subst, arith, ⊎_elim}
use Rattle.std.specs.Prelude.{slice_index_or}
use Rattle.std.proofs.lemmas.List.{length-append, map-append, take-take}
use Rattle.std.proofs.Math.Seq.{take-append_seam}
use Rattle.std.proofs.lemmas.List.Elements.{Contains-append_left, Contains-append_right}
use Rattle.seen_lock.specs.declared.object.Entry.{Entry}
use Rattle.seen_lock.specs.Histories.{calls_by, Begins}
use Rattle.seen_lock.specs.Knowledge.{numbers_in}
use Rattle.seen_lock.specs.Seats.{seen, own_calls, joined_calls, joined_seen}
use Rattle.seen_lock.proofs.SeatLemmas.{head_there}
use Rattle.bench.specs.Histories.{opening}
use Rattle.bench.specs.declared.call.Call.{Call}
use Rattle.bench.specs.declared.input.inputs.Inputs.{Inputs}
use Rattle.run_threads.specs.Answered.{answered}
use Rattle.run_threads.specs.Outcomes.{OutcomeView}
use Rattle.run_threads.specs.Pool.{AreLocks, AreFresh, IsReturned, HasWorked, AreSeats, IsJoin, JoinsFrom, HasJoined, Fits, HasTold, AreJoined}
use Rattle.run_threads.specs.Seats.{BenchLock, BenchSeat, answers}
use Rattle.run_threads.specs.Served.{AreBlocks}
use Rattle.run_threads.proofs.Answered.{answered_same}
use Rattle.run_threads.proofs.Crews.{same_or_not}
use Rattle.run_threads.proofs.Seats.{last_of, before_last, take_at}

module _ (inputs : Inputs) (locks : List BenchLock) where
  joined_seat : (n : ℕ) (l : BenchLock) (old other new : BenchSeat) → HasJoined inputs.setup.instances (n + 1) l old → IsReturned n l other → IsJoin l old other new → HasJoined inputs.setup.instances n l new
  joined_seat n l old other new had back join =
      let split : numbers_in (joined_calls new) ≡ numbers_in (joined_calls old) ++ other.number ∷ numbers_in (joined_calls other) =
      ap numbers_in join.joined_are ∙ map-append (λ c. c.0) (joined_calls old) ((other.number, own_calls other) ∷ joined_calls other) in record {
        of = join.of;
        number_is = join.number_is ∙ had.number_is;
        made_is = join.made_is ∙ (ap (λ m. max old.made m) back.made_is ∙ (ap (λ m. max m 0) had.made_is ∙ (let e : max inputs.setup.instances 0 ≡ inputs.setup.instances = omega arith in e)));
        idle = join.own_is ∙ had.idle;
        answers_for = λ w above below. subst (λ l. Contains l (w + 1)) (sym split) (⊎_elim
            (λ e. Contains-append_right (numbers_in (joined_calls old)) (other.number ∷ numbers_in (joined_calls other)) (w + 1)
            (subst (λ k. Contains (other.number ∷ numbers_in (joined_calls other)) k) (back.number_is ∙ ap (λ k. k + 1) (sym e)) (head_there other.number (numbers_in (joined_calls other)))))
            (λ apart. Contains-append_left (numbers_in (joined_calls old)) (other.number ∷ numbers_in (joined_calls other)) (w + 1) (had.answers_for w (omega (arith, above, apart)) below))
            (same_or_not w n));
      }

  fewer_fit : (l : BenchLock) (old other new : BenchSeat) (history : List (Entry Call)) → IsJoin l old other new → Fits new history → Fits old history
  fewer_fit l old other new history join fits = record {
    listed = λ n calls c. fits.listed n calls (subst (λ z. Contains z (n, calls)) (sym join.joined_are) (Contains-append_left (joined_calls old) ((other.number, own_calls other) ∷ joined_calls other) (n, calls) c));
    heard = λ h c. fits.heard h (subst (λ z. Contains z h) (sym join.heard_are) (Contains-append_left (joined_seen old) (seen other ∷ joined_seen other) h c));
  }

  its_answers : (n g : ℕ) (l : BenchLock) (old other new : BenchSeat) (history : List (Entry Call)) → l.first ≡ opening inputs.setup g → IsReturned n l other → IsJoin l old other new → Fits new history
      → answered (n + 1) (opening inputs.setup g) history ≡ answers l other
  its_answers n g l old other new history first back join fits =
      let begins : Begins history (seen other) = fits.heard (seen other) (subst (λ z. Contains z (seen other)) (sym join.heard_are) (Contains-append_right (joined_seen old) (seen other ∷ joined_seen other) (seen other) (head_there (seen other) (joined_seen other)))) in
      let listed : calls_by other.number history ≡ own_calls other = fits.listed other.number (own_calls other)
      (subst (λ z. Contains z (other.number, own_calls other)) (sym join.joined_are) (Contains-append_right (joined_calls old) ((other.number, own_calls other) ∷ joined_calls other) (other.number, own_calls other) (head_there (other.number, own_calls other) (joined_calls other)))) in
      ap (λ k. answered k (opening inputs.setup g) history) (sym back.number_is) ∙ (ap (λ b. answered other.number b history) (sym first)
      ∙ answered_same other.number l.first (seen other) history begins (listed ∙ sym back.at.fits))

  module _ (n : ℕ) (first new seats : List BenchSeat) (all all' : List (List (ℕ × OutcomeView))) (t : List (ℕ × OutcomeView)) (are : AreLocks inputs.setup inputs.setup.shards locks) (had : AreJoined inputs (n + 1) locks first all)
      (worked : HasWorked inputs n locks seats t) (joins : JoinsFrom 0 locks first new seats) (pushed : all' ≡ all ++ t ∷ []) where
    join_at : (g : ℕ) (l : BenchLock) (s : BenchSeat) → g < inputs.setup.shards → IsJoin (slice_index_or locks g l) (slice_index_or first g s) (slice_index_or seats g s) (slice_index_or new g s)
    join_at g l s within = joins.done g l s (omega arith) (subst (λ k. g < k) (sym are.many) within)

    has_told : HasTold inputs n new t
    has_told = record {
      outcomes = worked.outcomes;
      made_is = worked.made_is;
      numbers_are = worked.numbers_are;
      blocks = λ g d s within history fits.
          subst (λ xs. AreBlocks inputs n 0 inputs.frames worked.outcomes g xs)
          (sym (its_answers n g (slice_index_or locks g d) (slice_index_or first g s) (slice_index_or seats g s) (slice_index_or new g s) history (are.each g d within) (worked.returned g d s within) (join_at g d s within) fits))
          (worked.blocks g d s within);
    }

    still_told : (w : ℕ) (made : List (ℕ × OutcomeView)) → HasTold inputs w first made → HasTold inputs w new made
    still_told w made was = record {
      outcomes = was.outcomes;
      made_is = was.made_is;
      numbers_are = was.numbers_are;
      blocks = λ g d s within history fits. was.blocks g d s within history (fewer_fit (slice_index_or locks g d) (slice_index_or first g s) (slice_index_or seats g s) (slice_index_or new g s) history (join_at g d s within) fits);
    }

    pub taken_in : AreJoined inputs n locks new all'
    taken_in =
        let many = had.many in
        let I = inputs.setup.instances in record {
          many = ap (λ l. length l + n) pushed ∙ (ap (λ k. k + n) (length-append all (t ∷ [])) ∙ (let e : length all + 1 + n ≡ I = omega (arith, many) in e));
          seats_many = joins.many ∙ had.seats_many;
          seats = λ g l s within. joined_seat n (slice_index_or locks g l) (slice_index_or first g s) (slice_index_or seats g s) (slice_index_or new g s) (had.seats g l s within) (worked.returned g l s within) (join_at g l s within);
          workers = λ w x above below. subst (λ z. HasTold inputs w new (slice_index_or z (I - 1 - w) x)) (sym pushed) (⊎_elim
              (λ e. subst (λ k. HasTold inputs k new (slice_index_or (all ++ t ∷ []) (I - 1 - k) x)) (sym e)
              (subst (λ (z : List (ℕ × OutcomeView)). HasTold inputs n new z) (sym (subst (λ k. slice_index_or (all ++ t ∷ []) k x ≡ t) (let q : length all ≡ I - 1 - n = omega (arith, many) in q) (last_of all t x))) has_told))
              (λ apart. subst (λ (z : List (ℕ × OutcomeView)). HasTold inputs w new z) (sym (before_last all t x (I - 1 - w) (omega (arith, many, above, below, apart))))
              (still_told w (slice_index_or all (I - 1 - w) x) (had.workers w x (omega (arith, above, apart)) below)))
              (same_or_not w n));
        }

  pub none_taken : (first : List BenchSeat) (all : List (List (ℕ × OutcomeView))) → AreFresh 0 inputs.setup.instances inputs.setup.shards locks first → all ≡ [] → AreJoined inputs inputs.setup.instances locks first all
  none_taken first all fresh none = record {
    many = ap (λ l. length l + inputs.setup.instances) none ∙ (let e : 0 + inputs.setup.instances ≡ inputs.setup.instances = omega arith in e);
    seats_many = fresh.many;
    seats = λ g l s within. let f = fresh.each g l s within in record { of = f.of; number_is = f.number_is; made_is = f.made_is; idle = f.idle; answers_for = λ w above below. absurd (omega (arith, above, below)) };
    workers = λ w d above below. absurd (omega (arith, above, below));
  }

  pub joined_seats : (n : ℕ) (first : List BenchSeat) (all : List (List (ℕ × OutcomeView))) → length locks ≡ inputs.setup.shards → AreJoined inputs n locks first all → AreSeats locks first
  joined_seats n first all many had = record { many = had.seats_many ∙ sym many; each = λ g l s within. (had.seats g l s (subst (λ k. g < k) many within)).of }

  pub returned_seats : (n : ℕ) (seats : List BenchSeat) (made : List (ℕ × OutcomeView)) → length locks ≡ inputs.setup.shards → HasWorked inputs n locks seats made → AreSeats locks seats
  returned_seats n seats made many worked = record { many = worked.many ∙ sym many; each = λ g l s within. (worked.returned g l s (subst (λ k. g < k) many within)).at.of }

-- ---- the last of what is left
pub popped_is : {X : Type 0} (all rest now : List X) (x d : X) → rest ≡ take (length rest) all → rest ≡ now ++ x ∷ [] → slice_index_or all (length now) d ≡ x
popped_is all rest now x d begun popped =
    let long = ap length popped ∙ length-append now (x ∷ []) in
    sym (take_at (length rest) all (length now) d (omega (arith, long))) ∙ (ap (λ z. slice_index_or z (length now) d) (sym begun ∙ popped) ∙ last_of now x d)

pub popped_rest : {X : Type 0} (all rest now : List X) (x : X) → rest ≡ take (length rest) all → rest ≡ now ++ x ∷ [] → now ≡ take (length now) all
popped_rest all rest now x begun popped =
    let long = ap length popped ∙ length-append now (x ∷ []) in
    sym (take-append_seam now (x ∷ [])) ∙ (ap (take (length now)) (sym popped ∙ begun) ∙ take-take (length now) (length rest) all (omega (arith, long)))

pub popped_long : {X : Type 0} (rest now : List X) (x : X) → rest ≡ now ++ x ∷ [] → length rest ≡ length now + 1
popped_long rest now x popped = ap length popped ∙ length-append now (x ∷ [])
