-- What a seat is answered, over a history that grows.
use Rattle.std.proofs.Common.{◌≡◌, ℕ, List, [], ◌∷◌, ◌++◌, length, take, drop, Bool, true, false, nat_eq, eq-eqb, ap, sym, refl, ◌∙◌, if◌then◌else◌}
use Rattle.std.proofs.lemmas.List.{append_cancel_left, append_cancel_right, append-nil}
use Rattle.seen_lock.specs.declared.object.Entry.{Entry}
use Rattle.seen_lock.specs.Histories.{calls_by, Begins}
use Rattle.seen_lock.specs.Seats.{IsSeatOf, SameSeat, IsTold, SeesMore, seen, own_calls, joined_calls}
use Rattle.seen_lock.proofs.HistoryLemmas.{begins_rest, begins_append, begins_itself, append_assoc, begins_trans, calls_by-append}
use Rattle.seen_lock.proofs.SeatLemmas.{head_there}
use Rattle.bench.specs.Bench.{BenchState, served}
use Rattle.bench.specs.declared.call.Call.{Call}
use Rattle.bench.specs.declared.call.Reply.{Reply}
use Rattle.run_threads.specs.Answered.{Answer, answered, bench_now}
use Rattle.run_threads.specs.Seats.{BenchLock, BenchSeat, IsAt, Adds, answers}

pub answered-append : (n : ℕ) (b : BenchState) (xs ys : List (Entry Call)) → answered n b (xs ++ ys) ≡ answered n b xs ++ answered n (bench_now b xs) ys
answered-append n b [] ys = refl
answered-append n b (e ∷ xs) ys = cases (nat_eq e.seat n) (answered-append n (served b e.call).0 xs ys)
  where
    now : BenchState
    now = (served b e.call).0

    cases : (t : Bool) → answered n now (xs ++ ys) ≡ answered n now xs ++ answered n (bench_now now xs) ys
        → (if t then (e.call, (served b e.call).1) ∷ answered n now (xs ++ ys) else answered n now (xs ++ ys))
        ≡ (if t then (e.call, (served b e.call).1) ∷ answered n now xs else answered n now xs) ++ answered n (bench_now now xs) ys
    cases true ih = ap (λ l. (e.call, (served b e.call).1) ∷ l) ih
    cases false ih = ih

-- where a seat has no entry, it was answered nothing
pub answered_none : (n : ℕ) (b : BenchState) (xs : List (Entry Call)) → calls_by n xs ≡ [] → answered n b xs ≡ []
answered_none n b [] none = refl
answered_none n b (e ∷ xs) none = cases (nat_eq e.seat n) none (answered_none n (served b e.call).0 xs)
  where
    cases : (t : Bool) → (if t then e.call ∷ calls_by n xs else calls_by n xs) ≡ [] → (calls_by n xs ≡ [] → answered n (served b e.call).0 xs ≡ [])
        → (if t then (e.call, (served b e.call).1) ∷ answered n (served b e.call).0 xs else answered n (served b e.call).0 xs) ≡ []
    cases true q ih = cc
    cases false q ih = ih q

-- a history that begins with another and has no more calls of a seat: the seat was answered the same
pub answered_same : (n : ℕ) (b : BenchState) (old new : List (Entry Call)) → Begins new old → calls_by n new ≡ calls_by n old → answered n b new ≡ answered n b old
answered_same n b old new begins same =
    let more = drop (length old) new in
    let whole : new ≡ old ++ more = begins_rest new old begins in
    let none : calls_by n more ≡ [] = append_cancel_left (calls_by n old) (calls_by n more) [] (sym (calls_by-append n old more) ∙ (ap (calls_by n) (sym whole) ∙ (same ∙ sym (append-nil (calls_by n old))))) in
    ap (answered n b) whole ∙ (answered-append n b old more ∙ (ap (λ l. answered n b old ++ l) (answered_none n (bench_now b old) more none) ∙ append-nil (answered n b old)))

-- .. or one more call, the last
pub answered_one : (n : ℕ) (b : BenchState) (old part new : List (Entry Call)) (c : Call) → Begins part old → (let e : Entry Call = record { seat = n; call = c } in new ≡ part ++ e ∷ []) → calls_by n new ≡ calls_by n old ++ c ∷ []
    → answered n b new ≡ answered n b old ++ (c, (served (bench_now b part) c).1) ∷ []
answered_one n b old part new c begins last one =
    let e : Entry Call = record { seat = n; call = c } in
    let yes : nat_eq n n ≡ true = eq-eqb n n refl in
    let its : calls_by n (e ∷ []) ≡ c ∷ [] = ap (λ t. if t then c ∷ [] else []) yes in
    let same : calls_by n part ≡ calls_by n old = append_cancel_right (calls_by n part) (calls_by n old) (c ∷ [])
    (ap (λ l. calls_by n part ++ l) (sym its) ∙ (sym (calls_by-append n part (e ∷ [])) ∙ (ap (calls_by n) (sym last) ∙ one))) in
    let before = answered_same n b old part begins same in
    let mine : answered n (bench_now b part) (e ∷ []) ≡ (c, (served (bench_now b part) c).1) ∷ [] = ap (λ t. if t then (c, (served (bench_now b part) c).1) ∷ [] else []) yes in
    ap (answered n b) last ∙ (answered-append n b part (e ∷ []) ∙ (ap (λ l. l ++ answered n (bench_now b part) (e ∷ [])) before ∙ ap (λ l. answered n b old ++ l) mine))

module _ (lock : BenchLock) where
  pub adds_none : (s : BenchSeat) → IsAt lock s → Adds lock s s []
  adds_none s at = record {
    at = at;
    same = record { number = refl; made = refl; joined_are = refl; heard_are = refl };
    grown = begins_itself (seen s) (seen s) refl;
    answered = sym (append-nil (answers lock s));
  }

  pub adds_more : (r s t : BenchSeat) (xs ys : List Answer) → Adds lock r s xs → Adds lock s t ys → Adds lock r t (xs ++ ys)
  adds_more r s t xs ys a b = record {
    at = b.at;
    same = record {
      number = b.same.number ∙ a.same.number;
      made = b.same.made ∙ a.same.made;
      joined_are = b.same.joined_are ∙ a.same.joined_are;
      heard_are = b.same.heard_are ∙ a.same.heard_are;
    };
    grown = begins_trans (seen t) (seen s) (seen r) b.grown a.grown;
    answered = b.answered ∙ (ap (λ l. l ++ ys) a.answered ∙ append_assoc (answers lock r) xs ys);
  }

  pub refused_adds : (old new : BenchSeat) → IsAt lock old → IsSeatOf lock new → SameSeat old new → SeesMore old new → Adds lock old new []
  refused_adds old new at of same more =
      let fits : calls_by new.number (seen new) ≡ own_calls new = ap (λ n. calls_by n (seen new)) same.number ∙ more.listed old.number (own_calls new) (head_there (old.number, own_calls new) (joined_calls new)) in
      let fits' : calls_by old.number (seen new) ≡ calls_by old.number (seen old) = ap (λ n. calls_by n (seen new)) (sym same.number) ∙ (fits ∙ (more.own ∙ sym at.fits)) in
      record {
        at = record { of = of; fits = fits };
        same = same;
        grown = more.grown;
        answered = ap (λ n. answered n lock.first (seen new)) same.number ∙ (answered_same old.number lock.first (seen old) (seen new) more.grown fits' ∙ sym (append-nil (answers lock old)));
      }

  pub told_adds : (old new : BenchSeat) (c : Call) (r : Reply) (place : ℕ) → IsAt lock old → IsSeatOf lock new → SameSeat old new
      → IsTold (λ b c. (served b c).0) (λ b c. (served b c).1) lock old new c r place → Adds lock old new ((c, r) ∷ [])
  told_adds old new c r place at of same told =
      let part = take place (seen new) in
      let listed : calls_by old.number (seen new) ≡ own_calls new = told.listed old.number (own_calls new) (head_there (old.number, own_calls new) (joined_calls new)) in
      let one : calls_by old.number (seen new) ≡ calls_by old.number (seen old) ++ c ∷ [] = listed ∙ (told.own ∙ ap (λ l. l ++ c ∷ []) (sym at.fits)) in
      let grown : Begins (seen new) (seen old) = begins_trans (seen new) part (seen old) (begins_append (seen new) part _ told.last) told.grown in
      record {
        at = record { of = of; fits = ap (λ n. calls_by n (seen new)) same.number ∙ listed };
        same = same;
        grown = grown;
        answered = ap (λ n. answered n lock.first (seen new)) same.number
            ∙ (answered_one old.number lock.first (seen old) part (seen new) c told.grown told.last one
            ∙ ap (λ (x : Reply). (let l : List Answer = (c, x) ∷ [] in answers lock old ++ l)) (sym told.answered));
      }
