-- A handling goes on by one call, or ends by it.
use Rattle.std.proofs.Common.{◌≡◌, ℕ, zero, suc, ◌+◌, ◌-◌, ◌<◌, ◌≤◌, List, [], ◌∷◌, ◌++◌, replicate, Bool, true, false, true≢false, Option, Some, None, IsSome, Result, Ok, Err, unwrap_or, refl, sym, ◌∙◌, ap, subst, arith, le-leb}
use Rattle.std.specs.Prelude.{nat_le, if◌then◌else◌}
use Rattle.std.specs.List.{AllByRecursion}
use Rattle.std.proofs.lemmas.Bool.{false≢true}
use Rattle.std.proofs.lemmas.List.{append-nil}
use Rattle.bench.specs.Blocks.{handling_calls, done_in, most_steps, limit_of}
use Rattle.bench.specs.declared.call.Call.{Call}
use Rattle.bench.specs.declared.call.Call.TheVariants.{Take, Step}
use Rattle.bench.specs.declared.call.Reply.{Reply}
use Rattle.bench.specs.declared.call.Reply.TheVariants as reply
use Rattle.job_core.specs.declared.aim.Aim.{Aim}
use Rattle.job_core.specs.declared.verdict.Verdict.{Verdict}
use Rattle.job_core.specs.declared.verdict.Verdict.TheVariants.{Crashed, NoMemory}
use Rattle.rule_table.specs.Setups.{SetupView}
use Rattle.tcp_segment.specs.declared.segment.Segment.{Segment}
use Rattle.run_threads.specs.Answered.{Answer, calls_in, replies_in}
use Rattle.run_threads.specs.Handling.{MatchGoing, AreMade, IsHandled, end_of, told_by_reply, refused_by, IsWithin, IsTimely, is_going, Handles}
use Rattle.run_threads.specs.Seats.{BenchLock, BenchSeat, Adds}
use Rattle.run_threads.specs.declared.handling.Refused.{Refused}
use Rattle.run_threads.proofs.Answered.{adds_more}

-- ---- answers that go on
pub going_is : (r : Reply) → is_going r ≡ true → r ≡ reply.Going
going_is reply.Going is = refl
going_is (reply.Done verdict outs) is = absurd (false≢true is)
going_is reply.Idle is = absurd (false≢true is)
going_is reply.Noted is = absurd (false≢true is)

match_going : (r : Reply) (goes ends : Type 0) → is_going r ≡ true → goes → MatchGoing r goes ends
match_going reply.Going goes ends is p = p
match_going (reply.Done verdict outs) goes ends is p = absurd (false≢true is)
match_going reply.Idle goes ends is p = absurd (false≢true is)
match_going reply.Noted goes ends is p = absurd (false≢true is)

match_other : (r : Reply) (goes ends : Type 0) → is_going r ≡ false → ends → MatchGoing r goes ends
match_other reply.Going goes ends is p = absurd (true≢false is)
match_other (reply.Done verdict outs) goes ends is p = p
match_other reply.Idle goes ends is p = p
match_other reply.Noted goes ends is p = p

done_later : (r : Reply) (replies : List Reply) → is_going r ≡ true → done_in (r ∷ replies) ≡ done_in replies
done_later reply.Going replies is = refl
done_later (reply.Done verdict outs) replies is = absurd (false≢true is)
done_later reply.Idle replies is = absurd (false≢true is)
done_later reply.Noted replies is = absurd (false≢true is)

done_one : (r : Reply) → done_in (r ∷ []) ≡ told_by_reply (Ok r)
done_one reply.Going = refl
done_one (reply.Done verdict outs) = refl
done_one reply.Idle = refl
done_one reply.Noted = refl

going_untold : (r : Reply) → is_going r ≡ true → told_by_reply (Ok r) ≡ None
going_untold reply.Going is = refl
going_untold (reply.Done verdict outs) is = absurd (false≢true is)
going_untold reply.Idle is = refl
going_untold reply.Noted is = refl

abbrev pub AllGoing : List Answer → Type 0
AllGoing answers = AllByRecursion (λ a. is_going a.1 ≡ true) answers

all_push : (xs : List Answer) (x : Answer) → AllGoing xs → is_going x.1 ≡ true → AllGoing (xs ++ x ∷ [])
all_push [] x all goes = (goes, tt)
all_push (y ∷ xs) x all goes = (all.0, all_push xs x all.1 goes)

-- all of these calls were made
made_all : (answers : List Answer) → AllGoing answers → AreMade (calls_in answers) answers
made_all [] all = refl
made_all (a ∷ answers) all = (refl, match_going a.1 (AreMade (calls_in answers) answers) (answers ≡ []) all.0 (made_all answers all.1))

-- .. and one more, the last
made_last : (answers : List Answer) (c : Call) (r : Reply) (more : List Call) → AllGoing answers → is_going r ≡ false → AreMade (calls_in answers ++ c ∷ more) (answers ++ (c, r) ∷ [])
made_last [] c r more all other = (refl, match_other r (AreMade more []) (let none : List Answer = [] in none ≡ []) other refl)
made_last (a ∷ answers) c r more all other =
    (refl, match_going a.1 (AreMade (calls_in answers ++ c ∷ more) (answers ++ (c, r) ∷ [])) (answers ++ (c, r) ∷ [] ≡ []) all.0 (made_last answers c r more all.1 other))

done_last : (answers : List Answer) (c : Call) (r : Reply) → AllGoing answers → done_in (replies_in (answers ++ (c, r) ∷ [])) ≡ told_by_reply (Ok r)
done_last [] c r all = done_one r
done_last (a ∷ answers) c r all = done_later a.1 (replies_in (answers ++ (c, r) ∷ [])) all.0 ∙ done_last answers c r all.1

none_done : (answers : List Answer) → AllGoing answers → done_in (replies_in answers) ≡ None
none_done [] all = refl
none_done (a ∷ answers) all = done_later a.1 (replies_in answers) all.0 ∙ none_done answers all.1

calls_push : (answers : List Answer) (a : Answer) → calls_in (answers ++ a ∷ []) ≡ calls_in answers ++ a.0 ∷ []
calls_push [] a = refl
calls_push (b ∷ answers) a = ap (λ l. b.0 ∷ l) (calls_push answers a)

-- ---- steps
replicate_split : (m k : ℕ) (c : Call) → replicate (m + suc k) c ≡ replicate m c ++ c ∷ replicate k c
replicate_split zero k c = ap (λ n. replicate n c) (let e : 0 + suc k ≡ suc k = omega arith in e)
replicate_split (suc m) k c = ap (λ n. replicate n c) (let e : suc m + suc k ≡ suc (m + suc k) = omega arith in e) ∙ ap (λ l. c ∷ l) (replicate_split m k c)

limit_is : (most calls : ℕ) → calls ≤ most → limit_of most (Some calls) ≡ (calls, NoMemory calls)
limit_is most calls within = by (nat_le calls most) (le-leb calls most within)
  where
    by : (b : Bool) → b ≡ true → (let x : ℕ × Verdict = if b then (calls, NoMemory calls) else (suc most, Crashed) in x) ≡ (calls, NoMemory calls)
    by true is = refl
    by false is = absurd (false≢true is)

module _ (i item : ℕ) (a : Aim) (segment : Segment) where
  abbrev Calls : ℕ → List Call
  Calls n = handling_calls i item a segment n

  calls_more : (made k : ℕ) → Calls (suc (made + suc k)) ≡ Calls (suc made) ++ Step i ∷ replicate k (Step i)
  calls_more made k = ap (λ l. Take i item a segment ∷ l) (replicate_split made k (Step i))

  -- after so many steps the last call was answered so
  pub record IsAhead (made : ℕ) (r : Reply) (answers : List Answer) : Type 0 where
    pub going : is_going r ≡ true → (calls_in answers ≡ Calls (suc made)) × AllGoing answers
    pub stopped : is_going r ≡ false → (n : ℕ) → made < n → AreMade (Calls n) answers
    pub told : done_in (replies_in answers) ≡ told_by_reply (Ok r)

  -- .. and the seat has made these calls
  pub record GoesAhead (lock : BenchLock) (old new : BenchSeat) (made : ℕ) (r : Reply) : Type 0 where
    pub answers : List Answer
    pub adds : Adds lock old new answers
    pub ahead : IsAhead made r answers

  first_made : (r : Reply) (n : ℕ) → is_going r ≡ false → 0 < n → AreMade (Calls n) ((Take i item a segment, r) ∷ [])
  first_made r zero other some = absurd (omega (arith, some))
  first_made r (suc n) other some = made_last [] (Take i item a segment) r (replicate n (Step i)) tt other

  pub taken : (lock : BenchLock) (old new : BenchSeat) (r : Reply) → Adds lock old new ((Take i item a segment, r) ∷ []) → GoesAhead lock old new 0 r
  taken lock old new r adds = record {
    answers = (Take i item a segment, r) ∷ [];
    adds = adds;
    ahead = record { going = λ goes. (refl, (goes, tt)); stopped = λ other n some. first_made r n other some; told = done_one r };
  }

  pub not_taken : (most : ℕ) (lock : BenchLock) (old new : BenchSeat) → Adds lock old new [] → Handles most i item a segment lock old new (Err (record { calls = 0 }))
  not_taken most lock old new adds = record {
    answers = [];
    adds = adds;
    made = subst (λ (l : ℕ × Verdict). AreMade (Calls l.0) []) (sym (limit_is most 0 (omega arith))) refl;
    told = refl;
    within = omega arith;
  }

  module _ (lock : BenchLock) (old now new : BenchSeat) (made : ℕ) (r : Reply) (goes : is_going r ≡ true) (way : GoesAhead lock old now made r) where
    all_going : AllGoing way.answers
    all_going = (way.ahead.going goes).1

    calls_are : calls_in way.answers ≡ Calls (suc made)
    calls_are = (way.ahead.going goes).0

    pub stepped : (r' : Reply) → Adds lock now new ((Step i, r') ∷ []) → GoesAhead lock old new (made + 1) r'
    stepped r' adds = record {
      answers = way.answers ++ (Step i, r') ∷ [];
      adds = adds_more lock old now new way.answers ((Step i, r') ∷ []) way.adds adds;
      ahead = record {
        going = λ goes'. (
          calls_push way.answers (Step i, r') ∙ (ap (λ l. l ++ Step i ∷ []) calls_are ∙ (sym (calls_more made 0) ∙ ap Calls (let e : suc (made + suc 0) ≡ suc (made + 1) = omega arith in e))),
          all_push way.answers (Step i, r') all_going goes',
        );
        stopped = λ other n more.
            let k = n - suc (suc made) in
            let whole : Calls n ≡ calls_in way.answers ++ Step i ∷ replicate k (Step i) =
            ap Calls (let e : n ≡ suc (made + suc (n - suc (suc made))) = omega (arith, more) in e) ∙ (calls_more made k ∙ ap (λ l. l ++ Step i ∷ replicate k (Step i)) (sym calls_are)) in
            subst (λ l. AreMade l (way.answers ++ (Step i, r') ∷ [])) (sym whole) (made_last way.answers (Step i) r' (replicate k (Step i)) all_going other);
        told = done_last way.answers (Step i) r' all_going;
      };
    }

    pub not_stepped : (most : ℕ) → made < most → Adds lock now new [] → Handles most i item a segment lock old new (Err (record { calls = made + 1 }))
    not_stepped most before adds =
        let same : way.answers ++ [] ≡ way.answers = append-nil way.answers in
        let all : AreMade (Calls (made + 1)) way.answers =
        subst (λ l. AreMade l way.answers) (calls_are ∙ ap Calls (let e : suc made ≡ made + 1 = omega arith in e)) (made_all way.answers all_going) in record {
          answers = way.answers ++ [];
          adds = adds_more lock old now new way.answers [] way.adds adds;
          made = subst (λ (l : ℕ × Verdict). AreMade (Calls l.0) (way.answers ++ [])) (sym (limit_is most (made + 1) (omega (arith, before)))) (subst (λ l. AreMade (Calls (made + 1)) l) (sym same) all);
          told = ap (λ l. done_in (replies_in l)) same ∙ none_done way.answers all_going;
          within = omega (arith, before);
        }

  -- the last call was answered otherwise, or it was the last of the most steps
  pub all_stepped : (most : ℕ) (lock : BenchLock) (old new : BenchSeat) (made : ℕ) (r : Reply) → made ≤ most → (is_going r ≡ true → most ≤ made) → GoesAhead lock old new made r → Handles most i item a segment lock old new (Ok r)
  all_stepped most lock old new made r within last way = record {
    answers = way.answers;
    adds = way.adds;
    made = by (is_going r) refl;
    told = way.ahead.told;
    within = tt;
  }
    where
      by : (b : Bool) → is_going r ≡ b → AreMade (Calls (suc most)) way.answers
      by true goes =
          let ahead = way.ahead.going goes in
          let end = last goes in
          subst (λ l. AreMade l way.answers) (ahead.0 ∙ ap Calls (let e : suc made ≡ suc most = omega (arith, within, end) in e)) (made_all way.answers ahead.1)
      by false other = way.ahead.stopped other (suc most) (omega (arith, within))

-- ---- the end
ended_by_told : (most : ℕ) (end : Result Reply Refused) → IsWithin most end → end_of end ≡ unwrap_or (told_by_reply end) ((limit_of most (refused_by end)).1, [])
ended_by_told most (Ok (reply.Done verdict outs)) within = refl
ended_by_told most (Ok reply.Going) within = refl
ended_by_told most (Ok reply.Idle) within = refl
ended_by_told most (Ok reply.Noted) within = refl
ended_by_told most (Err e) within = ap (λ (l : ℕ × Verdict). (let x : Verdict × List Segment = (l.1, []) in x)) (sym (limit_is most e.calls within))

crashed_by : (after : Option ℕ) (end : Result Reply Refused) → IsTimely after end → told_by_reply end ≡ None → (end_of end).0 ≡ Crashed → IsSome after
crashed_by after (Ok (reply.Done verdict outs)) timely none is = absurd (cc)
crashed_by after (Ok reply.Going) timely none is = timely
crashed_by after (Ok reply.Idle) timely none is = timely
crashed_by after (Ok reply.Noted) timely none is = timely
crashed_by after (Err e) timely none is = absurd (cc)

pub is_handled : (setup : SetupView) (i item : ℕ) (a : Aim) (segment : Segment) (after : Option ℕ) (end : Result Reply Refused) (answers : List Answer) → IsTimely after end
    → AreMade (handling_calls i item a segment (limit_of (most_steps setup after) (refused_by end)).0) answers → done_in (replies_in answers) ≡ told_by_reply end → IsWithin (most_steps setup after) end
    → IsHandled setup i item a segment after (refused_by end) (end_of end) answers
is_handled setup i item a segment after end answers timely made told within = record {
  made = made;
  ended = ended_by_told (most_steps setup after) end within ∙ ap (λ o. unwrap_or o ((limit_of (most_steps setup after) (refused_by end)).1, [])) (sym told);
  crashed = λ none is. crashed_by after end timely (sym told ∙ none) is;
}
