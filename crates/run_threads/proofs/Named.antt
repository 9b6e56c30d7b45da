-- Each call of a worker's seat is one for its items.
use Rattle.std.proofs.Common.{◌≡◌, ℕ, zero, suc, ◌+◌, ◌%◌, ◌<◌, List, [], ◌∷◌, ◌++◌, map, replicate, Bool, true, false, true≢false, Option, Some, None, nat_eq, if◌then◌else◌, eq-eqb, eqb-true, ne_eqb, refl, sym, ◌∙◌, ap, subst, arith, ⊎_elim, Contains}
use Rattle.std.specs.Prelude.{slice_get, slice_index_or, ◌==◌, ◌&&◌}
use Rattle.std.specs.List.{AllByRecursion, filter, flat_map, range_with_len}
use Rattle.std.proofs.lemmas.Bool.{false≢true}
use Rattle.std.proofs.lemmas.List.{map-append}
use Rattle.seen_lock.specs.declared.object.Entry.{Entry}
use Rattle.seen_lock.specs.Histories.{calls_by}
use Rattle.seen_lock.proofs.SeatLemmas.{head_there, contains_cases}
use Rattle.bench.specs.Fitting.{FitsAgain}
use Rattle.bench.specs.Bench.{BenchState, served}
use Rattle.bench.specs.Blocks.{CallAt, history, fail_at, crash_of, crash_after, handling_calls, most_steps, limit_of}
use Rattle.bench.specs.Histories.{opening}
use Rattle.bench.specs.Prepared.{prepared_of}
use Rattle.bench.specs.declared.call.Call.{Call}
use Rattle.bench.specs.declared.call.Call.TheVariants as call
use Rattle.bench.specs.declared.call.Reply.{Reply}
use Rattle.bench.specs.declared.call.Reply.TheVariants as reply
use Rattle.bench.specs.declared.input.inputs.Inputs.{Inputs}
use Rattle.bench.specs.declared.input.line.Line.{Line}
use Rattle.bench.specs.declared.input.prepared.Prepared.{Prepared}
use Rattle.bench.specs.declared.input.prepared.Prepared.TheVariants.{Ended, Work}
use Rattle.job_core.specs.declared.aim.Aim.{Aim}
use Rattle.job_core.specs.declared.verdict.Verdict.{Verdict}
use Rattle.pcap_file.specs.Frames.{capture_of}
use Rattle.pcap_file.specs.declared.capture.Frame.{Frame}
use Rattle.script_text.specs.declared.line.Line.{Line as ScriptLine}
use Rattle.script_text.specs.declared.line.Line.TheVariants as script
use Rattle.tcp_segment.specs.declared.segment.Segment.{Segment}
use Rattle.run_threads.specs.Answered.{Answer, calls_in, answered}
use Rattle.run_threads.specs.Due.{is_due}
use Rattle.run_threads.specs.Handling.{MatchGoing, AreMade, IsHandled}
use Rattle.run_threads.specs.Items.{IsTurn, IsPassed, IsOwn, IsDone, failing, fails_of, fails_before, instance_of, owner_by}
use Rattle.run_threads.specs.Laws.{IsNamed}
use Rattle.run_threads.specs.Run.{told_by, IsThreadRun}
use Rattle.run_threads.specs.Work.{AreItems}
use Rattle.run_threads.specs.Outcomes.{OutcomeView}
use Rattle.run_threads.proofs.Crews.{same_or_not}

-- ---- lists
all_both : {X : Type 0} (P : X → Type 0) (xs ys : List X) → AllByRecursion P xs → AllByRecursion P ys → AllByRecursion P (xs ++ ys)
all_both P [] ys all more = more
all_both P (x ∷ xs) ys all more = (all.0, all_both P xs ys all.1 more)

later_there : {X : Type 0} (x : X) (xs : List X) (y : X) → Contains xs y → Contains (x ∷ xs) y
later_there x xs y c = let below = c.1 in (suc c.0, omega (arith, below), c.2)

-- what passes a test stood in the list
filter_inside : {X : Type 0} (p : X → Bool) (xs : List X) (y : X) → Contains (filter p xs) y → Contains xs y
filter_inside p [] y c = c
filter_inside p (x ∷ xs) y c = by (p x) c (filter_inside p xs y)
  where
    by : (t : Bool) → Contains (if t then x ∷ filter p xs else filter p xs) y → (Contains (filter p xs) y → Contains xs y) → Contains (x ∷ xs) y
    by true c ih = ⊎_elim (λ e. subst (λ z. Contains (x ∷ xs) z) e (head_there x xs)) (λ d. later_there x xs y (ih d)) (contains_cases x (filter p xs) y c)
    by false c ih = later_there x xs y (ih c)

-- .. and passes it
filter_passes : {X : Type 0} (p : X → Bool) (xs : List X) → AllByRecursion (λ x. p x ≡ true) (filter p xs)
filter_passes p [] = tt
filter_passes p (x ∷ xs) = by (p x) refl (filter_passes p xs)
  where
    by : (t : Bool) → p x ≡ t → AllByRecursion (λ y. p y ≡ true) (filter p xs) → AllByRecursion (λ y. p y ≡ true) (if t then x ∷ filter p xs else filter p xs)
    by true is ih = (is, ih)
    by false is ih = ih

eqb_is : (m n : ℕ) → (m == n) ≡ true → m ≡ n
eqb_is m n is = eqb-true m n is

both_true : (x y : Bool) → (x && y) ≡ true → (x ≡ true) × (y ≡ true)
both_true true true is = (refl, refl)
both_true true false is = absurd (false≢true is)
both_true false y is = absurd (false≢true is)

-- the calls of a seat are those that were answered
calls_are : (n : ℕ) (b : BenchState) (h : List (Entry Call)) → calls_in (answered n b h) ≡ calls_by n h
calls_are n b [] = refl
calls_are n b (e ∷ h) = cases (nat_eq e.seat n) (calls_are n (served b e.call).0 h)
  where
    cases : (t : Bool) → calls_in (answered n (served b e.call).0 h) ≡ calls_by n h
        → calls_in (if t then (e.call, (served b e.call).1) ∷ answered n (served b e.call).0 h else answered n (served b e.call).0 h) ≡ (if t then e.call ∷ calls_by n h else calls_by n h)
    cases true ih = ap (λ l. e.call ∷ l) ih
    cases false ih = ih

module _ (inputs : Inputs) (w g : ℕ) where
  abbrev Named : List Call → Type 0
  Named calls = AllByRecursion (IsNamed inputs w g) calls

  -- on its shard each of these is such a call
  abbrev NamedAt : List CallAt → Type 0
  NamedAt calls = AllByRecursion (λ c. IsNamed inputs w c.shard c.call) calls

  in_history : (calls : List CallAt) → NamedAt calls → Named (history g calls)
  in_history [] all = tt
  in_history (c ∷ calls) all = ⊎_elim
      (λ e. here (c.shard == g) (eq-eqb c.shard g e) (subst (λ n. IsNamed inputs w n c.call) e all.0) (in_history calls all.1))
      (λ apart. there (c.shard == g) (ne_eqb c.shard g apart) (in_history calls all.1))
      (same_or_not c.shard g)
    where
      here : (t : Bool) → t ≡ true → IsNamed inputs w g c.call → Named (history g calls) → Named (map (λ x. x.call) (if t then c ∷ filter (λ x. x.shard == g) calls else filter (λ x. x.shard == g) calls))
      here true is one rest = (one, rest)
      here false is one rest = absurd (false≢true is)

      there : (t : Bool) → t ≡ false → Named (history g calls) → Named (map (λ x. x.call) (if t then c ∷ filter (λ x. x.shard == g) calls else filter (λ x. x.shard == g) calls))
      there true is rest = absurd (true≢false is)
      there false is rest = rest

  -- ---- failures
  module _ (replica before : ℕ) (line : Contains inputs.script.lines (script.Fail replica before)) (own : before % inputs.setup.instances ≡ w) where
    fail_places : (shard : ℕ) (places : List ℕ) → AllByRecursion (λ place. ((shard + place) % inputs.setup.replicas == replica) ≡ true) places
        → NamedAt (map (λ place. record { shard = shard; call = call.Fail place }) places)
    fail_places shard [] are = tt
    fail_places shard (p ∷ places) are =
        (record { replica = replica; before = before; line = line; own = own; here = eqb_is ((shard + p) % inputs.setup.replicas) replica are.0 }, fail_places shard places are.1)

    fail_shards : (shards : List ℕ) → NamedAt (flat_map (fail_at inputs.setup replica) shards)
    fail_shards [] = tt
    fail_shards (s ∷ shards) = all_both (λ c. IsNamed inputs w c.shard c.call) (fail_at inputs.setup replica s) (flat_map (fail_at inputs.setup replica) shards)
        (fail_places s _ (filter_passes (λ place. (s + place) % inputs.setup.replicas == replica) (range_with_len 0 inputs.setup.copies))) (fail_shards shards)

  fails_named : (item : ℕ) (line : ScriptLine) → Contains inputs.script.lines line → NamedAt (fails_of inputs.setup (failing inputs.setup w item line))
  fails_named item (script.Fail replica at) inside = by (at == item && item % inputs.setup.instances == w) refl
    where
      by : (t : Bool) → (at == item && item % inputs.setup.instances == w) ≡ t → NamedAt (fails_of inputs.setup (if t then Some replica else None))
      by true is =
          let both = both_true (at == item) (item % inputs.setup.instances == w) is in
          fail_shards replica at inside (ap (λ n. n % inputs.setup.instances) (eqb_is at item both.0) ∙ eqb_is (item % inputs.setup.instances) w both.1) (range_with_len 0 inputs.setup.shards)
      by false is = tt
  fails_named item (script.Give at instance) inside = tt
  fails_named item (script.Crash instance at after) inside = tt
  fails_named item (script.Back instance at) inside = tt

  before_named : (item : ℕ) (lines : List ScriptLine) → ((l : ScriptLine) → Contains lines l → Contains inputs.script.lines l) → NamedAt (fails_before inputs.setup w item lines)
  before_named item [] inside = tt
  before_named item (line ∷ lines) inside =
      all_both (λ c. IsNamed inputs w c.shard c.call) (fails_of inputs.setup (failing inputs.setup w item line)) (fails_before inputs.setup w item lines)
      (fails_named item line (inside line (head_there line lines))) (before_named item lines (λ l c. inside l (later_there line lines l c)))

  -- ---- crashes
  crash_shards : (shards : List ℕ) → NamedAt (map (λ shard. record { shard = shard; call = call.Crash w }) shards)
  crash_shards [] = tt
  crash_shards (s ∷ shards) = (refl, crash_shards shards)

  crash_named : (after : Option ℕ) → NamedAt (crash_of inputs.setup w after)
  crash_named None = tt
  crash_named (Some n) = crash_shards (range_with_len 0 inputs.setup.shards)

  passed_named : (after : Option ℕ) (answers : List Answer) → IsPassed inputs.setup w after g answers → Named (calls_in answers)
  passed_named after answers is = subst Named (sym is) (in_history (crash_of inputs.setup w after) (crash_named after))

  joined_named : (all first later : List Answer) → all ≡ first ++ later → Named (calls_in first) → Named (calls_in later) → Named (calls_in all)
  joined_named all first later is one two =
      subst Named (sym (ap calls_in is ∙ map-append (λ a. a.0) first later)) (all_both (IsNamed inputs w g) (calls_in first) (calls_in later) one two)

  -- ---- handlings
  steps_named : (n : ℕ) → Named (replicate n (call.Step w))
  steps_named zero = tt
  steps_named (suc n) = (refl, steps_named n)

  -- the calls that were made of such ones
  made_named : (calls : List Call) (answers : List Answer) → Named calls → AreMade calls answers → Named (calls_in answers)
  made_named [] answers all made = subst (λ l. Named (calls_in l)) (sym made) tt
  made_named (c ∷ calls) [] all made = tt
  made_named (c ∷ calls) (a ∷ answers) all made = (subst (IsNamed inputs w g) (sym made.0) all.0, later a.1 made.1 (made_named calls answers all.1))
    where
      later : (r : Reply) → MatchGoing r (AreMade calls answers) (answers ≡ []) → (AreMade calls answers → Named (calls_in answers)) → Named (calls_in answers)
      later reply.Going goes ih = ih goes
      later (reply.Done verdict outs) ends ih = subst (λ l. Named (calls_in l)) (sym ends) tt
      later reply.Idle ends ih = subst (λ l. Named (calls_in l)) (sym ends) tt
      later reply.Noted ends ih = subst (λ l. Named (calls_in l)) (sym ends) tt

  module _ (item : ℕ) (f : Frame) (there : slice_get (capture_of inputs.trace).frames item ≡ Some f) where
    module _ (a : Aim) (segment : Segment) (short : FitsAgain segment) where
      abbrev IsHere : ℕ → Type 0
      IsHere own = prepared_of inputs item f ≡ Work a segment w own

      handling_named : (n : ℕ) → IsHere g → Named (handling_calls w item a segment n)
      handling_named zero here = tt
      handling_named (suc n) here = (record { own = refl; frame = f; is_there = there; work = here; short = short }, steps_named n)

      handled_named : (after refused : Option ℕ) (end : Verdict × List Segment) (answers : List Answer) → IsHere g → IsHandled inputs.setup w item a segment after refused end answers → Named (calls_in answers)
      handled_named after refused end answers here is =
          let most = (limit_of (most_steps inputs.setup after) refused).0 in made_named (handling_calls w item a segment most) answers (handling_named most here) is.made

    turn_named : (a : Aim) (segment : Segment) (own : ℕ) (after : Option ℕ) (outcome : OutcomeView) (answers : List Answer) → prepared_of inputs item f ≡ Work a segment w own
        → IsTurn inputs.setup w item a segment own after outcome g answers → Named (calls_in answers)
    turn_named a segment own after outcome answers here is =
        joined_named answers is.handling is.crash is.are
        (⊎_elim (λ e. handled_named a segment is.fits.2 after is.refused is.end is.handling (subst (λ n. prepared_of inputs item f ≡ Work a segment w n) (sym e) here) (is.handled.here e))
        (λ apart. subst (λ l. Named (calls_in l)) (sym (is.handled.there apart)) tt) (same_or_not g own))
        (passed_named after is.crash is.crashes)

    own_named : (p : Prepared) (after : Option ℕ) (outcome : OutcomeView) (answers : List Answer) → prepared_of inputs item f ≡ p → owner_by inputs.setup item (instance_of p) ≡ w
        → IsOwn inputs.setup w item p after outcome g answers → Named (calls_in answers)
    own_named (Ended v) after outcome answers at whose is = passed_named after answers is.1
    own_named (Work a segment instance own) after outcome answers at whose is =
        ⊎_elim (λ passed. passed_named after answers passed.1) (λ turn. turn_named a segment own after outcome answers (at ∙ ap (λ i. Work a segment i own) whose) turn) is

    done_named : (lines : List ScriptLine) (told : Option OutcomeView) (answers : List Answer) → IsDone inputs w item lines f told g answers → Named (calls_in answers)
    done_named lines None answers is = passed_named (crash_after lines w item) answers is.1
    done_named lines (Some o) answers is = own_named (prepared_of inputs item f) (crash_after lines w item) o answers refl is.0 is.1

  -- ---- all items
  items_named : (n : ℕ) (frames : List Frame) (outcomes : List (Option OutcomeView)) (answers : List Answer) → ((k : ℕ) (f : Frame) → slice_get frames k ≡ Some f → slice_get (capture_of inputs.trace).frames (n + k) ≡ Some f)
      → AreItems inputs w n frames outcomes g answers → Named (calls_in answers)
  items_named n [] [] answers at are = subst (λ l. Named (calls_in l)) (sym are) tt
  items_named n [] (o ∷ outcomes) answers at are = absurd are
  items_named n (f ∷ frames) [] answers at are = absurd are
  items_named n (f ∷ frames) (o ∷ outcomes) answers at are =
      let item = are.3 in
      let lines = filter (is_due n) inputs.script.lines in
      joined_named answers are.0 are.1 are.2
      (joined_named are.0 item.failed item.then_made item.are
      (subst Named (sym item.fails) (in_history (fails_before inputs.setup w n lines) (before_named n lines (λ l c. filter_inside (is_due n) inputs.script.lines l c))))
      (done_named n f (subst (λ k. slice_get (capture_of inputs.trace).frames k ≡ Some f) (let e : n + 0 ≡ n = omega arith in e) (at 0 f refl)) lines o item.then_made item.done))
      (items_named (n + 1) frames outcomes are.1
      (λ k x is. subst (λ m. slice_get (capture_of inputs.trace).frames m ≡ Some x) (let e : n + suc k ≡ n + 1 + k = omega arith in e) (at (suc k) x is)) are.4)

pub calls_named : (inputs : Inputs) (lines : List Line) (outs : List (ℕ × Segment)) (histories : List (List (Entry Call))) → IsThreadRun inputs lines outs histories → (w g : ℕ) (h : List (Entry Call)) → w < inputs.setup.instances → g < inputs.setup.shards
    → AllByRecursion (IsNamed inputs w g) (calls_by (w + 1) (slice_index_or histories g h))
calls_named inputs lines outs histories run w g h within below =
    let frames = (capture_of inputs.trace).frames in
    subst (λ l. AllByRecursion (IsNamed inputs w g) l) (calls_are (w + 1) (opening inputs.setup g) (slice_index_or histories g h))
    (items_named inputs w g 0 frames (told_by inputs w 0 frames run.outcomes) (answered (w + 1) (opening inputs.setup g) (slice_index_or histories g h))
    (λ k f is. subst (λ m. slice_get frames m ≡ Some f) (let e : k ≡ 0 + k = omega arith in e) is) (run.items w g h within below))
