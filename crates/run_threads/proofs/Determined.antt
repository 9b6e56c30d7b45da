-- What an entry of a run shows in a journal is all of it.
use Rattle.std.proofs.Common.{◌≡◌, Ok, ℕ, zero, suc, ◌+◌, ◌%◌, ◌<◌, List, [], ◌∷◌, length, map, Bool, true, false, true≢false, nat_eq, eq-eqb, if◌then◌else◌, Contains, refl, sym, ◌∙◌, ap, subst, arith, inl, inr, ⊎_elim, ◌⊎◌}
use Rattle.std.specs.Prelude.{slice_get, slice_index_or}
use Rattle.std.specs.List.{AllByRecursion}
use Rattle.std.proofs.lemmas.Option.{slice_get_within}
use Rattle.seen_lock.specs.declared.object.Entry.{Entry}
use Rattle.seen_lock.specs.Histories.{calls_by}
use Rattle.seen_lock.proofs.SeatLemmas.{some_same}
use Rattle.bench.specs.Calls.{IsCall, AreCalls}
use Rattle.bench.specs.Inputs.{IsInputs}
use Rattle.bench.specs.Prepared.{prepared_of}
use Rattle.bench.specs.declared.call.Call.{Call}
use Rattle.bench.specs.declared.call.Call.TheVariants.{Take, Step, Crash, Fail}
use Rattle.bench.specs.declared.input.inputs.Inputs.{Inputs}
use Rattle.bench.specs.declared.input.line.Line.{Line}
use Rattle.bench.specs.declared.input.prepared.Prepared.{Prepared}
use Rattle.bench.specs.declared.input.prepared.Prepared.TheVariants.{Ended, Work}
use Rattle.job_core.specs.declared.aim.Aim.{Aim}
use Rattle.journal_text.specs.Journals.{journal_text}
use Rattle.journal_text.specs.Laws.{Shown, shown, shown_call, FitsWords, AllFitWords}
use Rattle.journal_text.specs.Laws.Shown.{take, step, crash, fail}
use Rattle.journal_text.proofs.Reading.{shards_same}
use Rattle.pcap_file.specs.Frames.{capture_of}
use Rattle.rule_table.specs.Setups.{IsSetup}
use Rattle.script_text.specs.Reading.{reading}
use Rattle.script_text.specs.declared.line.Line.TheVariants as script
use Rattle.tcp_segment.specs.declared.segment.Segment.{Segment}
use Rattle.run_threads.specs.Laws.{IsOwnTake, IsNamed}
use Rattle.run_threads.specs.Run.{IsThreadRun}
use Rattle.run_threads.proofs.Scripts.{FailsOnce, script_once}
use Rattle.run_threads.proofs.Named.{calls_named}

-- ---- what is shown
abbrev kind_of : Shown → ℕ
kind_of (take i n) = 0
kind_of (step i) = 1
kind_of (crash i) = 2
kind_of (fail p) = 3

abbrev first_of : Shown → ℕ
first_of (take i n) = i
first_of (step i) = i
first_of (crash i) = i
first_of (fail p) = p

abbrev second_of : Shown → ℕ
second_of (take i n) = n
second_of (step i) = 0
second_of (crash i) = 0
second_of (fail p) = 0

abbrev aim_of : Aim → Prepared → Aim
aim_of d (Ended v) = d
aim_of d (Work a s i g) = a

abbrev segment_of : Segment → Prepared → Segment
segment_of d (Ended v) = d
segment_of d (Work a s i g) = s

below_or_not : (v n : ℕ) → (v < n) ⊎ (n < suc v)
below_or_not v zero = inr (omega arith)
below_or_not zero (suc n) = inl (omega arith)
below_or_not (suc v) (suc n) = ⊎_elim (λ a. inl (omega (arith, a))) (λ a. inr (omega (arith, a))) (below_or_not v n)

none_made : {X : Type 0} (x : X) (xs : List X) → (let l : List X = x ∷ xs in l) ≡ [] → ⊥
none_made x xs is = let long = ap length is in omega (arith, long)

abbrev head_or : {X : Type 0} → X → List X → X
head_or x [] = x
head_or x (y ∷ ys) = y

abbrev tail_of : {X : Type 0} → List X → List X
tail_of [] = []
tail_of (y ∷ ys) = ys

-- ---- one shard
module _ (inputs : Inputs) (g : ℕ) where
  -- the entry is one of a worker's seat, which made the call for one of its items; and the call may be made
  pub record IsMade (e : Entry Call) : Type 0 where
    pub worker : ℕ
    pub there : worker < inputs.setup.instances
    pub seat_is : e.seat ≡ worker + 1
    pub named : IsNamed inputs worker g e.call
    pub may : IsCall inputs.setup g e.call

  here_none : (t : Bool) (c : Call) (xs : List Call) → t ≡ true → (if t then c ∷ xs else xs) ≡ [] → ⊥
  here_none true c xs holds is = none_made c xs is
  here_none false c xs holds is = true≢false (sym holds)

  here_named : (t : Bool) (w : ℕ) (c : Call) (xs : List Call) → t ≡ true → AllByRecursion (IsNamed inputs w g) (if t then c ∷ xs else xs) → IsNamed inputs w g c
  here_named true w c xs holds all = all.0
  here_named false w c xs holds all = absurd (true≢false (sym holds))

  later_named : (t : Bool) (w : ℕ) (c : Call) (xs : List Call) → AllByRecursion (IsNamed inputs w g) (if t then c ∷ xs else xs) → AllByRecursion (IsNamed inputs w g) xs
  later_named true w c xs all = all.1
  later_named false w c xs all = all

  later_none : (t : Bool) (c : Call) (xs : List Call) → (if t then c ∷ xs else xs) ≡ [] → xs ≡ []
  later_none true c xs is = absurd (none_made c xs is)
  later_none false c xs is = is

  first_made : (s : ℕ) (e : Entry Call) (h : List (Entry Call)) → e.seat ≡ s → IsCall inputs.setup g e.call → ((w : ℕ) → w < inputs.setup.instances → AllByRecursion (IsNamed inputs w g) (calls_by (w + 1) (e ∷ h)))
      → ((n : ℕ) → (n ≡ 0) ⊎ (inputs.setup.instances < n) → calls_by n (e ∷ h) ≡ []) → IsMade e
  first_made zero e h seat may named nobody = absurd (here_none (nat_eq e.seat 0) e.call (calls_by 0 h) (eq-eqb e.seat 0 seat) (nobody 0 (inl refl)))
  first_made (suc v) e h seat may named nobody = ⊎_elim
      (λ below. let at : e.seat ≡ v + 1 = seat ∙ (let q : suc v ≡ v + 1 = omega arith in q) in record {
        worker = v;
        there = below;
        seat_is = at;
        named = here_named (nat_eq e.seat (v + 1)) v e.call (calls_by (v + 1) h) (eq-eqb e.seat (v + 1) at) (named v below);
        may = may;
      })
      (λ above. absurd (here_none (nat_eq e.seat (suc v)) e.call (calls_by (suc v) h) (eq-eqb e.seat (suc v) seat) (nobody (suc v) (inr above))))
      (below_or_not v inputs.setup.instances)

  all_made : (h : List (Entry Call)) → AreCalls inputs.setup g (map (λ e. e.call) h) → ((w : ℕ) → w < inputs.setup.instances → AllByRecursion (IsNamed inputs w g) (calls_by (w + 1) h))
      → ((n : ℕ) → (n ≡ 0) ⊎ (inputs.setup.instances < n) → calls_by n h ≡ []) → AllByRecursion IsMade h
  all_made [] may named nobody = tt
  all_made (e ∷ h) may named nobody = (
    first_made e.seat e h refl may.0 named nobody,
    all_made h may.1 (λ w below. later_named (nat_eq e.seat (w + 1)) w e.call (calls_by (w + 1) h) (named w below)) (λ n who. later_none (nat_eq e.seat n) e.call (calls_by n h) (nobody n who)),
  )

  -- ---- two entries that show the same
  module _ (once : FailsOnce inputs.script.lines) (v w : ℕ) where
    takes_same : (i n j m : ℕ) (a b : Aim) (s t : Segment) → IsOwnTake inputs v g i n a s → IsOwnTake inputs w g j m b t → i ≡ j → n ≡ m → (v ≡ w) × (Take i n a s ≡ Take j m b t)
    takes_same i n j m a b s t one two who which =
        let frames = (capture_of inputs.trace).frames in
        let f_is : one.frame ≡ two.frame = some_same one.frame two.frame (sym one.is_there ∙ (ap (slice_get frames) which ∙ two.is_there)) in
        let same : Work a s i g ≡ Work b t j g = sym one.work ∙ (ap (λ k. prepared_of inputs k one.frame) which ∙ (ap (prepared_of inputs m) f_is ∙ two.work)) in (
          sym one.own ∙ (who ∙ two.own),
          ap (λ k. Take k n a s) who ∙ (ap (λ k. Take j k a s) which ∙ (ap (λ z. Take j m z s) (ap (aim_of a) same) ∙ ap (λ z. Take j m b z) (ap (segment_of s) same))),
        )

    call_same : (b c : Call) → IsNamed inputs v g b → IsNamed inputs w g c → shown_call b ≡ shown_call c → (v ≡ w) × (b ≡ c)
    call_same (Take i n a s) (Take j m b t) one two is = takes_same i n j m a b s t one two (ap first_of is) (ap second_of is)
    call_same (Step i) (Step j) one two is = (sym one ∙ (ap first_of is ∙ two), ap (λ k. Step k) (ap first_of is))
    call_same (Crash i) (Crash j) one two is = (sym one ∙ (ap first_of is ∙ two), ap (λ k. Crash k) (ap first_of is))
    call_same (Fail p) (Fail q) one two is =
        let places = ap first_of is in
        let replicas : one.replica ≡ two.replica = sym one.here ∙ (ap (λ k. (g + k) % inputs.setup.replicas) places ∙ two.here) in
        let befores : one.before ≡ two.before = once two.replica one.before two.before (subst (λ r. Contains inputs.script.lines (script.Fail r one.before)) replicas one.line) two.line in
        (sym one.own ∙ (ap (λ k. k % inputs.setup.instances) befores ∙ two.own), ap (λ k. Fail k) places)
    call_same (Take i n a s) (Step j) one two is = let e = ap kind_of is in absurd (omega (arith, e))
    call_same (Take i n a s) (Crash j) one two is = let e = ap kind_of is in absurd (omega (arith, e))
    call_same (Take i n a s) (Fail q) one two is = let e = ap kind_of is in absurd (omega (arith, e))
    call_same (Step i) (Take j m b t) one two is = let e = ap kind_of is in absurd (omega (arith, e))
    call_same (Step i) (Crash j) one two is = let e = ap kind_of is in absurd (omega (arith, e))
    call_same (Step i) (Fail q) one two is = let e = ap kind_of is in absurd (omega (arith, e))
    call_same (Crash i) (Take j m b t) one two is = let e = ap kind_of is in absurd (omega (arith, e))
    call_same (Crash i) (Step j) one two is = let e = ap kind_of is in absurd (omega (arith, e))
    call_same (Crash i) (Fail q) one two is = let e = ap kind_of is in absurd (omega (arith, e))
    call_same (Fail p) (Take j m b t) one two is = let e = ap kind_of is in absurd (omega (arith, e))
    call_same (Fail p) (Step j) one two is = let e = ap kind_of is in absurd (omega (arith, e))
    call_same (Fail p) (Crash j) one two is = let e = ap kind_of is in absurd (omega (arith, e))

  entry_same : FailsOnce inputs.script.lines → (e f : Entry Call) → IsMade e → IsMade f → shown e ≡ shown f → e ≡ f
  entry_same once e f one two is =
      let same = call_same once one.worker two.worker e.call f.call one.named two.named is in
      let seats : e.seat ≡ f.seat = one.seat_is ∙ (ap (λ k. k + 1) same.0 ∙ sym two.seat_is) in
      ap (λ (s : ℕ). (let x : Entry Call = record { seat = s; call = e.call } in x)) seats ∙ ap (λ (c : Call). (let x : Entry Call = record { seat = f.seat; call = c } in x)) same.1

  entries_same : FailsOnce inputs.script.lines → (h k : List (Entry Call)) → AllByRecursion IsMade h → AllByRecursion IsMade k → map shown h ≡ map shown k → h ≡ k
  entries_same once [] [] one two is = refl
  entries_same once [] (f ∷ k) one two is = absurd (none_made (shown f) (map shown k) (sym is))
  entries_same once (e ∷ h) [] one two is = absurd (none_made (shown e) (map shown h) is)
  entries_same once (e ∷ h) (f ∷ k) one two is =
      ap (λ (x : Entry Call). x ∷ h) (entry_same once e f one.0 two.0 (ap (head_or (shown e)) is)) ∙ ap (λ l. f ∷ l) (entries_same once h k one.1 two.1 (ap tail_of is))

  -- ---- the numbers of a line
  module _ (good : IsInputs inputs) (sized : IsSetup inputs.setup) where
    call_fits : (w : ℕ) (c : Call) → w < inputs.setup.instances → IsNamed inputs w g c → IsCall inputs.setup g c → FitsWords c
    call_fits w (Take i n a s) there named may =
        let own = named.own in
        let few = sized.instances.1 in
        let within = slice_get_within (capture_of inputs.trace).frames n named.frame named.is_there in
        let records = good.records in
        let most = good.few in (omega (arith, own, there, few), omega (arith, within, records, most))
    call_fits w (Step i) there named may = let few = sized.instances.1 in omega (arith, named, there, few)
    call_fits w (Crash i) there named may = let few = sized.instances.1 in omega (arith, named, there, few)
    call_fits w (Fail p) there named may =
        let copies = sized.copies.1 in
        let replicas = sized.replicas.1 in omega (arith, may, copies, replicas)

    entries_fit : (h : List (Entry Call)) → AllByRecursion IsMade h → AllByRecursion (λ (e : Entry Call). FitsWords e.call) h
    entries_fit [] made = tt
    entries_fit (e ∷ h) made = (call_fits made.0.worker e.call made.0.there made.0.named made.0.may, entries_fit h made.1)

-- ---- all shards
AllMade : Inputs → ℕ → List (List (Entry Call)) → Type 0
AllMade inputs n [] = Unit {0}
AllMade inputs n (h ∷ hs) = AllByRecursion (IsMade inputs n) h × AllMade inputs (n + 1) hs

histories_same : (inputs : Inputs) → FailsOnce inputs.script.lines → (n : ℕ) (h k : List (List (Entry Call))) → AllMade inputs n h → AllMade inputs n k → map (map shown) h ≡ map (map shown) k → h ≡ k
unfolding AllMade
histories_same inputs once n [] [] one two is = refl
histories_same inputs once n [] (k ∷ ks) one two is = absurd (none_made (map shown k) (map (map shown) ks) (sym is))
histories_same inputs once n (h ∷ hs) [] one two is = absurd (none_made (map shown h) (map (map shown) hs) is)
histories_same inputs once n (h ∷ hs) (k ∷ ks) one two is =
    ap (λ l. l ∷ hs) (entries_same inputs n once h k one.0 two.0 (ap (head_or (map shown h)) is)) ∙ ap (λ l. k ∷ l) (histories_same inputs once (n + 1) hs ks one.1 two.1 (ap tail_of is))

histories_fit : (inputs : Inputs) → IsInputs inputs → IsSetup inputs.setup → (n : ℕ) (h : List (List (Entry Call))) → AllMade inputs n h → AllFitWords h
unfolding AllMade
histories_fit inputs good sized n [] made = tt
histories_fit inputs good sized n (h ∷ hs) made = (entries_fit inputs n good sized h made.0, histories_fit inputs good sized (n + 1) hs made.1)

all_of : (inputs : Inputs) (n : ℕ) (h : List (List (Entry Call))) → ((m : ℕ) → m < length h → AllByRecursion (IsMade inputs (n + m)) (slice_index_or h m [])) → AllMade inputs n h
unfolding AllMade
all_of inputs n [] each = tt
all_of inputs n (h ∷ hs) each = (
  subst (λ k. AllByRecursion (IsMade inputs k) h) (let e : n + 0 ≡ n = omega arith in e) (each 0 (omega arith)),
  all_of inputs (n + 1) hs (λ m below. subst (λ k. AllByRecursion (IsMade inputs k) (slice_index_or hs m [])) (let e : n + suc m ≡ n + 1 + m = omega arith in e) (each (suc m) (omega (arith, below)))),
)

-- each entry of a run's histories was made for an item of a worker
pub run_made : (inputs : Inputs) (lines : List Line) (outs : List (ℕ × Segment)) (h : List (List (Entry Call))) → IsThreadRun inputs lines outs h → (g : ℕ) (d : List (Entry Call)) → g < inputs.setup.shards
    → AllByRecursion (IsMade inputs g) (slice_index_or h g d)
run_made inputs lines outs h run g d below =
    all_made inputs g (slice_index_or h g d) (run.legal g d below) (λ w within. calls_named inputs lines outs h run w g d within below) (λ n who. run.nobody_else n g d who below)

all_runs_made : (inputs : Inputs) (lines : List Line) (outs : List (ℕ × Segment)) (h : List (List (Entry Call))) → IsThreadRun inputs lines outs h → AllMade inputs 0 h
all_runs_made inputs lines outs h run = all_of inputs 0 h (λ m below.
    subst (λ k. AllByRecursion (IsMade inputs k) (slice_index_or h m [])) (let e : m ≡ 0 + m = omega arith in e) (run_made inputs lines outs h run m [] (subst (λ k. m < k) run.shards below)))

pub determined : (inputs : Inputs) → IsInputs inputs → IsSetup inputs.setup → (script : List ℕ) → reading inputs.script.sizes script ≡ Ok inputs.script.lines → (lines lines' : List Line) (outs outs' : List (ℕ × Segment)) (h k : List (List (Entry Call)))
    → IsThreadRun inputs lines outs h → IsThreadRun inputs lines' outs' k → journal_text h ≡ journal_text k → h ≡ k
determined inputs good sized script read lines lines' outs outs' h k one two is =
    let once = script_once inputs.script.sizes script inputs.script.lines read in
    let first = all_runs_made inputs lines outs h one in
    let second = all_runs_made inputs lines' outs' k two in
    histories_same inputs once 0 h k first second (shards_same 0 h k (histories_fit inputs good sized 0 h first) (histories_fit inputs good sized 0 k second) is)
