-- One record more is put into the list, from the last one on.
use Rattle.std.proofs.Common.{◌≡◌, ◌≢◌, ℕ, zero, suc, ◌+◌, ◌-◌, ◌*◌, ◌<◌, ◌≤◌, true, false, List, [], ◌∷◌, ◌++◌, length, map, reverse, take, drop, Option, Some, None, refl, sym, ◌∙◌, ap, subst, arith, ⊎_elim, eq-eqb, ne_eqb}
use Rattle.std.specs.Prelude.{slice_index_or, is_some, ◌==◌}
use Rattle.std.proofs.lemmas.Bool.{false≢true}
use Rattle.std.proofs.lemmas.List.{length-append, length-map, length-reverse, reverse-append, append-nil}
use Rattle.bench.specs.Prepared.{prepared_of}
use Rattle.bench.specs.declared.input.inputs.Inputs.{Inputs}
use Rattle.bench.specs.declared.input.line.Line.{Line}
use Rattle.bench.specs.declared.input.prepared.Prepared.{Prepared}
use Rattle.bench.specs.declared.input.prepared.Prepared.TheVariants.{Ended, Work}
use Rattle.job_core.specs.declared.verdict.Verdict.{Verdict}
use Rattle.pcap_file.specs.declared.capture.Frame.{Frame}
use Rattle.tcp_segment.specs.declared.segment.Segment.{Segment}
use Rattle.run_threads.specs.Items.{ended, instance_of, line_of}
use Rattle.run_threads.specs.Outcomes.{OutcomeView}
use Rattle.run_threads.specs.Owners.{owner_of}
use Rattle.run_threads.specs.Run.{outs_of, made_at, Shares, IsMade, AreMade, IsOutcome, AreOutcomes, AreMerged, AreGathered}
use Rattle.run_threads.specs.Sent.{TakesLast, numbered_outs}
use Rattle.run_threads.specs.Served.{is_instance, is_work}
use Rattle.run_threads.specs.Work.{numbered}
use Rattle.run_threads.specs.declared.owner.Owner.{Owner}
use Rattle.run_threads.specs.declared.owner.Owner.TheVariants.{Nobody, Worker}
use Rattle.run_threads.proofs.Crews.{any_default, same_or_not}

-- a segment, and the number of its record
abbrev pub SentFor : Type 0
SentFor = ℕ × Segment

-- an outcome, and the number of its record
abbrev pub Told : Type 0
Told = ℕ × OutcomeView

-- ---- lists
take_long : {X : Type 0} (n : ℕ) (xs : List X) → n ≡ length xs → take n xs ≡ xs
take_long zero [] is = refl
take_long zero (x ∷ xs) is = absurd (omega (arith, is))
take_long (suc n) [] is = refl
take_long (suc n) (x ∷ xs) is = ap (λ l. x ∷ l) (take_long n xs (omega (arith, is)))

drop_long : {X : Type 0} (n : ℕ) (xs : List X) → n ≡ length xs → drop n xs ≡ []
drop_long zero [] is = refl
drop_long zero (x ∷ xs) is = absurd (omega (arith, is))
drop_long (suc n) [] is = refl
drop_long (suc n) (x ∷ xs) is = drop_long n xs (omega (arith, is))

abbrev pub head_or : {X : Type 0} → X → List X → X
head_or d [] = d
head_or d (x ∷ xs) = x

abbrev pub tail_of : {X : Type 0} → List X → List X
tail_of [] = []
tail_of (x ∷ xs) = xs

last_same : {X : Type 0} (xs ys : List X) (x y : X) → xs ++ x ∷ [] ≡ ys ++ y ∷ [] → (xs ≡ ys) × (x ≡ y)
last_same [] [] x y is = (refl, ap (head_or x) is)
last_same [] (y' ∷ ys) x y is =
    let long = ap length is in
    let more = length-append ys (y ∷ []) in absurd (omega (arith, long, more))
last_same (x' ∷ xs) [] x y is =
    let long = ap length is in
    let more = length-append xs (x ∷ []) in absurd (omega (arith, long, more))
last_same (x' ∷ xs) (y' ∷ ys) x y is =
    let rest = last_same xs ys x y (ap tail_of is) in
    (ap (λ z. z ∷ xs) (ap (head_or x') is) ∙ ap (λ l. y' ∷ l) rest.0, rest.1)

none_is : (o : Option OutcomeView) → is_some o ≡ false → o ≡ None
none_is None not = refl
none_is (Some r) not = absurd (false≢true (sym not))

some_is : (o : Option OutcomeView) → is_some o ≡ true → (r : OutcomeView) × (o ≡ Some r)
some_is None told = absurd (false≢true told)
some_is (Some r) told = (r, refl)

-- ---- whose a record is
abbrev verdict_or : Verdict → Owner → Verdict
verdict_or d (Nobody v) = v
verdict_or d (Worker i) = d

abbrev worker_or : ℕ → Owner → ℕ
worker_or d (Nobody v) = d
worker_or d (Worker i) = i

-- nobody's: no worker tells of it
pub nobody_tells : (w : ℕ) (p : Prepared) (v : Verdict) → Nobody v ≡ owner_of p → is_instance w (instance_of p) ≡ false
nobody_tells w (Ended u) v is = refl
nobody_tells w (Work a s i g) v is = absurd (cc)

ended_so : (w : ℕ) (p : Prepared) (v : Verdict) (o : Option OutcomeView) → Nobody v ≡ owner_of p → IsOutcome w p o (ended v)
ended_so w (Ended u) v o is = ap (λ x. ended (verdict_or v x)) is
ended_so w (Work a s i g) v o is = absurd (cc)

-- a worker's: this one tells of it, and no other
pub owner_tells : (w : ℕ) (p : Prepared) (i : ℕ) → Worker i ≡ owner_of p → is_instance w (instance_of p) ≡ (i == w)
owner_tells w (Ended u) i is = absurd (cc)
owner_tells w (Work a s j g) i is = ap (λ x. worker_or i x == w) (sym is)

handled_so : (w : ℕ) (p : Prepared) (i : ℕ) (o : Option OutcomeView) (r : OutcomeView) → Worker i ≡ owner_of p → (i ≡ w → o ≡ Some r) → IsOutcome w p o r
handled_so w (Ended u) i o r is told = absurd (cc)
handled_so w (Work a s j g) i o r is told = λ same. told (ap (worker_or i) is ∙ same)

-- ---- one worker
module _ (inputs : Inputs) (worker : ℕ) where
  pub shares_long : (n : ℕ) (frames : List Frame) (outcomes : List (Option OutcomeView)) → Shares inputs worker n frames outcomes → length outcomes ≡ length frames
  shares_long n [] [] shares = refl
  shares_long n [] (o ∷ outcomes) shares = absurd shares
  shares_long n (f ∷ frames) [] shares = absurd shares
  shares_long n (f ∷ frames) (o ∷ outcomes) shares = ap suc (shares_long (n + 1) frames outcomes shares.1)

  -- what the worker tells of the record with number k + n
  record Share (k n at : ℕ) (frames : List Frame) (outcomes : List (Option OutcomeView)) (f : Frame) : Type 0 where
    told : Option OutcomeView
    frames_are : drop n frames ≡ f ∷ drop (suc n) frames
    outcomes_are : drop n outcomes ≡ told ∷ drop (suc n) outcomes
    numbers_are : numbered k (take (suc n) outcomes) ≡ numbered k (take n outcomes) ++ numbered at (told ∷ [])
    share : is_some told ≡ is_work inputs worker at f

  numbered_more : (k at : ℕ) (o : Option OutcomeView) (xs ys zs : List (Option OutcomeView)) → numbered (k + 1) xs ≡ numbered (k + 1) ys ++ numbered at zs → numbered k (o ∷ xs) ≡ numbered k (o ∷ ys) ++ numbered at zs
  numbered_more k at None xs ys zs is = is
  numbered_more k at (Some o) xs ys zs is = ap (λ l. (k, o) ∷ l) is

  share_at : (k n at : ℕ) (frames : List Frame) (outcomes : List (Option OutcomeView)) (f : Frame) → at ≡ k + n → n < length frames → slice_index_or frames n f ≡ f → Shares inputs worker k frames outcomes → Share k n at frames outcomes f
  share_at k n at [] outcomes f is within here shares = absurd (omega (arith, within))
  share_at k n at (g ∷ frames) [] f is within here shares = absurd shares
  share_at k zero at (g ∷ frames) (o ∷ outcomes) f is within here shares =
      let same : k ≡ at = omega (arith, is) in record {
        told = o;
        frames_are = ap (λ (x : Frame). x ∷ frames) here;
        outcomes_are = refl;
        numbers_are = ap (λ n. numbered n (o ∷ [])) same;
        share = shares.0 ∙ (ap (λ n. is_work inputs worker n g) same ∙ ap (is_work inputs worker at) here);
      }
  share_at k (suc n) at (g ∷ frames) (o ∷ outcomes) f is within here shares =
      let s = share_at (k + 1) n at frames outcomes f (omega (arith, is)) (omega (arith, within)) here shares.1 in record {
        told = s.told;
        frames_are = s.frames_are;
        outcomes_are = s.outcomes_are;
        numbers_are = numbered_more k at o (take (suc n) outcomes) (take n outcomes) (s.told ∷ []) s.numbers_are;
        share = s.share;
      }

  -- of the records before the n-th all that the worker made is still there, and the others are in the list
  pub record IsCut (frames : List Frame) (n : ℕ) (made : List Told) (outcomes : List (Option OutcomeView)) (results : List OutcomeView) : Type 0 where
    pub left : made ≡ numbered 0 (take n outcomes)
    pub agrees : AreOutcomes inputs worker n (drop n frames) (drop n outcomes) results

  agrees_more : (n : ℕ) (frames : List Frame) (outcomes : List (Option OutcomeView)) (results : List OutcomeView) (f : Frame) (o : Option OutcomeView) (r : OutcomeView) → drop n frames ≡ f ∷ drop (suc n) frames → drop n outcomes ≡ o ∷ drop (suc n) outcomes
      → IsOutcome worker (prepared_of inputs n f) o r → AreOutcomes inputs worker (suc n) (drop (suc n) frames) (drop (suc n) outcomes) results → AreOutcomes inputs worker n (drop n frames) (drop n outcomes) (r ∷ results)
  agrees_more n frames outcomes results f o r frames_are outcomes_are one agrees =
      subst (λ fs. AreOutcomes inputs worker n fs (drop n outcomes) (r ∷ results)) (sym frames_are)
      (subst (λ os. AreOutcomes inputs worker n (f ∷ drop (suc n) frames) os (r ∷ results)) (sym outcomes_are)
      (one, subst (λ k. AreOutcomes inputs worker k (drop (suc n) frames) (drop (suc n) outcomes) results) (let e : suc n ≡ n + 1 = omega arith in e) agrees))

  -- the worker does not tell of the record
  not_mine : (n : ℕ) (frames : List Frame) (made : List Told) (outcomes : List (Option OutcomeView)) (results : List OutcomeView) (f : Frame) (o : Option OutcomeView) (r : OutcomeView) → drop n frames ≡ f ∷ drop (suc n) frames → drop n outcomes ≡ o ∷ drop (suc n) outcomes
      → numbered 0 (take (suc n) outcomes) ≡ numbered 0 (take n outcomes) ++ numbered n (o ∷ []) → o ≡ None
      → IsOutcome worker (prepared_of inputs n f) o r → IsCut frames (suc n) made outcomes results → IsCut frames n made outcomes (r ∷ results)
  not_mine n frames made outcomes results f o r frames_are outcomes_are numbers_are none one cut = record {
    left = cut.left ∙ (numbers_are ∙ (ap (λ x. numbered 0 (take n outcomes) ++ numbered n (x ∷ [])) none ∙ append-nil (numbered 0 (take n outcomes))));
    agrees = agrees_more n frames outcomes results f o r frames_are outcomes_are one cut.agrees;
  }

  -- the record stands last in what the worker made
  ends_so : (n : ℕ) (frames : List Frame) (made : List Told) (outcomes : List (Option OutcomeView)) (results : List OutcomeView) (o : Option OutcomeView) (r : OutcomeView)
      → numbered 0 (take (suc n) outcomes) ≡ numbered 0 (take n outcomes) ++ numbered n (o ∷ []) → o ≡ Some r → IsCut frames (suc n) made outcomes results → made ≡ numbered 0 (take n outcomes) ++ (n, r) ∷ []
  ends_so n frames made outcomes results o r numbers_are some cut = cut.left ∙ (numbers_are ∙ ap (λ x. numbered 0 (take n outcomes) ++ numbered n (x ∷ [])) some)

  -- .. and was taken out of it
  mine : (n : ℕ) (frames : List Frame) (made now : List Told) (outcomes : List (Option OutcomeView)) (results : List OutcomeView) (f : Frame) (o : Option OutcomeView) (r : OutcomeView) (last : Told) → drop n frames ≡ f ∷ drop (suc n) frames → drop n outcomes ≡ o ∷ drop (suc n) outcomes
      → numbered 0 (take (suc n) outcomes) ≡ numbered 0 (take n outcomes) ++ numbered n (o ∷ []) → o ≡ Some r → made ≡ now ++ last ∷ []
      → (o ≡ Some last.1 → IsOutcome worker (prepared_of inputs n f) o last.1) → IsCut frames (suc n) made outcomes results → IsCut frames n now outcomes (last.1 ∷ results)
  mine n frames made now outcomes results f o r last frames_are outcomes_are numbers_are some split one cut =
      let same = last_same now (numbered 0 (take n outcomes)) last (n, r) (sym split ∙ ends_so n frames made outcomes results o r numbers_are some cut) in record {
        left = same.0;
        agrees = agrees_more n frames outcomes results f o last.1 frames_are outcomes_are (one (some ∙ ap (λ (t : Told). Some t.1) (sym same.1))) cut.agrees;
      }

-- ---- all workers
module _ (inputs : Inputs) (frames : List Frame) (all : List (List Told)) where
  -- the records from the n-th on were put into the list
  pub record IsLeft (now : List (List Told)) (n : ℕ) (results : List OutcomeView) : Type 0 where
    pub many : length now ≡ inputs.setup.instances
    pub cuts : (worker : ℕ) (d : List Told) (outcomes : List (Option OutcomeView)) → worker < inputs.setup.instances → IsMade inputs worker frames (made_at inputs all worker d) outcomes
        → IsCut inputs worker frames n (made_at inputs now worker d) outcomes results

  none_left : AreMade inputs frames all → IsLeft all (length frames) []
  none_left are = record {
    many = are.many;
    cuts = λ w d outcomes within made.
        let long = sym (shares_long inputs w 0 frames outcomes made.1) in record {
          left = made.0 ∙ ap (numbered 0) (sym (take_long (length frames) outcomes long));
          agrees = subst (λ fs. AreOutcomes inputs w (length frames) fs (drop (length frames) outcomes) []) (sym (drop_long (length frames) frames refl))
              (subst (λ os. AreOutcomes inputs w (length frames) [] os []) (sym (drop_long (length frames) outcomes long)) tt);
        };
  }

  all_merged : (now : List (List Told)) (n : ℕ) (results : List OutcomeView) → n ≡ 0 → IsLeft now n results → AreMerged inputs frames all results
  all_merged now n results none is w d outcomes within made = subst (λ k. AreOutcomes inputs w k (drop k frames) (drop k outcomes) results) none (is.cuts w d outcomes within made).agrees

  -- ---- what was taken out
  -- the lines of the records from the n-th on, and what is sent for them, the last record's line and its last segment first
  pub record IsTaken (now : List (List Told)) (n : ℕ) (lines : List Line) (sent : List SentFor) : Type 0 where
    pub results : List OutcomeView
    pub count : length results + n ≡ length frames
    pub line : lines ≡ reverse (map (λ (o : OutcomeView). o.line) results)
    pub out : sent ≡ reverse (outs_of n results)
    pub few : length sent ≤ 11 * length results
    pub left : IsLeft now n results

  pub none_taken : AreMade inputs frames all → (n : ℕ) (lines : List Line) (sent : List SentFor) → n ≡ length frames → lines ≡ [] → sent ≡ [] → IsTaken all n lines sent
  none_taken are n lines sent whole no_lines none_sent = record {
    results = [];
    count = omega (arith, whole);
    line = no_lines;
    out = none_sent;
    few = let long = ap length none_sent in omega (arith, long);
    left = subst (λ k. IsLeft all k []) (sym whole) (none_left are);
  }

  pub all_taken : (now : List (List Told)) (n : ℕ) (lines : List Line) (sent : List SentFor) → n ≡ 0 → IsTaken now n lines sent → AreGathered inputs frames all lines sent
  all_taken now n lines sent none taken =
      let count = taken.count in
      let few = taken.few in
      let many : length taken.results ≡ length frames = omega (arith, count, none) in record {
        outcomes = taken.results;
        count = many;
        line = taken.line;
        sent = subst (λ k. sent ≡ reverse (outs_of k taken.results)) none taken.out;
        few = omega (arith, few, many);
        merged = all_merged now n taken.results none taken.left;
      }

  -- the record with number n is next
  module _ (now : List (List Told)) (n m : ℕ) (who : Owner) (lines : List Line) (sent : List SentFor) (d : Frame) (next : m ≡ suc n) (within : n < length frames)
      (which : who ≡ owner_of (prepared_of inputs n (slice_index_or frames n d))) (taken : IsTaken now m lines sent) where
    abbrev frame : Frame
    frame = slice_index_or frames n d

    here : slice_index_or frames n frame ≡ frame
    here = any_default frames n frame d within

    left_is : IsLeft now (suc n) taken.results
    left_is = subst (λ k. IsLeft now k taken.results) next taken.left

    -- it becomes this of it, and this list is what is left
    taken_one : (new : List (List Told)) (r : OutcomeView) (lines' : List Line) (sent' : List SentFor) (line : Line) → line ≡ r.line → sent' ≡ sent ++ reverse (numbered_outs n r.outs) → length r.outs ≤ 11 → lines' ≡ lines ++ line ∷ []
        → IsLeft new n (r ∷ taken.results) → IsTaken new n lines' sent'
    taken_one new r lines' sent' line line_is added own pushed left =
        let results = taken.results in
        let count = taken.count in
        let few = taken.few in
        let outs : List SentFor = numbered_outs n r.outs in
        let long = ap length added ∙ (length-append sent (reverse outs) ∙ ap (λ k. length sent + k) (length-reverse outs ∙ length-map r.outs (λ out. (n, out)))) in
        let at : m ≡ n + 1 = omega (arith, next) in record {
          results = r ∷ results;
          count = omega (arith, count, next);
          line = pushed ∙ (ap (λ l. l ++ line ∷ []) taken.line ∙ (ap (λ (x : Line). reverse (map (λ (o : OutcomeView). o.line) results) ++ x ∷ []) line_is
              ∙ sym (reverse-append (r.line ∷ []) (map (λ (o : OutcomeView). o.line) results))));
          out = added ∙ (ap (λ l. l ++ reverse outs) (taken.out ∙ ap (λ k. reverse (outs_of k results)) at) ∙ sym (reverse-append outs (outs_of (n + 1) results)));
          few = omega (arith, long, few, own);
          left = left;
        }

    -- nobody's
    pub taken_verdict : (v : Verdict) (lines' : List Line) → who ≡ Nobody v → lines' ≡ lines ++ line_of None v ∷ [] → IsTaken now n lines' sent
    taken_verdict v lines' who_is pushed =
        let is = sym who_is ∙ which in
        taken_one now (ended v) lines' sent (line_of None v) refl (sym (append-nil sent)) (omega arith) pushed record {
          many = left_is.many;
          cuts = λ w e outcomes below made.
              let s = share_at inputs w 0 n n frames outcomes frame (omega arith) within here made.1 in
              not_mine inputs w n frames (made_at inputs now w e) outcomes taken.results frame s.told (ended v) s.frames_are s.outcomes_are s.numbers_are
              (none_is s.told (s.share ∙ nobody_tells w (prepared_of inputs n frame) v is)) (ended_so w (prepared_of inputs n frame) v s.told is) (left_is.cuts w e outcomes below made);
        }

    -- a worker's, which has its place
    module _ (i place : ℕ) (who_is : who ≡ Worker i) (there : i < inputs.setup.instances) (place_is : place ≡ inputs.setup.instances - 1 - i) (are : AreMade inputs frames all) where
      is_its : Worker i ≡ owner_of (prepared_of inputs n frame)
      is_its = sym who_is ∙ which

      pub place_there : place < length now
      place_there = let many = left_is.many in omega (arith, many, place_is, there)

      mine_told : (w : ℕ) (o : Option OutcomeView) → is_some o ≡ is_work inputs w n frame → i ≡ w → is_some o ≡ true
      mine_told w o share same = share ∙ (owner_tells w (prepared_of inputs n frame) i is_its ∙ eq-eqb i w same)

      other_told : (w : ℕ) (o : Option OutcomeView) → is_some o ≡ is_work inputs w n frame → i ≢ w → o ≡ None
      other_told w o share apart = none_is o (share ∙ (owner_tells w (prepared_of inputs n frame) i is_its ∙ ne_eqb i w apart))

      -- there is something at its place
      pub some_made : (t : List Told) → 0 < length (slice_index_or now place t)
      some_made t =
          let one = are.each i t there in
          let s = share_at inputs i 0 n n frames one.0 frame (omega arith) within here one.1.1 in
          let some = some_is s.told (mine_told i s.told s.share refl) in
          let long = ap length (ends_so inputs i n frames (made_at inputs now i t) one.0 taken.results s.told some.0 s.numbers_are some.1 (left_is.cuts i t one.0 there one.1)) ∙ length-append (numbered 0 (take n one.0)) ((n, some.0) ∷ []) in
          subst (λ k. 0 < length (slice_index_or now k t)) (sym place_is) (omega (arith, long))

      module _ (new : List (List Told)) (sent' : List SentFor) (line : Line) (many : length new ≡ length now) (others : (k : ℕ) (t : List Told) → k ≢ place → slice_index_or new k t ≡ slice_index_or now k t)
          (e : List Told) (took : TakesLast (slice_index_or now place e) (slice_index_or new place e) sent sent' line) where
        -- what was taken has the record's number
        its_number : took.last.0 ≡ n
        its_number =
            let one = are.each i e there in
            let s = share_at inputs i 0 n n frames one.0 frame (omega arith) within here one.1.1 in
            let some = some_is s.told (mine_told i s.told s.share refl) in
            let ends = ends_so inputs i n frames (made_at inputs now i e) one.0 taken.results s.told some.0 s.numbers_are some.1 (left_is.cuts i e one.0 there one.1) in
            ap (λ (x : Told). x.0) (last_same (slice_index_or new place e) (numbered 0 (take n one.0)) took.last (n, some.0) (sym took.split ∙ (ap (λ k. slice_index_or now k e) place_is ∙ ends))).1

        same_split : (t : List Told) → slice_index_or now place t ≡ slice_index_or new place t ++ took.last ∷ []
        same_split t =
            any_default now place t e place_there ∙ (took.split ∙ ap (λ l. l ++ took.last ∷ []) (any_default new place e t (subst (λ k. place < k) (sym many) place_there)))

        -- the record was taken out of what its worker made
        pub taken_made : (lines' : List Line) → lines' ≡ lines ++ line ∷ [] → IsTaken new n lines' sent'
        taken_made lines' pushed =
            taken_one new took.last.1 lines' sent' line took.line_is (took.added ∙ ap (λ k. sent ++ reverse (numbered_outs k took.last.1.outs)) its_number) took.few pushed record {
              many = many ∙ left_is.many;
              cuts = λ w d' outcomes below made.
                  let s = share_at inputs w 0 n n frames outcomes frame (omega arith) within here made.1 in
                  let cut = left_is.cuts w d' outcomes below made in
                  let at = inputs.setup.instances - 1 - w in
                  ⊎_elim
                  (λ same. let some = some_is s.told (mine_told w s.told s.share same) in
                  let placed : place ≡ at = place_is ∙ ap (λ k. inputs.setup.instances - 1 - k) same in
                  mine inputs w n frames (slice_index_or now at d') (slice_index_or new at d') outcomes taken.results frame s.told some.0 took.last s.frames_are s.outcomes_are s.numbers_are some.1
                  (subst (λ k. slice_index_or now k d' ≡ slice_index_or new k d' ++ took.last ∷ []) placed (same_split d')) (λ is. handled_so w (prepared_of inputs n frame) i s.told took.last.1 is_its (λ q. is)) cut)
                  (λ apart. subst (λ (t : List Told). IsCut inputs w frames n t outcomes (took.last.1 ∷ taken.results)) (sym (others at d' (λ q. apart (let r : i ≡ w = omega (arith, q, place_is, there, below) in r))))
                  (not_mine inputs w n frames (slice_index_or now at d') outcomes taken.results frame s.told took.last.1 s.frames_are s.outcomes_are s.numbers_are
                  (other_told w s.told s.share apart) (handled_so w (prepared_of inputs n frame) i s.told took.last.1 is_its (λ same. absurd (apart same))) cut))
                  (same_or_not i w);
            }
