-- A worker is fed one number after the other.
use Rattle.std.proofs.Common.{◌≡◌, ℕ, zero, suc, ◌+◌, ◌<◌, ◌≤◌, max, min, List, [], ◌∷◌, ◌++◌, length, map, take, get_or, Bool, true, false, Option, Some, None, refl, sym, ◌∙◌, ap, subst, arith}
use Rattle.std.specs.Prelude.{nat_le, is_some, slice_get, slice_index_or, ◌&&◌}
use Rattle.std.specs.List.{filter}
use Rattle.std.specs.Option.{option_map_or}
use Rattle.std.proofs.lemmas.Bool.{false≢true}
use Rattle.std.proofs.lemmas.Grind.{common_steps}
use Rattle.std.proofs.lemmas.List.{length-append, append-nil, length-take-le, take_more, map-append}
use Rattle.seen_lock.proofs.HistoryLemmas.{append_assoc}
use Rattle.bench.specs.Inputs.{IsInputs}
use Rattle.bench.specs.declared.input.inputs.Inputs.{Inputs}
use Rattle.pcap_file.specs.declared.capture.Frame.{Frame}
use Rattle.script_text.specs.declared.line.Line.{Line as ScriptLine}
use Rattle.run_threads.specs.Answered.{Answer}
use Rattle.run_threads.specs.Crews.{IsCrew, CrewDoes}
use Rattle.run_threads.specs.Due.{is_due}
use Rattle.run_threads.specs.Outcomes.{OutcomeView}
use Rattle.run_threads.specs.Seats.{BenchLock, BenchSeat}
use Rattle.run_threads.specs.Served.{is_work, is_record, counted, least_after, IsBlock, AreBlocks, IsServedTo, IsServed, GoesOnServing, if_counts}
use Rattle.run_threads.specs.Work.{numbered}
use Rattle.run_threads.proofs.Crews.{any_default, none_does, both_do}
use Rattle.run_threads.proofs.Work.{numbered_more}

-- ---- numbers
le_true : (a b : ℕ) → a ≤ b → nat_le a b ≡ true
le_true a b h = grind (arith, common_steps)

le_false : (a b : ℕ) → b < a → nat_le a b ≡ false
le_false a b h = grind (arith, common_steps)

and_false : (a : Bool) → (a && false) ≡ false
and_false true = refl
and_false false = refl

next_after : (r least item : ℕ) → min r (max (min r least) (item + 1)) ≡ min r (max least (item + 1))
next_after r least item = grind (arith, common_steps)

some_within : {X : Type 0} (f : X → Bool) (xs : List X) (n : ℕ) → option_map_or f (slice_get xs n) false ≡ true → n < length xs
some_within f [] n is = absurd (false≢true is)
some_within f (x ∷ xs) zero is = omega arith
some_within f (x ∷ xs) (suc n) is = let less = some_within f xs n is in omega (arith, less)

none_beyond : {X : Type 0} (f : X → Bool) (xs : List X) (n : ℕ) → length xs ≤ n → option_map_or f (slice_get xs n) false ≡ false
none_beyond f [] n beyond = refl
none_beyond f (x ∷ xs) zero beyond = absurd (omega (arith, beyond))
none_beyond f (x ∷ xs) (suc n) beyond = none_beyond f xs n (omega (arith, beyond))

there : {X : Type 0} (f : X → Bool) (xs : List X) (n : ℕ) (x : X) → n < length xs → x ≡ slice_index_or xs n x → option_map_or f (slice_get xs n) false ≡ f x
there f [] n x within is = absurd (omega (arith, within))
there f (y ∷ xs) zero x within is = ap f (sym is)
there f (y ∷ xs) (suc n) x within is = there f xs n x (omega (arith, within)) is

-- what lies behind the last record counts in neither
same_test : (r least item : ℕ) → item < r → nat_le (min r least) item ≡ nat_le least item
same_test r least item within = grind (arith, common_steps)

same_counts : (r least item : ℕ) (t : Bool) → (t ≡ true → item < r) → (nat_le (min r least) item && t) ≡ (nat_le least item && t)
same_counts r least item true within = ap (λ (b : Bool). b && true) (same_test r least item (within refl))
same_counts r least item false within = and_false (nat_le (min r least) item) ∙ sym (and_false (nat_le least item))

numbers_one : (item : ℕ) (o : Option OutcomeView) → map (λ (m : ℕ × OutcomeView). m.0) (numbered item (o ∷ [])) ≡ if_counts (is_some o) item
numbers_one item None = refl
numbers_one item (Some outcome) = refl

least_more : (least : ℕ) (taken : List ℕ) (item : ℕ) → least_after least (taken ++ item ∷ []) ≡ max (least_after least taken) (item + 1)
least_more least [] item = refl
least_more least (t ∷ taken) item = least_more (max least (t + 1)) taken item

pub same_place : {X : Type 0} (xs ys : List X) (n : ℕ) (d e : X) → xs ≡ ys → n < length ys → slice_index_or xs n d ≡ slice_index_or ys n e
same_place xs ys n d e same within = ap (λ l. slice_index_or l n d) same ∙ any_default ys n d e within

pub all_records : (inputs : Inputs) → IsInputs inputs → inputs.records ≡ length inputs.frames
all_records inputs are = are.records ∙ sym (ap length are.frames)

module _ (inputs : Inputs) (worker : ℕ) where
  counted_more : (least : ℕ) (taken : List ℕ) (item : ℕ) → counted inputs worker least (taken ++ item ∷ []) ≡ counted inputs worker least taken ++ if_counts (nat_le (least_after least taken) item && is_record inputs worker item) item
  counted_more least [] item = append-nil (if_counts (nat_le least item && is_record inputs worker item) item)
  counted_more least (t ∷ taken) item =
      let first = if_counts (nat_le least t && is_record inputs worker t) t in
      ap (λ (l : List ℕ). first ++ l) (counted_more (max least (t + 1)) taken item)
      ∙ sym (append_assoc first (counted inputs worker (max least (t + 1)) taken) (if_counts (nat_le (least_after (max least (t + 1)) taken) item && is_record inputs worker item) item))

  -- the blocks of one record more
  block_more : (n : ℕ) (frames : List Frame) (outcomes : List (Option OutcomeView)) (frame : Frame) (o : Option OutcomeView) (g : ℕ) (xs ys : List Answer)
      → AreBlocks inputs worker n frames outcomes g xs → IsBlock inputs worker (n + length frames) (filter (is_due (n + length frames)) inputs.script.lines) frame o g ys
      → AreBlocks inputs worker n (frames ++ frame ∷ []) (outcomes ++ o ∷ []) g (xs ++ ys)
  block_more n [] [] frame o g xs ys are one =
      let at : n + 0 ≡ n = omega arith in
      (ys, [], ap (λ l. l ++ ys) are ∙ sym (append-nil ys), subst (λ m. IsBlock inputs worker m (filter (is_due m) inputs.script.lines) frame o g ys) at one, refl)
  block_more n [] (p ∷ outcomes) frame o g xs ys are one = absurd are
  block_more n (f ∷ frames) [] frame o g xs ys are one = absurd are
  block_more n (f ∷ frames) (p ∷ outcomes) frame o g xs ys are one =
      let at : n + suc (length frames) ≡ n + 1 + length frames = omega arith in (
        are.0,
        are.1 ++ ys,
        ap (λ l. l ++ ys) are.2 ∙ append_assoc are.0 are.1 ys,
        are.3,
        block_more (n + 1) frames outcomes frame o g are.1 ys are.4 (subst (λ m. IsBlock inputs worker m (filter (is_due m) inputs.script.lines) frame o g ys) at one),
      )

  module _ (locks : List BenchLock) where
    pub serves_none : (seats : List BenchSeat) (made : List (ℕ × OutcomeView)) (taken : List ℕ) → IsCrew inputs.setup locks seats → made ≡ [] → taken ≡ []
        → IsServedTo inputs worker 0 (counted inputs worker 0 taken) locks seats seats made
    serves_none seats made taken crew nothing none = record {
      outcomes = [];
      many = refl;
      made_are = nothing;
      numbers_are = ap (map (λ (m : ℕ × OutcomeView). m.0)) nothing ∙ sym (ap (counted inputs worker 0) none);
      does = none_does inputs.setup locks seats (AreBlocks inputs worker 0 [] []) crew (λ k. refl);
    }

    pub serves_one : (item : ℕ) (frame : Frame) (lines : List ScriptLine) (o : Option OutcomeView) (taken : Bool) (old new : List BenchSeat) (made made' : List (ℕ × OutcomeView))
        → item < length inputs.frames → frame ≡ slice_index_or inputs.frames item frame → lines ≡ filter (is_due item) inputs.script.lines
        → CrewDoes locks old new (IsBlock inputs worker item lines frame o) → is_some o ≡ (taken && is_work inputs worker item frame) → made' ≡ made ++ numbered item (o ∷ [])
        → GoesOnServing inputs worker item (item + 1) (if_counts (taken && is_record inputs worker item) item) locks old new made made'
    serves_one item frame lines o taken old new made made' within frame_is lines_are one told added base numbers done =
        let frames = inputs.frames in
        let before = take item frames in
        let f = get_or frames item frame in
        let count : length before ≡ item = length-take-le item frames (omega (arith, within)) in
        let at : item ≡ 0 + length before = omega (arith, count) in
        let many = done.many in
        let at' : item ≡ 0 + length done.outcomes = omega (arith, many) in
        let counts : is_some o ≡ (taken && is_record inputs worker item) = told ∙ ap (λ (b : Bool). taken && b) (sym (there (is_work inputs worker item) frames item frame within frame_is)) in
        let exact = subst (λ (x : Frame). CrewDoes locks old new (IsBlock inputs worker item (filter (is_due item) inputs.script.lines) x o)) frame_is
        (subst (λ ls. CrewDoes locks old new (IsBlock inputs worker item ls frame o)) lines_are one) in
        record {
          outcomes = done.outcomes ++ o ∷ [];
          many = length-append done.outcomes (o ∷ []) ∙ ap (λ k. k + 1) done.many;
          made_are = added ∙ ap (λ l. l ++ numbered item (o ∷ [])) done.made_are ∙ ap (λ k. numbered 0 done.outcomes ++ numbered k (o ∷ [])) at' ∙ sym (numbered_more 0 done.outcomes o);
          numbers_are = ap (map (λ (m : ℕ × OutcomeView). m.0)) added
              ∙ map-append (λ (m : ℕ × OutcomeView). m.0) made (numbered item (o ∷ []))
              ∙ ap (λ l. l ++ map (λ (m : ℕ × OutcomeView). m.0) (numbered item (o ∷ []))) done.numbers_are
              ∙ ap (λ l. numbers ++ l) (numbers_one item o ∙ ap (λ b. if_counts b item) counts);
          does = subst (λ fs. CrewDoes locks base new (AreBlocks inputs worker 0 fs (done.outcomes ++ o ∷ []))) (sym (take_more frames item frame within))
              (both_do inputs.setup locks base old new (AreBlocks inputs worker 0 before done.outcomes) (IsBlock inputs worker item (filter (is_due item) inputs.script.lines) f o)
              (AreBlocks inputs worker 0 (before ++ f ∷ []) (done.outcomes ++ o ∷ [])) done.does exact
              (λ k xs ys p q. block_more 0 before done.outcomes f o k xs ys p (subst (λ z. IsBlock inputs worker z (filter (is_due z) inputs.script.lines) f o k ys) at q)));
        }

    -- one after the other
    pub goes_none : (n : ℕ) (seats : List BenchSeat) (made : List (ℕ × OutcomeView)) → GoesOnServing inputs worker n n [] locks seats seats made made
    goes_none n seats made base numbers done = subst (λ l. IsServedTo inputs worker n l locks base seats made) (sym (append-nil numbers)) done

    pub goes_both : (n m k : ℕ) (xs ys : List ℕ) (old mid new : List BenchSeat) (one two three : List (ℕ × OutcomeView))
        → GoesOnServing inputs worker n m xs locks old mid one two → GoesOnServing inputs worker m k ys locks mid new two three → GoesOnServing inputs worker n k (xs ++ ys) locks old new one three
    goes_both n m k xs ys old mid new one two three first second base numbers done =
        subst (λ l. IsServedTo inputs worker k l locks base new three) (append_assoc numbers xs ys) (second base (numbers ++ xs) (first base numbers done))

    pub goes_as : (n m : ℕ) (xs ys : List ℕ) (old new : List BenchSeat) (made made' : List (ℕ × OutcomeView)) → xs ≡ ys
        → GoesOnServing inputs worker n m xs locks old new made made' → GoesOnServing inputs worker n m ys locks old new made made'
    goes_as n m xs ys old new made made' same goes = subst (λ l. GoesOnServing inputs worker n m l locks old new made made') same goes

    -- a number was taken: of a record that was passed, of none, of one that lies ahead
    pub passed : (next item : ℕ) (seats : List BenchSeat) (made : List (ℕ × OutcomeView)) → item < next
        → GoesOnServing inputs worker next next (if_counts (nat_le next item && is_record inputs worker item) item) locks seats seats made made
    passed next item seats made before =
        goes_as next next [] _ seats seats made made (ap (λ b. if_counts (b && is_record inputs worker item) item) (sym (le_false next item before))) (goes_none next seats made)

    pub beyond : (next end item : ℕ) (old new : List BenchSeat) (made made' : List (ℕ × OutcomeView)) → length inputs.frames ≤ item → GoesOnServing inputs worker next end [] locks old new made made'
        → GoesOnServing inputs worker next end (if_counts (nat_le next item && is_record inputs worker item) item) locks old new made made'
    beyond next end item old new made made' far goes =
        goes_as next end [] _ old new made made'
        (ap (λ b. if_counts b item) (sym (ap (λ b. nat_le next item && b) (none_beyond (is_work inputs worker item) inputs.frames item far) ∙ and_false (nat_le next item)))) goes

    pub ahead : (next item : ℕ) (old mid new : List BenchSeat) (one two three : List (ℕ × OutcomeView)) → next ≤ item → GoesOnServing inputs worker next item [] locks old mid one two
        → GoesOnServing inputs worker item (item + 1) (if_counts (true && is_record inputs worker item) item) locks mid new two three
        → GoesOnServing inputs worker next (item + 1) (if_counts (nat_le next item && is_record inputs worker item) item) locks old new one three
    ahead next item old mid new one two three left first second =
        goes_as next (item + 1) _ _ old new one three (ap (λ b. if_counts (b && is_record inputs worker item) item) (sym (le_true next item left)))
        (goes_both next item (item + 1) [] (if_counts (true && is_record inputs worker item) item) old mid new one two three first second)

    -- .. behind those that were taken before
    pub one_taken : (taken taken' : List ℕ) (next to item r : ℕ) (base old new : List BenchSeat) (made made' : List (ℕ × OutcomeView)) → r ≡ length inputs.frames → next ≡ min r (least_after 0 taken)
        → taken' ≡ taken ++ item ∷ [] → GoesOnServing inputs worker next to (if_counts (nat_le next item && is_record inputs worker item) item) locks old new made made'
        → IsServedTo inputs worker next (counted inputs worker 0 taken) locks base old made → IsServedTo inputs worker to (counted inputs worker 0 taken') locks base new made'
    one_taken taken taken' next to item r base old new made made' all next_is last goes done =
        let least = least_after 0 taken in
        let within : is_record inputs worker item ≡ true → item < r = λ is. subst (λ n. item < n) (sym all) (some_within (is_work inputs worker item) inputs.frames item is) in
        let same : (nat_le next item && is_record inputs worker item) ≡ (nat_le least item && is_record inputs worker item) =
        ap (λ n. nat_le n item && is_record inputs worker item) next_is ∙ same_counts r least item (is_record inputs worker item) within in
        subst (λ l. IsServedTo inputs worker to l locks base new made')
        (ap (λ b. counted inputs worker 0 taken ++ if_counts b item) same ∙ sym (counted_more 0 taken item) ∙ sym (ap (counted inputs worker 0) last))
        (goes base (counted inputs worker 0 taken) done)

    pub next_taken : (taken taken' : List ℕ) (next to item r : ℕ) → next ≡ min r (least_after 0 taken) → taken' ≡ taken ++ item ∷ [] → to ≡ min r (max next (item + 1)) → to ≡ min r (least_after 0 taken')
    next_taken taken taken' next to item r next_is last to_is =
        to_is ∙ ap (λ n. min r (max n (item + 1))) next_is ∙ next_after r (least_after 0 taken) item ∙ ap (min r) (sym (least_more 0 taken item)) ∙ sym (ap (λ l. min r (least_after 0 l)) last)

    pub all_taken : (taken taken' : List ℕ) (next r : ℕ) (base old new : List BenchSeat) (made made' : List (ℕ × OutcomeView)) → r ≡ length inputs.frames → taken' ≡ taken ++ []
        → GoesOnServing inputs worker next r [] locks old new made made' → IsServedTo inputs worker next (counted inputs worker 0 taken) locks base old made → IsServed inputs worker taken' locks base new made'
    all_taken taken taken' next r base old new made made' all last goes done =
        subst (λ n. IsServedTo inputs worker n (counted inputs worker 0 taken') locks base new made') all
        (subst (λ l. IsServedTo inputs worker r l locks base new made') (append-nil (counted inputs worker 0 taken) ∙ sym (ap (counted inputs worker 0) (last ∙ append-nil taken)))
        (goes base (counted inputs worker 0 taken) done))
