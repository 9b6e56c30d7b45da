-- The numbers that a worker is fed, one record after the other.
use Rattle.std.proofs.Common.{◌≡◌, ℕ, zero, suc, ◌+◌, ◌<◌, ◌≤◌, max, List, [], ◌∷◌, ◌++◌, length, take, drop, get_or, Bool, true, false, refl, sym, ◌∙◌, ap, subst, arith}
use Rattle.std.specs.Prelude.{nat_le, slice_get, slice_index_or, ◌&&◌, ◌==◌}
use Rattle.std.specs.Option.{option_map_or}
use Rattle.std.proofs.lemmas.Grind.{common_steps}
use Rattle.std.proofs.lemmas.List.{length-take-le, take_more, append-nil}
use Rattle.bench.specs.Prepared.{prepared_of}
use Rattle.bench.specs.declared.input.inputs.Inputs.{Inputs}
use Rattle.job_core.specs.declared.verdict.Verdict.{Verdict}
use Rattle.pcap_file.specs.declared.capture.Frame.{Frame}
use Rattle.seen_lock.proofs.HistoryLemmas.{append_assoc}
use Rattle.run_threads.specs.Feeding.{own_numbers}
use Rattle.run_threads.specs.Owners.{AreOwners}
use Rattle.run_threads.specs.Served.{is_work, is_record, counted, if_counts}
use Rattle.run_threads.specs.declared.owner.Owner.{Owner}
use Rattle.run_threads.specs.declared.owner.Owner.TheVariants.{Nobody, Worker}
use Rattle.run_threads.proofs.Done.{element}
use Rattle.run_threads.proofs.Merging.{owner_tells, nobody_tells, head_or, tail_of}

-- the record with a number that is there
record_at : {X : Type 0} (p : X → Bool) (xs : List X) (n : ℕ) (d : X) → n < length xs → option_map_or p (slice_get xs n) false ≡ p (get_or xs n d)
record_at p [] n d within = absurd (omega (arith, within))
record_at p (x ∷ xs) zero d within = refl
record_at p (x ∷ xs) (suc n) d within = record_at p xs n d (omega (arith, within))

drop_at : {X : Type 0} (p : X → Bool) (xs : List X) (n : ℕ) (x : X) (rest : List X) → x ∷ rest ≡ drop n xs → option_map_or p (slice_get xs n) false ≡ p x
drop_at p [] zero x rest is = absurd (cc)
drop_at p [] (suc n) x rest is = absurd (cc)
drop_at p (y ∷ xs) zero x rest is = ap p (sym (ap (head_or x) is))
drop_at p (y ∷ xs) (suc n) x rest is = drop_at p xs n x rest is

drop_rest : {X : Type 0} (xs : List X) (n : ℕ) (x : X) (rest : List X) → x ∷ rest ≡ drop n xs → rest ≡ drop (suc n) xs
drop_rest [] zero x rest is = absurd (cc)
drop_rest [] (suc n) x rest is = absurd (cc)
drop_rest (y ∷ xs) zero x rest is = ap tail_of is
drop_rest (y ∷ xs) (suc n) x rest is = drop_rest xs n x rest is

le_true : (a b : ℕ) → a ≤ b → nat_le a b ≡ true
le_true a b h = grind (arith, common_steps)

module _ (inputs : Inputs) (worker : ℕ) where
  own_more : (n : ℕ) (frames : List Frame) (f : Frame) → own_numbers inputs worker n (frames ++ f ∷ []) ≡ own_numbers inputs worker n frames ++ if_counts (is_work inputs worker (n + length frames) f) (n + length frames)
  own_more n [] f =
      let at : n ≡ n + 0 = omega arith in
      append-nil (if_counts (is_work inputs worker n f) n) ∙ ap (λ m. if_counts (is_work inputs worker m f) m) at
  own_more n (g ∷ frames) f =
      let first = if_counts (is_work inputs worker n g) n in
      let at : n + 1 + length frames ≡ n + suc (length frames) = omega arith in
      ap (λ l. first ++ l) (own_more (n + 1) frames f ∙ ap (λ m. own_numbers inputs worker (n + 1) frames ++ if_counts (is_work inputs worker m f) m) at)
      ∙ sym (append_assoc first (own_numbers inputs worker (n + 1) frames) (if_counts (is_work inputs worker (n + suc (length frames)) f) (n + suc (length frames))))

  -- the numbers before the next record
  pub own_next : (item : ℕ) → item < length inputs.frames → own_numbers inputs worker 0 (take (item + 1) inputs.frames) ≡ own_numbers inputs worker 0 (take item inputs.frames) ++ if_counts (is_record inputs worker item) item
  own_next item within =
      let frames = inputs.frames in
      let d = element frames item within in
      let f = get_or frames item d in
      let before = take item frames in
      let count : length before ≡ item = length-take-le item frames (omega (arith, within)) in
      let at : 0 + length before ≡ item = omega (arith, count) in
      ap (own_numbers inputs worker 0) (take_more frames item d within)
      ∙ (own_more 0 before f ∙ (ap (λ m. own_numbers inputs worker 0 before ++ if_counts (is_work inputs worker m f) m) at
      ∙ ap (λ b. own_numbers inputs worker 0 before ++ if_counts b item) (sym (record_at (is_work inputs worker item) frames item d within))))

  -- .. where it is the worker's, and where it is not
  pub own_added : (item : ℕ) → item < length inputs.frames → is_record inputs worker item ≡ true → own_numbers inputs worker 0 (take (item + 1) inputs.frames) ≡ own_numbers inputs worker 0 (take item inputs.frames) ++ item ∷ []
  own_added item within own = own_next item within ∙ ap (λ b. own_numbers inputs worker 0 (take item inputs.frames) ++ if_counts b item) own

  pub own_same : (item : ℕ) → item < length inputs.frames → is_record inputs worker item ≡ false → own_numbers inputs worker 0 (take (item + 1) inputs.frames) ≡ own_numbers inputs worker 0 (take item inputs.frames)
  own_same item within other = own_next item within ∙ (ap (λ b. own_numbers inputs worker 0 (take item inputs.frames) ++ if_counts b item) other ∙ append-nil (own_numbers inputs worker 0 (take item inputs.frames)))

  -- ---- all of them count
  counted_first : (least n : ℕ) (b : Bool) (rest : List ℕ) → least ≤ n → is_record inputs worker n ≡ b → counted inputs worker (max least (n + 1)) rest ≡ rest → counted inputs worker least rest ≡ rest → counted inputs worker least (if_counts b n ++ rest) ≡ if_counts b n ++ rest
  counted_first least n true rest low own taken passed =
      ap (λ t. if_counts (t && is_record inputs worker n) n ++ counted inputs worker (max least (n + 1)) rest) (le_true least n low)
      ∙ (ap (λ t. if_counts t n ++ counted inputs worker (max least (n + 1)) rest) own ∙ ap (λ l. n ∷ l) taken)
  counted_first least n false rest low own taken passed = passed

  counted_from : (least n : ℕ) (frames : List Frame) → least ≤ n → frames ≡ drop n inputs.frames → counted inputs worker least (own_numbers inputs worker n frames) ≡ own_numbers inputs worker n frames
  counted_from least n [] low are = refl
  counted_from least n (f ∷ frames) low are =
      let own = drop_at (is_work inputs worker n) inputs.frames n f frames are in
      let next : suc n ≡ n + 1 = omega arith in
      let rest = subst (λ k. frames ≡ drop k inputs.frames) next (drop_rest inputs.frames n f frames are) in
      counted_first least n (is_work inputs worker n f) (own_numbers inputs worker (n + 1) frames) low own
      (counted_from (max least (n + 1)) (n + 1) frames (omega (arith, low)) rest) (counted_from least (n + 1) frames (omega (arith, low)) rest)

  pub counted_own : counted inputs worker 0 (own_numbers inputs worker 0 inputs.frames) ≡ own_numbers inputs worker 0 inputs.frames
  counted_own = counted_from 0 0 inputs.frames (omega arith) refl

-- ---- whose the next record is
module _ (inputs : Inputs) (owners : List Owner) (are : AreOwners inputs inputs.frames owners) (item : ℕ) (within : item < length inputs.frames) where
  pub worker_owns : (w i : ℕ) (who : Owner) → Worker i ≡ slice_index_or owners item who → is_record inputs w item ≡ (i == w)
  worker_owns w i who is =
      let d = element inputs.frames item within in
      let own : is_record inputs w item ≡ is_work inputs w item (slice_index_or inputs.frames item d) = record_at (is_work inputs w item) inputs.frames item d within in
      own ∙ owner_tells w (prepared_of inputs item (slice_index_or inputs.frames item d)) i (is ∙ are.which item who d within)

  pub nobody_owns : (w : ℕ) (v : Verdict) (who : Owner) → Nobody v ≡ slice_index_or owners item who → is_record inputs w item ≡ false
  nobody_owns w v who is =
      let d = element inputs.frames item within in
      let own : is_record inputs w item ≡ is_work inputs w item (slice_index_or inputs.frames item d) = record_at (is_work inputs w item) inputs.frames item d within in
      own ∙ nobody_tells w (prepared_of inputs item (slice_index_or inputs.frames item d)) v (is ∙ are.which item who d within)
