-- What workers made, put in the order of records: the blocks of a worker are its items.
use Rattle.std.proofs.Common.{◌≡◌, ◌≢◌, ℕ, suc, ◌+◌, ◌≤◌, List, [], ◌∷◌, ◌++◌, length, map, Bool, true, false, true≢false, Option, Some, None, refl, sym, ◌∙◌, ap, subst, arith, ⊎_elim, eq-eqb, ne_eqb, eqb-true}
use Rattle.std.specs.Prelude.{if◌then◌else◌, ◌==◌, is_some}
use Rattle.std.specs.List.{AllByRecursion, filter}
use Rattle.std.proofs.lemmas.Option.{same_Some}
use Rattle.bench.specs.Blocks.{crash_after}
use Rattle.bench.specs.Prepared.{prepared_of}
use Rattle.bench.specs.declared.input.inputs.Inputs.{Inputs}
use Rattle.bench.specs.declared.input.prepared.Prepared.{Prepared}
use Rattle.bench.specs.declared.input.prepared.Prepared.TheVariants.{Ended, Work}
use Rattle.pcap_file.specs.declared.capture.Frame.{Frame}
use Rattle.rule_table.specs.Setups.{SetupView}
use Rattle.script_text.specs.declared.line.Line.{Line as ScriptLine}
use Rattle.run_threads.specs.Answered.{Answer}
use Rattle.run_threads.specs.Due.{is_due}
use Rattle.run_threads.specs.Feeding.{own_numbers}
use Rattle.run_threads.specs.Items.{IsPassed, IsOwn, IsDone, IsItem, instance_of, owner_by, owner}
use Rattle.run_threads.specs.Outcomes.{OutcomeView}
use Rattle.run_threads.specs.Run.{told_by, Shares, IsOutcome, AreOutcomes}
use Rattle.run_threads.specs.Served.{is_instance, is_work, if_counts, IsHandledOrPassed, IsBlock, AreBlocks}
use Rattle.run_threads.specs.Work.{AreItems, numbered}
use Rattle.run_threads.proofs.Crews.{same_or_not}
use Rattle.run_threads.proofs.Merging.{tail_of}

-- ---- one record
-- what is done at a record that is to be prepared so, where this is told of it, by a worker that is fed, and as one of its items
abbrev HandledBy : SetupView → ℕ → ℕ → Prepared → Option ℕ → Option OutcomeView → ℕ → List Answer → Type 0
HandledBy setup worker item p after None shard answers = IsPassed setup worker after shard answers
HandledBy setup worker item p after (Some outcome) shard answers = IsOwn setup worker item p after outcome shard answers

abbrev DoneBy : SetupView → ℕ → ℕ → Prepared → Option ℕ → Option OutcomeView → ℕ → List Answer → Type 0
DoneBy setup worker item p after None shard answers = (owner_by setup item (instance_of p) ≢ worker) × IsPassed setup worker after shard answers
DoneBy setup worker item p after (Some outcome) shard answers = (owner_by setup item (instance_of p) ≡ worker) × IsOwn setup worker item p after outcome shard answers

-- what holds of the one that a test chooses
chosen : (P : Option OutcomeView → Type 0) (t : Bool) (r : OutcomeView) → t ≡ true → P (Some r) → P (if t then Some r else None)
chosen P t r is p = subst (λ x. P (if x then Some r else None)) (sym is) p

not_chosen : (P : Option OutcomeView → Type 0) (t : Bool) (r : OutcomeView) → t ≡ false → P None → P (if t then Some r else None)
not_chosen P t r is p = subst (λ x. P (if x then Some r else None)) (sym is) p

module _ (setup : SetupView) (worker item : ℕ) (after : Option ℕ) (g : ℕ) (xs : List Answer) where
  done_by : (p : Prepared) (o : Option OutcomeView) (r : OutcomeView) → is_some o ≡ is_instance worker (instance_of p) → IsOutcome worker p o r → HandledBy setup worker item p after o g xs
      → DoneBy setup worker item p after (if owner_by setup item (instance_of p) == worker then Some r else None) g xs
  done_by (Ended v) None r share one handled =
      let who = owner_by setup item None in
      let P = λ (o : Option OutcomeView). DoneBy setup worker item (Ended v) after o g xs in
      ⊎_elim (λ same. chosen P (who == worker) r (eq-eqb who worker same) (same, (one, handled)))
      (λ apart. not_chosen P (who == worker) r (ne_eqb who worker apart) (apart, handled)) (same_or_not who worker)
  done_by (Ended v) (Some x) r share one handled = absurd (true≢false share)
  done_by (Work a s i h) None r share one handled =
      not_chosen (λ (o : Option OutcomeView). DoneBy setup worker item (Work a s i h) after o g xs) (i == worker) r (sym share)
      ((λ same. true≢false (sym (eq-eqb i worker same) ∙ sym share)), handled)
  done_by (Work a s i h) (Some x) r share one handled =
      let same = eqb-true i worker (sym share) in
      chosen (λ (o : Option OutcomeView). DoneBy setup worker item (Work a s i h) after o g xs) (i == worker) r (sym share)
      (same, subst (λ z. IsOwn setup worker item (Work a s i h) after z g xs) (same_Some x r (one same)) handled)

module _ (inputs : Inputs) (worker : ℕ) where
  handled_by : (n : ℕ) (lines : List ScriptLine) (f : Frame) (o : Option OutcomeView) (g : ℕ) (xs : List Answer) → IsHandledOrPassed inputs worker n lines f o g xs
      → HandledBy inputs.setup worker n (prepared_of inputs n f) (crash_after lines worker n) o g xs
  handled_by n lines f None g xs handled = handled
  handled_by n lines f (Some r) g xs handled = handled

  is_done : (n : ℕ) (lines : List ScriptLine) (f : Frame) (o : Option OutcomeView) (g : ℕ) (xs : List Answer)
      → DoneBy inputs.setup worker n (prepared_of inputs n f) (crash_after lines worker n) o g xs → IsDone inputs worker n lines f o g xs
  is_done n lines f None g xs done = done
  is_done n lines f (Some r) g xs done = done

  block_item : (n : ℕ) (lines : List ScriptLine) (f : Frame) (o : Option OutcomeView) (r : OutcomeView) (g : ℕ) (xs : List Answer) → is_some o ≡ is_work inputs worker n f → IsOutcome worker (prepared_of inputs n f) o r
      → IsBlock inputs worker n lines f o g xs → IsItem inputs worker n lines f (if owner inputs n f == worker then Some r else None) g xs
  block_item n lines f o r g xs share one block = record {
    failed = block.failed;
    then_made = block.then_made;
    are = block.are;
    fails = block.fails;
    done = is_done n lines f (if owner inputs n f == worker then Some r else None) g block.then_made
        (done_by inputs.setup worker n (crash_after lines worker n) g block.then_made (prepared_of inputs n f) o r share one (handled_by n lines f o g block.then_made block.done));
  }

  -- ---- all records
  pub blocks_long : (n : ℕ) (frames : List Frame) (outcomes : List (Option OutcomeView)) (g : ℕ) (xs : List Answer) → AreBlocks inputs worker n frames outcomes g xs → length outcomes ≡ length frames
  blocks_long n [] [] g xs are = refl
  blocks_long n [] (o ∷ outcomes) g xs are = absurd are
  blocks_long n (f ∷ frames) [] g xs are = absurd are
  blocks_long n (f ∷ frames) (o ∷ outcomes) g xs are = ap suc (blocks_long (n + 1) frames outcomes g are.1 are.4)

  pub block_items : (n : ℕ) (frames : List Frame) (outcomes : List (Option OutcomeView)) (results : List OutcomeView) (g : ℕ) (xs : List Answer) → Shares inputs worker n frames outcomes → AreOutcomes inputs worker n frames outcomes results
      → AreBlocks inputs worker n frames outcomes g xs → AreItems inputs worker n frames (told_by inputs worker n frames results) g xs
  block_items n [] [] [] g xs shares are blocks = blocks
  block_items n [] [] (r ∷ results) g xs shares are blocks = absurd are
  block_items n [] (o ∷ outcomes) results g xs shares are blocks = absurd shares
  block_items n (f ∷ frames) [] results g xs shares are blocks = absurd shares
  block_items n (f ∷ frames) (o ∷ outcomes) [] g xs shares are blocks = absurd are
  block_items n (f ∷ frames) (o ∷ outcomes) (r ∷ results) g xs shares are blocks = (
    blocks.0,
    blocks.1,
    blocks.2,
    block_item n (filter (is_due n) inputs.script.lines) f o r g blocks.0 shares.0 are.0 blocks.3,
    block_items (n + 1) frames outcomes results g blocks.1 shares.1 are.1 blocks.4,
  )

  -- ---- whose numbers are told
  above_less : (m n : ℕ) (ns : List ℕ) → m ≤ n → AllByRecursion (λ (k : ℕ). n ≤ k) ns → AllByRecursion (λ (k : ℕ). m ≤ k) ns
  above_less m n [] less all = tt
  above_less m n (k ∷ ns) less all = let one = all.0 in (omega (arith, less, one), above_less m n ns less all.1)

  numbered_above : (n : ℕ) (outcomes : List (Option OutcomeView)) → AllByRecursion (λ (k : ℕ). n ≤ k) (map (λ (m : ℕ × OutcomeView). m.0) (numbered n outcomes))
  numbered_above n [] = tt
  numbered_above n (None ∷ outcomes) = above_less n (n + 1) (map (λ (m : ℕ × OutcomeView). m.0) (numbered (n + 1) outcomes)) (omega arith) (numbered_above (n + 1) outcomes)
  numbered_above n (Some r ∷ outcomes) = (omega arith, above_less n (n + 1) (map (λ (m : ℕ × OutcomeView). m.0) (numbered (n + 1) outcomes)) (omega arith) (numbered_above (n + 1) outcomes))

  pub own_above : (n : ℕ) (frames : List Frame) → AllByRecursion (λ (k : ℕ). n ≤ k) (own_numbers inputs worker n frames)
  own_above n [] = tt
  own_above n (f ∷ frames) = first (is_work inputs worker n f) (above_less n (n + 1) (own_numbers inputs worker (n + 1) frames) (omega arith) (own_above (n + 1) frames))
    where
      first : (b : Bool) → AllByRecursion (λ (k : ℕ). n ≤ k) (own_numbers inputs worker (n + 1) frames) → AllByRecursion (λ (k : ℕ). n ≤ k) (if_counts b n ++ own_numbers inputs worker (n + 1) frames)
      first true rest = (omega arith, rest)
      first false rest = rest

  -- one number less
  not_told : (n : ℕ) (b : Bool) (ns ms : List ℕ) → AllByRecursion (λ (k : ℕ). n + 1 ≤ k) ns → ns ≡ if_counts b n ++ ms → (false ≡ b) × (ns ≡ ms)
  not_told n false ns ms above is = (refl, is)
  not_told n true ns ms above is = let one = (subst (AllByRecursion (λ (k : ℕ). n + 1 ≤ k)) is above).0 in absurd (omega (arith, one))

  is_told : (n : ℕ) (b : Bool) (ns ms : List ℕ) → AllByRecursion (λ (k : ℕ). n + 1 ≤ k) ms → n ∷ ns ≡ if_counts b n ++ ms → (true ≡ b) × (ns ≡ ms)
  is_told n true ns ms above is = (refl, ap tail_of is)
  is_told n false ns ms above is = let one = (subst (AllByRecursion (λ (k : ℕ). n + 1 ≤ k)) (sym is) above).0 in absurd (omega (arith, one))

  pub shares_of : (n : ℕ) (frames : List Frame) (outcomes : List (Option OutcomeView)) → length outcomes ≡ length frames → map (λ (m : ℕ × OutcomeView). m.0) (numbered n outcomes) ≡ own_numbers inputs worker n frames → Shares inputs worker n frames outcomes
  shares_of n [] [] long numbers = tt
  shares_of n [] (o ∷ outcomes) long numbers = absurd (omega (arith, long))
  shares_of n (f ∷ frames) [] long numbers = absurd (omega (arith, long))
  shares_of n (f ∷ frames) (None ∷ outcomes) long numbers =
      let one = not_told n (is_work inputs worker n f) (map (λ (m : ℕ × OutcomeView). m.0) (numbered (n + 1) outcomes)) (own_numbers inputs worker (n + 1) frames) (numbered_above (n + 1) outcomes) numbers in
      (one.0, shares_of (n + 1) frames outcomes (omega (arith, long)) one.1)
  shares_of n (f ∷ frames) (Some r ∷ outcomes) long numbers =
      let one = is_told n (is_work inputs worker n f) (map (λ (m : ℕ × OutcomeView). m.0) (numbered (n + 1) outcomes)) (own_numbers inputs worker (n + 1) frames) (own_above (n + 1) frames) numbers in
      (one.0, shares_of (n + 1) frames outcomes (omega (arith, long)) one.1)
