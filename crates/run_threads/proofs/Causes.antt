-- Each verdict of a run has its cause.
use Rattle.std.proofs.Common.{◌≡◌, ℕ, zero, suc, ◌+◌, Option, Some, None, IsSome, unwrap_or, List, [], ◌∷◌, map, Bool, true, false, if◌then◌else◌, refl, sym, ◌∙◌, ap, subst, arith, inl, inr, ⊎_elim, ◌⊎◌}
use Rattle.std.specs.Prelude.{◌==◌, ◌&&◌, nat_le, slice_get}
use Rattle.std.specs.List.{filter}
use Rattle.std.proofs.lemmas.Bool.{and_right}
use Rattle.seen_lock.specs.declared.object.Entry.{Entry}
use Rattle.seen_lock.proofs.SeatLemmas.{some_same}
use Rattle.bench.specs.Blocks.{crash_after, most_steps, limit_of, done_in, IsTold}
use Rattle.bench.specs.Prepared.{prepared_of}
use Rattle.bench.specs.declared.call.Call.{Call}
use Rattle.bench.specs.declared.call.Reply.{Reply}
use Rattle.bench.specs.declared.call.Reply.TheVariants as reply
use Rattle.bench.specs.declared.input.inputs.Inputs.{Inputs}
use Rattle.bench.specs.declared.input.line.Line.{Line}
use Rattle.bench.specs.declared.input.prepared.Prepared.{Prepared}
use Rattle.bench.specs.declared.input.prepared.Prepared.TheVariants.{Ended, Work}
use Rattle.job_core.specs.declared.aim.Aim.{Aim}
use Rattle.job_core.specs.declared.verdict.Verdict.{Verdict}
use Rattle.job_core.specs.declared.verdict.Verdict.TheVariants.{Crashed, NoMemory}
use Rattle.pcap_file.specs.Frames.{capture_of}
use Rattle.pcap_file.specs.declared.capture.Frame.{Frame}
use Rattle.rule_table.specs.Setups.{IsSetup}
use Rattle.script_text.specs.Laws.{AssignedIsLiving}
use Rattle.script_text.specs.declared.line.Line.{Line as ScriptLine}
use Rattle.script_text.specs.declared.line.Line.TheVariants as script
use Rattle.tcp_segment.specs.declared.segment.Segment.{Segment}
use Rattle.run_threads.specs.Answered.{Answer, replies_in}
use Rattle.run_threads.specs.Due.{is_due}
use Rattle.run_threads.specs.Handling.{IsHandled}
use Rattle.run_threads.specs.Items.{IsTurn, IsOwn, instance_of, owner_by, owner}
use Rattle.run_threads.specs.Laws.{IsCaused, HasCause}
use Rattle.bench.specs.Fitting.{IsTableReply}
use Rattle.run_threads.specs.Run.{IsThreadRun}
use Rattle.run_threads.specs.Outcomes.{OutcomeView}
use Rattle.run_threads.proofs.Telling.{AreTableReplies, split, shard_for, EachTold, run_told}

-- the lines that do something at a record say when an instance crashes in it
due_crash : (n w : ℕ) (lines : List ScriptLine) → crash_after (filter (is_due n) lines) w n ≡ crash_after lines w n
due_crash n w [] = refl
due_crash n w (script.Crash i at after ∷ lines) = by (at == n) refl (due_crash n w lines)
  where
    by : (t : Bool) → (at == n) ≡ t → crash_after (filter (is_due n) lines) w n ≡ crash_after lines w n
        → crash_after (if t then script.Crash i at after ∷ filter (is_due n) lines else filter (is_due n) lines) w n ≡ (if i == w && at == n then Some after else crash_after lines w n)
    by true is ih = ap (λ o. if i == w && at == n then Some after else o) ih
    by false is ih = ih ∙ sym (ap (λ t. if t then Some after else crash_after lines w n) (and_right (i == w) (at == n) is))
due_crash n w (script.Fail replica at ∷ lines) = by (at == n) (due_crash n w lines)
  where
    by : (t : Bool) → crash_after (filter (is_due n) lines) w n ≡ crash_after lines w n
        → crash_after (if t then script.Fail replica at ∷ filter (is_due n) lines else filter (is_due n) lines) w n ≡ crash_after lines w n
    by true ih = ih
    by false ih = ih
due_crash n w (script.Give at i ∷ lines) = due_crash n w lines
due_crash n w (script.Back i at ∷ lines) = due_crash n w lines

-- a Done among these has a verdict of the table
done_told : (answers : List Answer) (end : Verdict × List Segment) → AreTableReplies answers → done_in (replies_in answers) ≡ Some end → IsTold end.0
done_told [] end table is = absurd (cc)
done_told (a ∷ answers) end table is = by a.1 table.0 is (done_told answers end table.1)
  where
    by : (r : Reply) → IsTableReply r → done_in (r ∷ replies_in answers) ≡ Some end → (done_in (replies_in answers) ≡ Some end → IsTold end.0) → IsTold end.0
    by (reply.Done verdict outs) told is ih = subst (λ (e : Verdict × List Segment). IsTold e.0) (some_same (verdict, outs.list) end is) told.0
    by reply.Going told is ih = ih is
    by reply.Idle told is ih = ih is
    by reply.Noted told is ih = ih is

-- where there is none, it is told so
limit_told : (most : ℕ) (refused : Option ℕ) → ((limit_of most refused).1 ≡ Crashed) ⊎ ((calls : ℕ) × ((limit_of most refused).1 ≡ NoMemory calls))
limit_told most None = inl refl
limit_told most (Some calls) = by (nat_le calls most)
  where
    by : (t : Bool) → (let x : ℕ × Verdict = if t then (calls, NoMemory calls) else (suc most, Crashed) in (x.1 ≡ Crashed) ⊎ ((k : ℕ) × (x.1 ≡ NoMemory k)))
    by true = inr (calls, refl)
    by false = inl refl

module _ (inputs : Inputs) (n : ℕ) where
  end_cause : (i : ℕ) (a : Aim) (segment : Segment) (after refused : Option ℕ) (end : Verdict × List Segment) (answers : List Answer) → after ≡ crash_after inputs.script.lines i n
      → IsHandled inputs.setup i n a segment after refused end answers → AreTableReplies answers → IsCaused inputs.script.lines n i end.0
  end_cause i a segment after refused end answers after_is handled table = by (done_in (replies_in answers)) refl
    where
      limit : ℕ × Verdict
      limit = limit_of (most_steps inputs.setup after) refused

      by : (o : Option (Verdict × List Segment)) → done_in (replies_in answers) ≡ o → IsCaused inputs.script.lines n i end.0
      by (Some e) is = inl (subst (λ (x : Verdict × List Segment). IsTold x.0) (sym (handled.ended ∙ ap (λ (o : Option (Verdict × List Segment)). unwrap_or o ((limit_of (most_steps inputs.setup after) refused).1, [])) is)) (done_told answers e table is))
      by None is =
          let told : end.0 ≡ (limit_of (most_steps inputs.setup after) refused).1 =
          ap (λ (e : Verdict × List Segment). e.0) (handled.ended ∙ ap (λ (o : Option (Verdict × List Segment)). unwrap_or o ((limit_of (most_steps inputs.setup after) refused).1, [])) is) in
          ⊎_elim
          (λ crash. inr (inl (told ∙ crash, subst IsSome after_is (handled.crashed is (told ∙ crash)))))
          (λ none. inr (inr (none.0, told ∙ none.1)))
          (limit_told (most_steps inputs.setup after) refused)

  turn_cause : (i : ℕ) (a : Aim) (segment : Segment) (own : ℕ) (after : Option ℕ) (o : OutcomeView) (answers : List Answer) → after ≡ crash_after inputs.script.lines i n
      → IsTurn inputs.setup i n a segment own after o own answers → AreTableReplies answers → HasCause inputs n (Work a segment i own) o.line
  turn_cause i a segment own after o answers after_is turn table =
      let cause = end_cause i a segment after turn.refused turn.end turn.handling after_is (turn.handled.here refl) (split answers turn.handling turn.crash turn.are table).0 in
      subst (λ (x : OutcomeView). HasCause inputs n (Work a segment i own) x.line) (sym turn.comes_to) (inr (refl, cause))

  -- the worker is that of the instance that handles the record, if one does
  abbrev Whose : ℕ → Prepared → Type 0
  Whose w (Ended v) = Unit {0}
  Whose w (Work a segment i own) = w ≡ i

  whose : (p : Prepared) → Whose (owner_by inputs.setup n (instance_of p)) p
  whose (Ended v) = tt
  whose (Work a segment i own) = refl

  own_cause : (w : ℕ) (p : Prepared) (after : Option ℕ) (o : OutcomeView) (answers : List Answer) → after ≡ crash_after inputs.script.lines w n → Whose w p
      → IsOwn inputs.setup w n p after o (shard_for p) answers → AreTableReplies answers → HasCause inputs n p o.line
  own_cause w (Ended v) after o answers after_is whose is table = ap (λ (x : OutcomeView). x.line) is.0
  own_cause w (Work a segment i own) after o answers after_is whose is table = ⊎_elim
      (λ passed. inl (ap (λ (x : OutcomeView). x.line) passed.0))
      (λ turn. subst (λ k. HasCause inputs n (Work a segment k own) o.line) whose (turn_cause w a segment own after o answers after_is turn table))
      is

module _ (inputs : Inputs) (sized : IsSetup inputs.setup) (law : AssignedIsLiving) where
  cause_at : (n k : ℕ) (frames : List Frame) (outcomes : List OutcomeView) (f : Frame) (l : Line) → EachTold inputs sized law n frames outcomes → slice_get frames k ≡ Some f → slice_get (map (λ (o : OutcomeView). o.line) outcomes) k ≡ Some l
      → HasCause inputs (n + k) (prepared_of inputs (n + k) f) l
  cause_at n k [] [] f l told there is = absurd (cc)
  cause_at n k [] (o ∷ outcomes) f l told there is = absurd told
  cause_at n k (g ∷ frames) [] f l told there is = absurd told
  cause_at n zero (g ∷ frames) (o ∷ outcomes) f l told there is =
      let w = owner inputs n g in
      let p = prepared_of inputs n g in
      let one : HasCause inputs n p o.line = own_cause inputs n w p _ o told.0.answers (due_crash n w inputs.script.lines) (whose inputs n p) told.0.own told.0.table in
      subst (λ m. HasCause inputs m (prepared_of inputs m f) l) (let e : n ≡ n + 0 = omega arith in e)
      (subst (λ x. HasCause inputs n (prepared_of inputs n x) l) (some_same g f there) (subst (λ x. HasCause inputs n p x) (some_same o.line l is) one))
  cause_at n (suc k) (g ∷ frames) (o ∷ outcomes) f l told there is =
      subst (λ m. HasCause inputs m (prepared_of inputs m f) l) (let e : n + 1 + k ≡ n + suc k = omega arith in e) (cause_at (n + 1) k frames outcomes f l told.1 there is)

  pub verdicts_caused : (lines : List Line) (outs : List (ℕ × Segment)) (h : List (List (Entry Call))) → IsThreadRun inputs lines outs h → (n : ℕ) (f : Frame) (l : Line)
      → slice_get (capture_of inputs.trace).frames n ≡ Some f → slice_get lines n ≡ Some l → HasCause inputs n (prepared_of inputs n f) l
  verdicts_caused lines outs h run n f l there is =
      subst (λ m. HasCause inputs m (prepared_of inputs m f) l) (let e : 0 + n ≡ n = omega arith in e)
      (cause_at 0 n (capture_of inputs.trace).frames run.outcomes f l (run_told inputs sized law lines outs h run) there (ap (λ ls. slice_get ls n) (sym run.line) ∙ is))
