-- What is sent in a run fits packets.
use Rattle.std.proofs.Common.{◌≡◌, ℕ, ◌+◌, ◌<◌, ◌≤◌, unwrap_or, List, [], ◌∷◌, ◌++◌, length, map, sym, ◌∙◌, ap, subst, refl, arith, ⊎_elim}
use Rattle.std.specs.Prelude.{Option}
use Rattle.std.specs.List.{AllByRecursion}
use Rattle.std.proofs.lemmas.List.{length-map}
use Rattle.seen_lock.specs.declared.object.Entry.{Entry}
use Rattle.bench.specs.Blocks.{done_in}
use Rattle.bench.specs.Inputs.{IsInputs}
use Rattle.bench.specs.Prepared.{prepared_of}
use Rattle.bench.specs.declared.call.Call.{Call}
use Rattle.bench.specs.declared.call.Reply.{Reply}
use Rattle.bench.specs.declared.call.Reply.TheVariants as reply
use Rattle.bench.specs.declared.input.inputs.Inputs.{Inputs}
use Rattle.bench.specs.declared.input.line.Line.{Line}
use Rattle.bench.specs.declared.input.prepared.Prepared.{Prepared}
use Rattle.bench.specs.declared.input.prepared.Prepared.TheVariants.{Ended, Work}
use Rattle.job_core.specs.declared.aim.Aim.{Aim}
use Rattle.job_core.specs.declared.verdict.Verdict.{Verdict}
use Rattle.pcap_file.specs.Frames.{capture_of}
use Rattle.pcap_file.specs.declared.capture.Frame.{Frame}
use Rattle.rule_table.specs.Setups.{IsSetup}
use Rattle.script_text.specs.Laws.{AssignedIsLiving}
use Rattle.tcp_segment.specs.declared.segment.Segment.{Segment}
use Rattle.run_threads.specs.Answered.{Answer, replies_in}
use Rattle.run_threads.specs.Items.{IsTurn, IsOwn, owner}
use Rattle.bench.specs.Fitting.{IsShort, IsTableReply, IsSent}
use Rattle.run_threads.specs.Run.{outs_of, IsThreadRun}
use Rattle.run_threads.specs.Outcomes.{OutcomeView}
use Rattle.run_threads.proofs.Telling.{AreTableReplies, split, shard_for, crash_in, EachTold, run_told}

abbrev AreShort : List Segment → Type 0
AreShort outs = AllByRecursion IsShort outs

-- what a Done among these sends is short, and where there is none nothing is sent
done_short : (answers : List Answer) (v : Verdict) → AreTableReplies answers → AreShort (unwrap_or (done_in (replies_in answers)) (v, [])).1
done_short [] v table = tt
done_short (a ∷ answers) v table = by a.1 table.0 (done_short answers v table.1)
  where
    by : (r : Reply) → IsTableReply r → AreShort (unwrap_or (done_in (replies_in answers)) (v, [])).1 → AreShort (unwrap_or (done_in (r ∷ replies_in answers)) (v, [])).1
    by (reply.Done verdict outs) is rest = is.1
    by reply.Going is rest = rest
    by reply.Idle is rest = rest
    by reply.Noted is rest = rest

module _ (inputs : Inputs) (w item : ℕ) (after : Option ℕ) (o : OutcomeView) (answers : List Answer) (table : AreTableReplies answers) where
  turn_short : (a : Aim) (segment : Segment) (own : ℕ) → IsTurn inputs.setup w item a segment own after o own answers → AreShort o.outs
  turn_short a segment own turn =
      let handled = turn.handled.here refl in
      subst AreShort (sym (ap (λ (x : OutcomeView). x.outs) turn.comes_to ∙ ap (λ (e : Verdict × List Segment). e.1) handled.ended))
      (done_short turn.handling _ (split answers turn.handling turn.crash turn.are table).0)

  own_short : (p : Prepared) → IsOwn inputs.setup w item p after o (shard_for p) answers → AreShort o.outs
  own_short (Ended v) is = subst AreShort (sym (ap (λ (x : OutcomeView). x.outs) is.0)) tt
  own_short (Work a segment i own) is = ⊎_elim
      (λ passed. subst AreShort (sym (ap (λ (x : OutcomeView). x.outs) passed.0)) tt)
      (λ turn. turn_short a segment own turn)
      is

-- ---- all records
numbered_short : (records n : ℕ) (outs : List Segment) → n < records → AreShort outs → AllByRecursion (IsSent records) (map (λ out. (n, out)) outs)
numbered_short records n [] within short = tt
numbered_short records n (out ∷ outs) within short = ((short.0, within), numbered_short records n outs within short.1)

both_sent : (records : ℕ) (xs ys : List (ℕ × Segment)) → AllByRecursion (IsSent records) xs → AllByRecursion (IsSent records) ys → AllByRecursion (IsSent records) (xs ++ ys)
both_sent records [] ys one two = two
both_sent records (x ∷ xs) ys one two = (one.0, both_sent records xs ys one.1 two)

module _ (inputs : Inputs) (good : IsInputs inputs) (sized : IsSetup inputs.setup) (law : AssignedIsLiving) where
  all_sent : (records n : ℕ) (frames : List Frame) (outcomes : List OutcomeView) → n + length frames ≤ records → EachTold inputs sized law n frames outcomes → AllByRecursion (IsSent records) (outs_of n outcomes)
  all_sent records n [] [] few told = tt
  all_sent records n [] (o ∷ outcomes) few told = absurd told
  all_sent records n (f ∷ frames) [] few told = absurd told
  all_sent records n (f ∷ frames) (o ∷ outcomes) few told =
      let p = prepared_of inputs n f in
      let w = owner inputs n f in
      both_sent records (map (λ out. (n, out)) o.outs) (outs_of (n + 1) outcomes)
      (numbered_short records n o.outs (omega (arith, few)) (own_short inputs w n (crash_in inputs w (shard_for p) n) o told.0.answers told.0.table p told.0.own))
      (all_sent records (n + 1) frames outcomes (omega (arith, few)) told.1)

  pub sent_fits : (lines : List Line) (outs : List (ℕ × Segment)) (h : List (List (Entry Call))) → IsThreadRun inputs lines outs h → AllByRecursion (IsSent inputs.records) outs
  sent_fits lines outs h run =
      let records = good.records in
      subst (AllByRecursion (IsSent inputs.records)) (sym run.sent)
      (all_sent inputs.records 0 (capture_of inputs.trace).frames run.outcomes (omega (arith, records)) (run_told inputs sized law lines outs h run))

  pub lines_many : (lines : List Line) (outs : List (ℕ × Segment)) (h : List (List (Entry Call))) → IsThreadRun inputs lines outs h → length lines ≡ inputs.records
  lines_many lines outs h run = ap length run.line ∙ (length-map run.outcomes (λ (o : OutcomeView). o.line) ∙ (run.records ∙ sym good.records))
