-- What is sent in a run in threads is made of the packets of the frames for which it is sent.
use Rattle.std.proofs.Common.{◌≡◌, ℕ, ◌+◌, List, [], ◌∷◌, ◌++◌, length, map, drop, Some, refl, sym, subst, ap}
use Rattle.std.specs.Prelude.{Option, IfSome, Result, Ok, Err, slice_get}
use Rattle.std.specs.List.{AllByRecursion}
use Rattle.seen_lock.specs.declared.object.Entry.{Entry}
use Rattle.bench.specs.Incoming.{incoming}
use Rattle.bench.specs.Prepared.{prepared}
use Rattle.bench.specs.declared.call.Call.{Call}
use Rattle.bench.specs.declared.input.inputs.Inputs.{Inputs}
use Rattle.bench.specs.declared.input.line.Line.{Line}
use Rattle.inplace.specs.Packets.{HoldsSegment}
use Rattle.job_core.specs.declared.verdict.Verdict.{Verdict}
use Rattle.pcap_file.specs.Frames.{capture_of}
use Rattle.pcap_file.specs.declared.capture.Frame.{Frame}
use Rattle.rule_table.specs.Setups.{IsSetup}
use Rattle.run_threads.specs.Answered.{Answer}
use Rattle.run_threads.specs.Items.{IsOwn}
use Rattle.run_threads.specs.Outcomes.{OutcomeView}
use Rattle.bench.specs.Fitting.{IsSent}
use Rattle.run_threads.specs.Run.{outs_of, IsThreadRun}
use Rattle.run_threads.proofs.Telling.{EachTold, run_told}
use Rattle.script_text.specs.Laws.{AssignedIsLiving}
use Rattle.tcp_segment.specs.declared.segment.Segment.{Segment}
use Rattle.yoda_app.specs.Outs.{AreMadeOf, IsSentFrom, packet_in}
use Rattle.yoda_app.proofs.Growing.{next_frame, still_left}
use Rattle.yoda_app.proofs.MadeOf.{all_made, frame_holds}

-- where nothing came in, nothing is sent
module _ (inputs : Inputs) (w n shard : ℕ) (frame : Frame) (after : Option ℕ) (o : OutcomeView) (answers : List Answer) where
  by_incoming : (r : Result Segment Verdict) → ((s : Segment) → r ≡ Ok s → HoldsSegment (packet_in inputs.trace frame))
      → IsOwn inputs.setup w n (prepared inputs.setup inputs.script.lines n r) after o shard answers → AreMadeOf (packet_in inputs.trace frame) o.outs
  by_incoming (Ok s) holds own = all_made (packet_in inputs.trace frame) o.outs (holds s refl)
  by_incoming (Err verdict) holds own = subst (AreMadeOf (packet_in inputs.trace frame)) (sym (ap (λ (x : OutcomeView). x.outs) own.0)) tt

  told_made : IsOwn inputs.setup w n (prepared inputs.setup inputs.script.lines n (incoming inputs.trace frame)) after o shard answers → AreMadeOf (packet_in inputs.trace frame) o.outs
  told_made own = by_incoming (incoming inputs.trace frame) (λ s is. frame_holds _ inputs.trace frame s refl is) own

-- what is sent for a frame of the trace
abbrev IsMadeFor : List ℕ → List Frame → ℕ × Segment → Type 0
IsMadeFor trace frames out = IfSome (slice_get frames out.0) (λ frame. HoldsSegment (packet_in trace frame))

numbered_made : (trace : List ℕ) (frames : List Frame) (n : ℕ) (frame : Frame) (outs : List Segment) → slice_get frames n ≡ Some frame → AreMadeOf (packet_in trace frame) outs
    → AllByRecursion (IsMadeFor trace frames) (map (λ out. (n, out)) outs)
numbered_made trace frames n frame [] is made = tt
numbered_made trace frames n frame (out ∷ outs) is made =
    (subst (λ o. IfSome o (λ (f : Frame). HoldsSegment (packet_in trace f))) (sym is) made.0, numbered_made trace frames n frame outs is made.1)

both_made : (P : ℕ × Segment → Type 0) (xs ys : List (ℕ × Segment)) → AllByRecursion P xs → AllByRecursion P ys → AllByRecursion P (xs ++ ys)
both_made P [] ys one two = two
both_made P (x ∷ xs) ys one two = (one.0, both_made P xs ys one.1 two)

paired : (P Q : ℕ × Segment → Type 0) (xs : List (ℕ × Segment)) → AllByRecursion P xs → AllByRecursion Q xs → AllByRecursion (λ x. P x × Q x) xs
paired P Q [] one two = tt
paired P Q (x ∷ xs) one two = ((one.0, two.0), paired P Q xs one.1 two.1)

module _ (inputs : Inputs) (sized : IsSetup inputs.setup) (law : AssignedIsLiving) where
  abbrev all : List Frame
  all = (capture_of inputs.trace).frames

  all_made_for : (n : ℕ) (left : List Frame) (outcomes : List OutcomeView) → left ≡ drop n all → EachTold inputs sized law n left outcomes
      → AllByRecursion (IsMadeFor inputs.trace all) (outs_of n outcomes)
  all_made_for n [] [] is told = tt
  all_made_for n [] (o ∷ outcomes) is told = absurd told
  all_made_for n (f ∷ left) [] is told = absurd told
  all_made_for n (f ∷ left) (o ∷ outcomes) is told =
      both_made (IsMadeFor inputs.trace all) (map (λ out. (n, out)) o.outs) (outs_of (n + 1) outcomes)
      (numbered_made inputs.trace all n f o.outs (next_frame n all left f (sym is)) (told_made inputs _ n _ f _ o told.0.answers told.0.own))
      (all_made_for (n + 1) left outcomes (still_left n all (f ∷ left) left f refl is) told.1)

  pub sent_from : (lines : List Line) (outs : List (ℕ × Segment)) (h : List (List (Entry Call))) → IsThreadRun inputs lines outs h
      → AllByRecursion (IsSent (length all)) outs → AllByRecursion (IsSentFrom inputs.trace all) outs
  sent_from lines outs h run sent =
      paired (IsSent (length all)) (IsMadeFor inputs.trace all) outs sent
      (subst (AllByRecursion (IsMadeFor inputs.trace all)) (sym run.sent) (all_made_for 0 all run.outcomes refl (run_told inputs sized law lines outs h run)))
