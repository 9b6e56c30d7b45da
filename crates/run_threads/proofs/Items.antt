-- What a worker does at a record, on all shards.
use Rattle.std.proofs.Common.{◌≡◌, ◌≢◌, ℕ, ◌<◌, List, Option, Some, None, Result, Ok, Err, IfOk, OnOk, refl, sym, ◌∙◌, ap, subst, inl, inr}
use Rattle.std.specs.Prelude.{slice_index_or, slice_set}
use Rattle.bench.specs.Prepared.{HasWork, IsPrepared, prepared_of}
use Rattle.bench.specs.declared.call.Reply.{Reply}
use Rattle.bench.specs.declared.input.inputs.Inputs.{Inputs}
use Rattle.bench.specs.declared.input.prepared.Prepared.{Prepared}
use Rattle.bench.specs.declared.input.prepared.Prepared.TheVariants.{Ended, Work}
use Rattle.job_core.specs.declared.verdict.Verdict.{Verdict}
use Rattle.pcap_file.specs.declared.capture.Frame.{Frame}
use Rattle.script_text.specs.declared.line.Line.{Line as ScriptLine}
use Rattle.std.specs.declared.alloc.AllocError.{AllocError}
use Rattle.job_core.specs.declared.aim.Aim.{Aim}
use Rattle.rule_table.specs.Setups.{SetupView}
use Rattle.tcp_segment.specs.declared.segment.Segment.{Segment}
use Rattle.run_threads.specs.Answered.{Answer}
use Rattle.bench.specs.Blocks.{history, most_steps}
use Rattle.run_threads.specs.Crews.{IsCrew, CrewDoes, CrewMakes}
use Rattle.run_threads.specs.Answered.{calls_in}
use Rattle.run_threads.specs.Handling.{Handles, IsTimely, end_of, refused_by}
use Rattle.bench.specs.Blocks.{crash_of, crash_after}
use Rattle.run_threads.specs.Items.{IsHandledAt, IsTurn, IsPassed, IsOwn, IsDone, IsItem, outcome_of, ended, unprepared, fails_before, instance_of, owner_by, owner}
use Rattle.run_threads.specs.Seats.{BenchLock, BenchSeat, Adds}
use Rattle.run_threads.specs.declared.handling.Refused.{Refused}
use Rattle.run_threads.specs.Outcomes.{OutcomeView}
use Rattle.run_threads.proofs.Crews.{one_does, both_do}
use Rattle.run_threads.proofs.Handled.{is_handled}

module _ (setup : SetupView) (locks : List BenchLock) where
  pub handled_at : (old new : List BenchSeat) (g : ℕ) (l : BenchLock) (s t : BenchSeat) (i item : ℕ) (a : Aim) (segment : Segment) (after : Option ℕ) (end : Result Reply Refused)
      → IsCrew setup locks old → g < setup.shards → l ≡ slice_index_or locks g l → s ≡ slice_index_or old g s → new ≡ slice_set old g t
      → Handles (most_steps setup after) i item a segment l (slice_index_or old g s) t end → IsTimely after end → CrewDoes locks old new (IsHandledAt setup i item a segment g after (refused_by end) (end_of end))
  handled_at old new g l s t i item a segment after end crew within l_is s_is new_is h timely =
      one_does setup locks old new g l s t h.answers (IsHandledAt setup i item a segment g after (refused_by end) (end_of end)) crew within l_is s_is new_is
      (subst (λ z. Adds l z t h.answers) (sym s_is) h.adds)
      (record { here = λ e. is_handled setup i item a segment after end h.answers timely h.made h.told h.within; there = λ apart. absurd (apart refl) })
      (λ k apart. record { here = λ e. absurd (apart e); there = λ e. refl })

  pub turn_taken : (old mid new : List BenchSeat) (i item : ℕ) (a : Aim) (segment : Segment) (own : ℕ) (after refused : Option ℕ) (end : Verdict × List Segment) (outcome : OutcomeView)
      → IsPrepared setup (Work a segment i own) → CrewDoes locks old mid (IsHandledAt setup i item a segment own after refused end) → CrewMakes locks mid new (crash_of setup i after) → outcome ≡ outcome_of i end
      → CrewDoes locks old new (IsTurn setup i item a segment own after outcome)
  turn_taken old mid new i item a segment own after refused end outcome fits handled crashes comes_to =
      both_do setup locks old mid new (IsHandledAt setup i item a segment own after refused end) (λ g l. calls_in l ≡ history g (crash_of setup i after)) (IsTurn setup i item a segment own after outcome) handled crashes
      (λ k xs ys p q. record { fits = fits; refused = refused; end = end; handling = xs; crash = ys; are = refl; handled = p; comes_to = comes_to; crashes = q })

  -- what is done is also that
  pub does_so : (old new : List BenchSeat) (what that : ℕ → List Answer → Type 0) → CrewDoes locks old new what → ((g : ℕ) (l : List Answer) → what g l → that g l) → CrewDoes locks old new that
  does_so old new what that does so = record {
    count = does.count;
    each = λ g x y within. let d = does.each g x y within in record { answers = d.answers; adds = d.adds; are = so g d.answers d.are };
  }

module _ (locks : List BenchLock) (inputs : Inputs) (worker item : ℕ) (lines : List ScriptLine) (frame : Frame) (after : Option ℕ) (after_is : after ≡ crash_after lines worker item) where
  abbrev pub setup : SetupView
  setup = inputs.setup

  passed_done : (old new : List BenchSeat) (told : Option OutcomeView) (r : Result (Option OutcomeView) AllocError) → ((g : ℕ) (l : List Answer) → IsPassed setup worker (crash_after lines worker item) g l → IsDone inputs worker item lines frame told g l)
      → IfOk r (λ o. o ≡ told) → OnOk r (CrewDoes locks old new (IsPassed setup worker after)) → IfOk r (λ o. CrewDoes locks old new (IsDone inputs worker item lines frame o))
  passed_done old new told (Ok o) so same made =
      subst (λ t. CrewDoes locks old new (IsDone inputs worker item lines frame t)) (sym same)
      (does_so setup locks old new (IsPassed setup worker after) (IsDone inputs worker item lines frame told) made (λ g l p. so g l (subst (λ x. IsPassed setup worker x g l) after_is p)))
  passed_done old new told (Err e) so same made = tt

  pub not_own : (old new : List BenchSeat) (who : ℕ) (r : Result (Option OutcomeView) AllocError) → who ≡ owner inputs item frame → who ≢ worker
      → IfOk r (λ o. o ≡ None) → OnOk r (CrewDoes locks old new (IsPassed setup worker after)) → IfOk r (λ o. CrewDoes locks old new (IsDone inputs worker item lines frame o))
  not_own old new who r is apart same made = passed_done old new None r (λ g l p. ((λ e. apart (is ∙ e)), p)) same made

  pub own_ended : (old new : List BenchSeat) (who : ℕ) (v : Verdict) (o : OutcomeView) (r : Result (Option OutcomeView) AllocError) → who ≡ owner inputs item frame → who ≡ worker
      → Ended v ≡ prepared_of inputs item frame → o ≡ ended v
      → IfOk r (λ t. t ≡ Some o) → OnOk r (CrewDoes locks old new (IsPassed setup worker after)) → IfOk r (λ t. CrewDoes locks old new (IsDone inputs worker item lines frame t))
  own_ended old new who v o r is own prepared_is o_is same made =
      passed_done old new (Some o) r (λ g l p. (sym is ∙ own, subst (λ x. IsOwn setup worker item x (crash_after lines worker item) o g l) prepared_is (o_is, p))) same made

  refused_own : (p : Prepared) (o : OutcomeView) (x : Option ℕ) (g : ℕ) (l : List Answer) → HasWork p → o ≡ unprepared → IsPassed setup worker x g l → IsOwn setup worker item p x o g l
  refused_own (Ended v) o x g l work is passed = absurd work
  refused_own (Work a segment i shard) o x g l work is passed = inl (is, passed)

  pub own_refused : (old new : List BenchSeat) (who : ℕ) (o : OutcomeView) (r : Result (Option OutcomeView) AllocError) → who ≡ owner inputs item frame → who ≡ worker
      → HasWork (prepared_of inputs item frame) → o ≡ unprepared
      → IfOk r (λ t. t ≡ Some o) → OnOk r (CrewDoes locks old new (IsPassed setup worker after)) → IfOk r (λ t. CrewDoes locks old new (IsDone inputs worker item lines frame t))
  own_refused old new who o r is own work o_is same made =
      passed_done old new (Some o) r (λ g l p. (sym is ∙ own, refused_own (prepared_of inputs item frame) o (crash_after lines worker item) g l work o_is p)) same made

  pub own_handled : (old new : List BenchSeat) (who i shard : ℕ) (a : Aim) (segment : Segment) (o : OutcomeView) → who ≡ owner inputs item frame → who ≡ worker
      → Work a segment i shard ≡ prepared_of inputs item frame → CrewDoes locks old new (IsTurn setup i item a segment shard after o) → CrewDoes locks old new (IsDone inputs worker item lines frame (Some o))
  own_handled old new who i shard a segment o is own prepared_is does =
      let mine : i ≡ worker = ap (λ p. owner_by setup item (instance_of p)) prepared_is ∙ (sym is ∙ own) in
      does_so setup locks old new (IsTurn setup i item a segment shard after o) (IsDone inputs worker item lines frame (Some o)) does
      (λ g l t. (
        sym is ∙ own,
        subst (λ x. IsOwn setup worker item x (crash_after lines worker item) o g l) prepared_is
            (inr (subst (λ n. IsTurn setup n item a segment shard (crash_after lines worker item) o g l) mine (subst (λ x. IsTurn setup i item a segment shard x o g l) after_is t))),
      ))

module _ (locks : List BenchLock) (inputs : Inputs) (worker item : ℕ) (lines : List ScriptLine) (frame : Frame) where
  pub item_done : (old mid new : List BenchSeat) (r : Result (Option OutcomeView) AllocError) → CrewMakes locks old mid (fails_before inputs.setup worker item lines)
      → IfOk r (λ o. CrewDoes locks mid new (IsDone inputs worker item lines frame o)) → IfOk r (λ o. CrewDoes locks old new (IsItem inputs worker item lines frame o))
  item_done old mid new (Ok o) fails done =
      both_do inputs.setup locks old mid new (λ g l. calls_in l ≡ history g (fails_before inputs.setup worker item lines)) (IsDone inputs worker item lines frame o) (IsItem inputs worker item lines frame o) fails done
      (λ k xs ys p q. record { failed = xs; then_made = ys; are = refl; fails = p; done = q })
  item_done old mid new (Err e) fails done = tt
