-- A worker does what is to be done at a record that was taken, or was not.
use Rattle.std.proofs.Common.{◌≡◌, ℕ, List, Bool, true, false, Option, Some, None, Result, Ok, Err, IfOk, OnOk, refl, sym, subst, inl, inr}
use Rattle.std.specs.Prelude.{if◌then◌else◌}
use Rattle.std.proofs.lemmas.Bool.{false≢true}
use Rattle.std.specs.declared.alloc.AllocError.{AllocError}
use Rattle.bench.specs.Blocks.{history, crash_after}
use Rattle.bench.specs.Prepared.{prepared_of, judged_in}
use Rattle.bench.specs.declared.input.inputs.Inputs.{Inputs}
use Rattle.bench.specs.declared.input.prepared.Judged.TheVariants as judged
use Rattle.bench.specs.declared.input.prepared.Prepared.{Prepared}
use Rattle.bench.specs.declared.input.prepared.Prepared.TheVariants.{Ended, Work}
use Rattle.job_core.specs.declared.aim.Aim.{Aim}
use Rattle.job_core.specs.declared.verdict.Verdict.{Verdict}
use Rattle.pcap_file.specs.declared.capture.Frame.{Frame}
use Rattle.script_text.specs.declared.line.Line.{Line as ScriptLine}
use Rattle.tcp_segment.specs.declared.segment.Segment.{Segment}
use Rattle.run_threads.specs.Answered.{Answer, calls_in}
use Rattle.run_threads.specs.Crews.{CrewDoes, CrewMakes}
use Rattle.run_threads.specs.Items.{IsTurn, IsPassed, IsOwn, fails_before, instance_of, unprepared}
use Rattle.run_threads.specs.Outcomes.{OutcomeView}
use Rattle.run_threads.specs.Seats.{BenchLock, BenchSeat}
use Rattle.run_threads.specs.Served.{is_instance, is_work, IsHandledOrPassed, IsBlock}
use Rattle.run_threads.proofs.Crews.{both_do}
use Rattle.run_threads.proofs.Items.{does_so}

-- what a record came to, where it came to something
abbrev pub Told : Type 0
Told = Result (Option OutcomeView) AllocError

-- ---- whose the record is
module _ (inputs : Inputs) (worker item : ℕ) (frame : Frame) where
  ended_not : (p : Prepared) (v : Verdict) → judged.Ended v ≡ judged_in p → is_instance worker (instance_of p) ≡ false
  ended_not (Ended w) v is = refl
  ended_not (Work a segment i shard) v is = absurd (cc)

  pub judged_ended : (v : Verdict) → judged.Ended v ≡ judged_in (prepared_of inputs item frame) → is_work inputs worker item frame ≡ false
  judged_ended v is = ended_not (prepared_of inputs item frame) v is

-- ---- the calls
module _ (locks : List BenchLock) (inputs : Inputs) (worker item : ℕ) (lines : List ScriptLine) (frame : Frame) where
  module _ (after : Option ℕ) (after_is : after ≡ crash_after lines worker item) (old new : List BenchSeat) where
    block_passed : (told : Option OutcomeView) (r : Told)
        → ((g : ℕ) (l : List Answer) → IsPassed inputs.setup worker (crash_after lines worker item) g l → IsHandledOrPassed inputs worker item lines frame told g l)
        → IfOk r (λ o. o ≡ told) → OnOk r (CrewDoes locks old new (IsPassed inputs.setup worker after)) → IfOk r (λ o. CrewDoes locks old new (IsHandledOrPassed inputs worker item lines frame o))
    block_passed told (Ok o) so same made =
        subst (λ t. CrewDoes locks old new (IsHandledOrPassed inputs worker item lines frame t)) (sym same)
        (does_so inputs.setup locks old new (IsPassed inputs.setup worker after) (IsHandledOrPassed inputs worker item lines frame told) made
        (λ g l p. so g l (subst (λ x. IsPassed inputs.setup worker x g l) after_is p)))
    block_passed told (Err e) so same made = tt

    -- it only crashed, or did not
    pub passed_over : (r : Told) → IfOk r (λ o. o ≡ None) → OnOk r (CrewDoes locks old new (IsPassed inputs.setup worker after))
        → IfOk r (λ o. CrewDoes locks old new (IsHandledOrPassed inputs worker item lines frame o))
    passed_over r same made = block_passed None r (λ g l p. p) same made

    refused_own : (p : Prepared) (x : Option ℕ) (g : ℕ) (l : List Answer) → is_instance worker (instance_of p) ≡ true → IsPassed inputs.setup worker x g l → IsOwn inputs.setup worker item p x unprepared g l
    refused_own (Ended v) x g l mine passed = absurd (false≢true mine)
    refused_own (Work a segment i shard) x g l mine passed = inl (refl, passed)

    refused_told : (b : Bool) → is_work inputs worker item frame ≡ b → (g : ℕ) (l : List Answer) → IsPassed inputs.setup worker (crash_after lines worker item) g l
        → IsHandledOrPassed inputs worker item lines frame (if b then Some unprepared else None) g l
    refused_told true mine g l passed = refused_own (prepared_of inputs item frame) (crash_after lines worker item) g l mine passed
    refused_told false mine g l passed = passed

    -- .. and there was no memory to begin with
    pub passed_refused : (told : Option OutcomeView) (r : Told) → told ≡ (if is_work inputs worker item frame then Some unprepared else None)
        → IfOk r (λ o. o ≡ told) → OnOk r (CrewDoes locks old new (IsPassed inputs.setup worker after)) → IfOk r (λ o. CrewDoes locks old new (IsHandledOrPassed inputs worker item lines frame o))
    passed_refused told r told_is same made =
        block_passed told r (λ g l p. subst (λ t. IsHandledOrPassed inputs worker item lines frame t g l) (sym told_is) (refused_told (is_work inputs worker item frame) refl g l p)) same made

    -- it handled the segment
    pub handled_own : (i shard : ℕ) (a : Aim) (segment : Segment) (o : OutcomeView) → i ≡ worker → Work a segment i shard ≡ prepared_of inputs item frame
        → CrewDoes locks old new (IsTurn inputs.setup i item a segment shard after o) → CrewDoes locks old new (IsHandledOrPassed inputs worker item lines frame (Some o))
    handled_own i shard a segment o mine prepared_is does =
        does_so inputs.setup locks old new (IsTurn inputs.setup i item a segment shard after o) (IsHandledOrPassed inputs worker item lines frame (Some o)) does
        (λ g l t. subst (λ x. IsOwn inputs.setup worker item x (crash_after lines worker item) o g l) prepared_is
        (inr (subst (λ n. IsTurn inputs.setup n item a segment shard (crash_after lines worker item) o g l) mine (subst (λ x. IsTurn inputs.setup i item a segment shard x o g l) after_is t))))

  -- replicas failed before
  pub block_done : (old mid new : List BenchSeat) (r : Told) → CrewMakes locks old mid (fails_before inputs.setup worker item lines)
      → IfOk r (λ o. CrewDoes locks mid new (IsHandledOrPassed inputs worker item lines frame o)) → IfOk r (λ o. CrewDoes locks old new (IsBlock inputs worker item lines frame o))
  block_done old mid new (Ok o) fails done =
      both_do inputs.setup locks old mid new (λ g l. calls_in l ≡ history g (fails_before inputs.setup worker item lines)) (IsHandledOrPassed inputs worker item lines frame o) (IsBlock inputs worker item lines frame o) fails done
      (λ k xs ys p q. record { failed = xs; then_made = ys; are = refl; fails = p; done = q })
  block_done old mid new (Err e) fails done = tt
