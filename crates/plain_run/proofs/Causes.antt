-- Why a record of a run has its verdict.
use Rattle.std.proofs.Common.{◌≡◌, ℕ, zero, suc, ◌≤◌, ◌<◌, inr, Bool, true, false, Option, Some, None, List, [], refl, ◌∙◌, arith}
use Rattle.std.specs.Prelude.{IsSome, nat_le, unwrap_or, if◌then◌else◌}
use Rattle.std.proofs.lemmas.Bool.{false≢true}
use Rattle.bench.specs.Bench.{BenchState}
use Rattle.bench.specs.Blocks.{crash_after, most_steps, limit_of, done_in, IsTold}
use Rattle.bench.specs.Calls.{AreCalls}
use Rattle.bench.specs.Histories.{bench_after, replies}
use Rattle.bench.specs.declared.call.Call.{Call}
use Rattle.bench.specs.declared.input.line.Line.{Line as LineOf}
use Rattle.job_core.specs.declared.aim.Aim.{Aim}
use Rattle.job_core.specs.declared.verdict.Verdict.{Verdict}
use Rattle.job_core.specs.declared.verdict.Verdict.TheVariants.{Crashed, NoMemory}
use Rattle.rule_table.specs.Setups.{SetupView, IsSetup}
use Rattle.script_text.specs.declared.line.Line.{Line}
use Rattle.tcp_segment.specs.declared.segment.Segment.{Segment}
use Rattle.plain_run.specs.Cuts.{refused_in}
use Rattle.plain_run.specs.Handling.{made_of, done_by}
use Rattle.plain_run.specs.Laws.{IsCaused}
use Rattle.plain_run.proofs.Done.{ends_done}
use Rattle.plain_run.proofs.Steps.{handling_done, done_reply, done_told}

refused_as : (verdict : Verdict) (calls : ℕ) → refused_in verdict ≡ Some calls → verdict ≡ NoMemory calls
refused_as (NoMemory n) calls is = cc
refused_as _ calls is = absurd cc

not_none : {X : Type 0} (o : Option X) → IsSome o → o ≡ None → ⊥
not_none None some is = false≢true some
not_none (Some x) some is = absurd cc

-- a work that is handled after this history of its shard
module _ (setup : SetupView) (good : IsSetup setup) (lines : List Line) (n : ℕ) (line : LineOf) (shard : ℕ) (before : List Call) (are : AreCalls setup shard before)
    (a : Aim) (segment : Segment) (instance : ℕ) (within : instance < setup.instances) where
  abbrev b : BenchState
  b = bench_after setup shard before

  abbrev crash : Option ℕ
  crash = crash_after lines instance n

  -- why a handling that is not done has its verdict
  abbrev IsBroken : Verdict → Type 0
  IsBroken verdict = IsCaused setup lines n line b a segment instance verdict []

  crash_cause : (after : Option ℕ) → crash ≡ after → done_by b instance n a segment (suc (most_steps setup after)) ≡ None → IsBroken Crashed
  crash_cause None is undone = absurd (not_none _ (ends_done setup shard good instance n a segment within before are) undone)
  crash_cause (Some steps) is undone = (refl, (steps, is, undone))

  -- .. and of one that is done
  told_cause : (verdict : Verdict) (outs : List Segment) → IsTold verdict
      → (calls : ℕ) × (calls ≤ suc (most_steps setup crash)) × (done_by b instance n a segment calls ≡ Some (verdict, outs))
      → IsCaused setup lines n line b a segment instance verdict outs
  told_cause Crashed outs told done = absurd told
  told_cause (NoMemory calls) outs told done = absurd told
  told_cause verdict outs told done = done

  within_limit : (r : Option ℕ) → (limit_of (most_steps setup crash) r).0 ≤ suc (most_steps setup crash)
  within_limit None = omega arith
  within_limit (Some calls) = by (nat_le calls (most_steps setup crash)) refl
    where
      limit : Bool → ℕ × Verdict
      limit t = if t then (calls, NoMemory calls) else (suc (most_steps setup crash), Crashed)

      by : (t : Bool) → nat_le calls (most_steps setup crash) ≡ t → (limit t).0 ≤ suc (most_steps setup crash)
      by true is = grind arith
      by false is = omega arith

  limit_cause : (r : Option ℕ) → refused_in line.verdict ≡ r → done_by b instance n a segment (limit_of (most_steps setup crash) r).0 ≡ None
      → IsBroken (limit_of (most_steps setup crash) r).1
  limit_cause None is undone = crash_cause crash refl undone
  limit_cause (Some calls) is undone = by (nat_le calls (most_steps setup crash)) refl undone
    where
      limit : Bool → ℕ × Verdict
      limit t = if t then (calls, NoMemory calls) else (suc (most_steps setup crash), Crashed)

      by : (t : Bool) → nat_le calls (most_steps setup crash) ≡ t → done_by b instance n a segment (limit t).0 ≡ None → IsBroken (limit t).1
      by true few none = (refl, inr (refused_as line.verdict calls is, (let h : calls ≤ most_steps setup crash = grind arith in h), none))
      by false few none = crash_cause crash refl none

  pub work_caused :
      let limit = limit_of (most_steps setup crash) (refused_in line.verdict) in
      let end = unwrap_or (done_in (replies b (made_of b instance n a segment limit.0))) (limit.1, []) in
      IsCaused setup lines n line b a segment instance end.0 end.1
  work_caused = by (done_by b instance n a segment limit.0) refl
    where
      told : (calls : ℕ) (verdict : Verdict) (outs : List Segment) → done_by b instance n a segment calls ≡ Some (verdict, outs) → IsTold verdict
      told zero verdict outs is = absurd cc
      told (suc most) verdict outs is =
          let reply = done_reply _ verdict outs (handling_done b instance n a segment most ∙ is) in
          done_told b instance n a segment most verdict reply.0 reply.1

      limit : ℕ × Verdict
      limit = limit_of (most_steps setup crash) (refused_in line.verdict)

      by : (o : Option (Verdict × List Segment)) → done_by b instance n a segment limit.0 ≡ o
          → IsCaused setup lines n line b a segment instance (unwrap_or o (limit.1, [])).0 (unwrap_or o (limit.1, [])).1
      by (Some (verdict, outs)) is = told_cause verdict outs (told limit.0 verdict outs is) (limit.0, within_limit (refused_in line.verdict), is)
      by None is = limit_cause (refused_in line.verdict) refl is
