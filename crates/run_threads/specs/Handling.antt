-- How an instance handles a segment while others call the same bench: it takes the segment, and makes steps until one of its
-- calls, the take among them, is not answered Going.
use Rattle.std.specs.Prelude.{◌≡◌, ℕ, ◌≤◌, Bool, true, false, List, [], ◌∷◌, Option, Some, None, IsSome, Result, Ok, Err, unwrap_or}
use Rattle.bench.specs.Blocks.{handling_calls, done_in, most_steps, limit_of}
use Rattle.bench.specs.declared.call.Call.{Call}
use Rattle.bench.specs.declared.call.Reply.{Reply}
use Rattle.bench.specs.declared.call.Reply.TheVariants as reply
use Rattle.job_core.specs.declared.aim.Aim.{Aim}
use Rattle.job_core.specs.declared.verdict.Verdict.{Verdict}
use Rattle.job_core.specs.declared.verdict.Verdict.TheVariants.{Crashed, NoMemory}
use Rattle.rule_table.specs.Setups.{SetupView}
use Rattle.tcp_segment.specs.declared.segment.Segment.{Segment}
use Rattle.run_threads.specs.Answered.{Answer, replies_in}
use Rattle.run_threads.specs.Seats.{BenchLock, BenchSeat, Adds}
use Rattle.run_threads.specs.declared.handling.Refused.{Refused}

-- ---- the calls, and what they were answered
-- the first fact where the reply is Going, else the second
abbrev pub MatchGoing : Reply → Type 0 → Type 0 → Type 0
MatchGoing reply.Going goes ends = goes
MatchGoing (reply.Done verdict outs) goes ends = ends
MatchGoing reply.Idle goes ends = ends
MatchGoing reply.Noted goes ends = ends

-- of these calls those up to the first that was not answered Going were made, with these answers
abbrev pub AreMade : List Call → List Answer → Type 0
AreMade [] answers = answers ≡ []
AreMade (c ∷ calls) [] = ⊥
AreMade (c ∷ calls) (a ∷ answers) = (a.0 ≡ c) × MatchGoing a.1 (AreMade calls answers) (answers ≡ [])

-- These are the answers of a handling that ended with this verdict and these segments to send. The script has the instance
-- crash after so many steps, if it does, and a call was refused memory after so many calls, if one was.
pub record IsHandled (setup : SetupView) (i item : ℕ) (a : Aim) (segment : Segment) (after refused : Option ℕ) (end : Verdict × List Segment) (answers : List Answer) : Type 0 where
  pub made : AreMade (handling_calls i item a segment (limit_of (most_steps setup after) refused).0) answers
  pub ended : end ≡ unwrap_or (done_in (replies_in answers)) ((limit_of (most_steps setup after) refused).1, [])
  -- without a Done it is told to have crashed only where the script has it so
  pub crashed : done_in (replies_in answers) ≡ None → end.0 ≡ Crashed → IsSome after

-- ---- as the code has it
abbrev pub is_going : Reply → Bool
is_going reply.Going = true
is_going (reply.Done verdict outs) = false
is_going reply.Idle = false
is_going reply.Noted = false

-- the verdict and the segments of a handling that came to this
abbrev pub end_of : Result Reply Refused → Verdict × List Segment
end_of (Ok (reply.Done verdict outs)) = (verdict, outs.list)
end_of (Ok reply.Going) = (Crashed, [])
end_of (Ok reply.Idle) = (Crashed, [])
end_of (Ok reply.Noted) = (Crashed, [])
end_of (Err refused) = (NoMemory refused.calls, [])

-- .. by its Done, if it has one
abbrev pub told_by_reply : Result Reply Refused → Option (Verdict × List Segment)
told_by_reply (Ok (reply.Done verdict outs)) = Some (verdict, outs.list)
told_by_reply (Ok reply.Going) = None
told_by_reply (Ok reply.Idle) = None
told_by_reply (Ok reply.Noted) = None
told_by_reply (Err refused) = None

-- after how many calls memory was refused, if it was
abbrev pub refused_by : Result Reply Refused → Option ℕ
refused_by (Ok reply) = None
refused_by (Err refused) = Some refused.calls

-- it was within so many steps
abbrev pub IsWithin : ℕ → Result Reply Refused → Type 0
IsWithin most (Ok reply) = Unit {0}
IsWithin most (Err refused) = refused.calls ≤ most

-- without a Done only where the instance crashes, or memory was refused
abbrev pub IsTimely : Option ℕ → Result Reply Refused → Type 0
IsTimely after (Ok (reply.Done verdict outs)) = Unit {0}
IsTimely after (Ok reply.Going) = IsSome after
IsTimely after (Ok reply.Idle) = IsSome after
IsTimely after (Ok reply.Noted) = IsSome after
IsTimely after (Err refused) = Unit {0}

-- it ended neither by a Done nor by want of memory
abbrev pub is_cut : Result Reply Refused → Bool
is_cut (Ok (reply.Done verdict outs)) = false
is_cut (Ok reply.Going) = true
is_cut (Ok reply.Idle) = true
is_cut (Ok reply.Noted) = true
is_cut (Err refused) = false

-- the seat has made the calls of a handling in so many steps at most, which came to this
pub record Handles (most i item : ℕ) (a : Aim) (segment : Segment) (lock : BenchLock) (old new : BenchSeat) (end : Result Reply Refused) : Type 0 where
  pub answers : List Answer
  pub adds : Adds lock old new answers
  pub made : AreMade (handling_calls i item a segment (limit_of most (refused_by end)).0) answers
  pub told : done_in (replies_in answers) ≡ told_by_reply end
  pub within : IsWithin most end
