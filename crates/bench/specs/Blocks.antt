-- The calls that are made of the benches of all shards at a record: replicas fail, an instance handles a segment, an
-- instance crashes.
use Rattle.std.specs.Prelude.{ℕ, zero, suc, ◌+◌, ◌*◌, ◌%◌, ◌<◌, ◌&&◌, ◌==◌, min, nat_le, if◌then◌else◌, List, [], ◌∷◌, map, replicate, Option, Some, None}
use Rattle.std.specs.List.{AllByRecursion, filter, flat_map, range_with_len}
use Rattle.job_core.specs.declared.aim.Aim.{Aim}
use Rattle.job_core.specs.declared.verdict.Verdict.{Verdict}
use Rattle.job_core.specs.declared.verdict.Verdict.TheVariants.{Crashed, NoMemory}
use Rattle.rule_table.specs.Setups.{SetupView}
use Rattle.script_text.specs.declared.line.Line.{Line}
use Rattle.script_text.specs.declared.line.Line.TheVariants as line
use Rattle.tcp_segment.specs.declared.segment.Segment.{Segment}
use Rattle.bench.specs.Bench.{BenchState, served}
use Rattle.bench.specs.Calls.{IsCall}
use Rattle.bench.specs.Histories.{bench_after}
use Rattle.bench.specs.declared.call.Call.{Call}
use Rattle.bench.specs.declared.call.Call.TheVariants.{Take, Step, Crash, Fail}
use Rattle.bench.specs.declared.call.Reply.{Reply}
use Rattle.bench.specs.declared.call.Reply.TheVariants as reply

-- ---- the calls of all shards
-- a call, and the shard whose bench is called
pub record CallAt : Type 0 where
  pub shard : ℕ
  pub call : Call

-- these calls, all of one shard's bench
abbrev pub all_at : ℕ → List Call → List CallAt
all_at shard calls = map (λ c. record { shard = shard; call = c }) calls

-- the calls of one shard's bench among these
abbrev pub history : ℕ → List CallAt → List Call
history shard calls = map (λ c. c.call) (filter (λ c. c.shard == shard) calls)

-- the bench of a shard after these calls
abbrev pub bench_at : SetupView → List CallAt → ℕ → BenchState
bench_at setup calls shard = bench_after setup shard (history shard calls)

-- each of these is a call that may be made of the bench of its shard
abbrev pub MayBeMade : SetupView → List CallAt → Type 0
MayBeMade setup calls = AllByRecursion (λ c. (c.shard < setup.shards) × IsCall setup c.shard c.call) calls

-- ---- replicas fail
-- the places in a shard's list of copies at which this replica stands: place j is replica (shard + j) modulo the replicas
abbrev pub places_of : SetupView → ℕ → ℕ → List ℕ
places_of setup replica shard = filter (λ place. (shard + place) % setup.replicas == replica) (range_with_len 0 setup.copies)

abbrev pub fail_at : SetupView → ℕ → ℕ → List CallAt
fail_at setup replica shard = map (λ place. record { shard = shard; call = Fail place }) (places_of setup replica shard)

-- a replica fails: a call at each bench whose list holds it, in the order of the shards
abbrev pub fail_calls : SetupView → ℕ → List CallAt
fail_calls setup replica = flat_map (fail_at setup replica) (range_with_len 0 setup.shards)

-- ---- instances crash
-- an instance crashes: a call at each bench, in the order of the shards
abbrev pub crash_calls : SetupView → ℕ → List CallAt
crash_calls setup instance = map (λ shard. record { shard = shard; call = Crash instance }) (range_with_len 0 setup.shards)

-- after how many steps the instance crashes in the record that it handles, if it does
abbrev pub crash_after : List Line → ℕ → ℕ → Option ℕ
crash_after [] instance item = None
crash_after (line.Crash i at after ∷ lines) instance item = if i == instance && at == item then Some after else crash_after lines instance item
crash_after (line.Give at i ∷ lines) instance item = crash_after lines instance item
crash_after (line.Back i at ∷ lines) instance item = crash_after lines instance item
crash_after (line.Fail replica at ∷ lines) instance item = crash_after lines instance item

-- .. and the calls of that crash
abbrev pub crash_of : SetupView → ℕ → Option ℕ → List CallAt
crash_of setup instance None = []
crash_of setup instance (Some after) = crash_calls setup instance

-- ---- an instance handles a segment
-- the calls of a handling, so many of them: the take, and steps
abbrev pub handling_calls : ℕ → ℕ → Aim → Segment → ℕ → List Call
handling_calls instance item a segment zero = []
handling_calls instance item a segment (suc steps) = Take instance item a segment ∷ replicate steps (Step instance)

abbrev pub if_going : Reply → List Call → List Call
if_going reply.Going calls = calls
if_going (reply.Done verdict outs) calls = []
if_going reply.Idle calls = []
if_going reply.Noted calls = []

-- of these calls, made of the bench one after the other, those up to the first that is not answered Going
abbrev pub until_done : BenchState → List Call → List Call
until_done b [] = []
until_done b (c ∷ calls) = c ∷ if_going (served b c).1 (until_done (served b c).0 calls)

-- the verdict and the segments to send of the Done among these replies, if one is
abbrev pub done_in : List Reply → Option (Verdict × List Segment)
done_in [] = None
done_in (reply.Done verdict outs ∷ replies) = Some (verdict, outs.list)
done_in (reply.Going ∷ replies) = done_in replies
done_in (reply.Idle ∷ replies) = done_in replies
done_in (reply.Noted ∷ replies) = done_in replies

-- ---- where it ends
-- the most steps of a handling: eleven asks, each of which goes down all copies of a record
abbrev pub budget : SetupView → ℕ
budget setup = 11 * setup.copies

-- .. in which the instance crashes after so many of them, if it does
abbrev pub most_steps : SetupView → Option ℕ → ℕ
most_steps setup None = budget setup
most_steps setup (Some after) = min after (budget setup)

-- how many calls of a handling are made at most, and its verdict where none of them is answered Done: the crash comes after
-- so many steps, or before that a call is refused memory, after so many calls
abbrev pub limit_of : ℕ → Option ℕ → ℕ × Verdict
limit_of most None = (suc most, Crashed)
limit_of most (Some calls) = if nat_le calls most then (calls, NoMemory calls) else (suc most, Crashed)

-- the verdict is neither of a crash nor of want of memory
abbrev pub IsTold : Verdict → Type 0
IsTold Crashed = ⊥
IsTold (NoMemory calls) = ⊥
IsTold _ = Unit {0}
