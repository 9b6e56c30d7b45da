-- No call changes a bench's setup or its shard.
use Rattle.std.proofs.Common.{◌≡◌, ℕ, List, [], ◌∷◌, Option, Some, None, refl, sym, ◌∙◌, subst}
use Rattle.seen_lock.specs.declared.object.Entry.{Entry}
use Rattle.bench.specs.declared.call.Call.{Call}
use Rattle.bench.specs.declared.call.Call.TheVariants.{Take, Step, Crash, Fail}
use Rattle.bench.specs.Bench.{BenchState, JobState, job_at, step_at, served}
use Rattle.bench.specs.Calls.{IsCall}
use Rattle.run_threads.specs.Answered.{bench_now}

same_step : (b : BenchState) (i : ℕ) (j : Option JobState) → ((step_at b i j).0.setup ≡ b.setup) × ((step_at b i j).0.shard ≡ b.shard)
same_step b i None = (refl, refl)
same_step b i (Some job) = (refl, refl)

same_bench : (b : BenchState) (c : Call) → ((served b c).0.setup ≡ b.setup) × ((served b c).0.shard ≡ b.shard)
same_bench b (Take i item aim segment) = (refl, refl)
same_bench b (Step i) = same_step b i (job_at b.desks i)
same_bench b (Crash i) = (refl, refl)
same_bench b (Fail place) = (refl, refl)

pub same_after : (b : BenchState) (history : List (Entry Call)) → ((bench_now b history).setup ≡ b.setup) × ((bench_now b history).shard ≡ b.shard)
same_after b [] = (refl, refl)
same_after b (e ∷ es) =
    let rest = same_after (served b e.call).0 es in
    let one = same_bench b e.call in
    (rest.0 ∙ one.0, rest.1 ∙ one.1)

pub bench_stays : (b : BenchState) (history : List (Entry Call)) (c : Call) → IsCall b.setup b.shard c → IsCall (bench_now b history).setup (bench_now b history).shard c
bench_stays b history c may =
    let same = same_after b history in
    subst (λ g. IsCall (bench_now b history).setup g c) (sym same.1) (subst (λ s. IsCall s b.shard c) (sym same.0) may)
