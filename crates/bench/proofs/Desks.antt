-- A fact that each desk has is kept by every call where it is kept by each move of a job.
use Rattle.std.proofs.Common.{◌≡◌, ℕ, zero, suc, Option, Some, None, List, [], ◌∷◌, replicate, refl}
use Rattle.std.specs.Prelude.{slice_get}
use Rattle.std.specs.List.{AllByRecursion}
use Rattle.flow_id.specs.declared.key.Flow.{Flow}
use Rattle.job_core.specs.declared.moves.Answer.{Answer}
use Rattle.job_core.specs.declared.moves.Answer.TheVariants.{Decided}
use Rattle.replica_cell.specs.Walks.{walk_after}
use Rattle.replica_cell.specs.declared.walk.Walk.{Walk}
use Rattle.replica_cell.proofs.Lists.{all_set, at}
use Rattle.rule_table.specs.Setups.{SetupView}
use Rattle.bench.specs.declared.call.Call.{Call}
use Rattle.bench.specs.declared.call.Call.TheVariants.{Take, Step, Crash, Fail}
use Rattle.bench.specs.declared.call.Reply.{Reply}
use Rattle.bench.specs.Bench.{JobState, Desk, BenchState, empty_desk, desk_in, desk_at, job_at, used, begun, settle, taken, moved, answer_of, says, walked, stepped_by, stepped, step_at, served}
use Rattle.bench.specs.Histories.{opening, after_all, bench_after}
use Rattle.bench.proofs.Settles.{settle_keeps}

-- what such a fact has to be kept by
pub record KeepsDesks (D : Desk → Type 0) : Type 0 where
  pub none : D empty_desk
  pub job : (desk : Desk) (job : Option JobState) → D desk → D (record { job = job; held = desk.held; kept = desk.kept })
  pub moved : (setup : SetupView) (i : ℕ) (job : JobState) (a : Answer) (desk : Desk) → D desk → D (moved setup i job a desk).0
  pub used : (desk : Desk) (flow : Flow) → D desk → D (used desk flow)

pub desk_has : (D : Desk → Type 0) → D empty_desk → (desks : List Desk) (i : ℕ) → AllByRecursion D desks → D (desk_at desks i)
desk_has D none desks i all = by (slice_get desks i) refl
  where
    by : (o : Option Desk) → slice_get desks i ≡ o → D (desk_in o)
    by None is = none
    by (Some d) is = at D desks i d all is

pub all_desks : (D : Desk → Type 0) (desks : List Desk) → ((i : ℕ) → D (desk_at desks i)) → AllByRecursion D desks
all_desks D [] has = tt
all_desks D (d ∷ desks) has = (has 0, all_desks D desks (λ i. has (suc i)))

module _ (D : Desk → Type 0) (keeps : KeepsDesks D) where
  settle_has : (setup : SetupView) (i : ℕ) (at : Desk × Reply) → D at.0 → D (settle setup i at).0
  settle_has setup i at has =
      settle_keeps setup i (λ (x : Desk × Reply). D x.0) (λ x turn is has. keeps.moved setup i turn.0 (Decided turn.1.item) (used x.0 turn.1.flow) (keeps.used x.0 turn.1.flow has)) at has

  stepped_has : (setup : SetupView) (i : ℕ) (job : JobState) (desk : Desk) (w : Walk) (o : Option Answer) → D desk → D (stepped_by setup i job desk w o).0
  stepped_has setup i job desk w None has = keeps.job desk (Some (walked job w)) has
  stepped_has setup i job desk w (Some a) has = settle_has setup i (moved setup i job a desk) (keeps.moved setup i job a desk has)

  step_has : (b : BenchState) (i : ℕ) (o : Option JobState) → AllByRecursion D b.desks → AllByRecursion D (step_at b i o).0.desks
  step_has b i None all = all
  step_has b i (Some job) all =
      all_set D b.desks i (stepped b.setup i b.cells job (desk_at b.desks i)).0 all
      (stepped_has b.setup i job (desk_at b.desks i) (walk_after job.walk b.cells) (answer_of (says b.cells job)) (desk_has D keeps.none b.desks i all))

  served_has : (b : BenchState) (c : Call) → AllByRecursion D b.desks → AllByRecursion D (served b c).0.desks
  served_has b (Take i item a segment) all =
      all_set D b.desks i (taken b.setup i item a segment (desk_at b.desks i)).0 all
      (settle_has b.setup i (begun b.setup i item a segment (desk_at b.desks i)) (keeps.job (desk_at b.desks i) (begun b.setup i item a segment (desk_at b.desks i)).0.job (desk_has D keeps.none b.desks i all)))
  served_has b (Step i) all = step_has b i (job_at b.desks i) all
  served_has b (Crash i) all = all_set D b.desks i empty_desk all keeps.none
  served_has b (Fail place) all = all

  all_has : (calls : List Call) (b : BenchState) → AllByRecursion D b.desks → AllByRecursion D (after_all b calls).desks
  all_has [] b all = all
  all_has (c ∷ calls) b all = all_has calls (served b c).0 (served_has b c all)

  first_has : (n : ℕ) → AllByRecursion D (replicate n empty_desk)
  first_has zero = tt
  first_has (suc n) = (keeps.none, first_has n)

  pub desks_have : (setup : SetupView) (shard : ℕ) (calls : List Call) → AllByRecursion D (bench_after setup shard calls).desks
  desks_have setup shard calls = all_has calls (opening setup shard) (first_has setup.instances)
