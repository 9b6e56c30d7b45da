-- No ask that stands after a call is known: a known ask is one of the first three of its handling, and each answer by what is
-- known is one more.
use Rattle.std.proofs.Common.{◌≡◌, ℕ, zero, suc, ◌+◌, ◌<◌, ◌≤◌, Option, Some, None, List, [], ◌∷◌, ◌++◌, length, lit<, arith, refl, sym, ◌∙◌, ap, subst}
use Rattle.std.specs.Prelude.{option_map, replicate}
use Rattle.std.specs.List.{AllByRecursion}
use Rattle.std.proofs.lemmas.Option.{none-some}
use Rattle.flow_record.specs.declared.record.Ask.{Ask}
use Rattle.kept_records.specs.Entries.{Entries}
use Rattle.job_core.specs.Jobs.{flow_by}
use Rattle.job_core.specs.Table.{next_move}
use Rattle.job_core.specs.TableLaws.{IsAsked}
use Rattle.job_core.specs.TableLaws.IsAsked.{adds_syn, gets_syn, gets_open, client_resets, client_closes, refuses, adds_choice, adds_port, gets_port, gets_owner, adds_open, gets_owners_open, server_resets, server_closes}
use Rattle.job_core.specs.declared.aim.Aim.{Aim}
use Rattle.job_core.specs.declared.moves.Answer.{Answer}
use Rattle.job_core.specs.declared.moves.Answer.TheVariants.{Decided}
use Rattle.job_core.specs.declared.moves.HeldChange.{HeldChange}
use Rattle.job_core.specs.declared.moves.Next.{Next}
use Rattle.job_core.specs.declared.moves.Next.TheVariants as next
use Rattle.job_core.proofs.Asks.{asked_is, length-push}
use Rattle.replica_cell.specs.Walks.{walk_after}
use Rattle.replica_cell.specs.declared.walk.Walk.{Walk}
use Rattle.replica_cell.proofs.Lists.{all_set}
use Rattle.replica_cell.proofs.Steps.{same_ask}
use Rattle.rule_table.specs.Setups.{SetupView}
use Rattle.tcp_segment.specs.declared.segment.Segment.{Segment}
use Rattle.bench.specs.declared.call.Call.{Call}
use Rattle.bench.specs.declared.call.Call.TheVariants.{Take, Step, Crash, Fail}
use Rattle.bench.specs.declared.call.Reply.{Reply}
use Rattle.bench.specs.Bench.{JobState, Desk, Held, Known, BenchState, empty_desk, desk_at, job_at, job_by, held_by, known, begun, turn_by, turn_of, turned, settled, settled_by, settle, asks_limit, taken, move_of, moved, answer_of, says, walked, stepped_by, stepped, step_at, served}
use Rattle.bench.specs.Histories.{opening, after_all, bench_after}
use Rattle.bench.specs.Laws.{Asks}
use Rattle.bench.proofs.Causes.{setup_served}
use Rattle.bench.proofs.Counts.{turn_is, turn_known}
use Rattle.bench.proofs.Desks.{desk_has}
use Rattle.bench.proofs.Steps.{JobOf, of_job}

-- ---- a known ask has at most two answers before it
few_before : (setup : SetupView) (i : ℕ) (seg : Segment) (held : List ℕ) (a : Aim) (answers : List Answer) (x : HeldChange) (q : Ask) → IsAsked setup i seg held a answers x q
    → (kept : Entries) (k : Known) → known setup kept q ≡ Some k → length answers < 3
few_before setup i seg held a answers x q (gets_syn f other) kept k is = lit< tt
few_before setup i seg held a answers x q (gets_open f syn other) kept k is = lit< tt
few_before setup i seg held a answers x q (gets_port server port) kept k is = lit< tt
few_before setup i seg held a answers x q (gets_owner server port owner) kept k is = lit< tt
few_before setup i seg held a answers x q (gets_owners_open server port owner syn other) kept k is = lit< tt
few_before setup i seg held a answers x q (adds_syn f r syn kind number) kept k is = absurd (none-some k is)
few_before setup i seg held a answers x q (client_resets f syn r b other reset kind) kept k is = absurd (none-some k is)
few_before setup i seg held a answers x q (client_closes f syn opened r other still fin kind) kept k is = absurd (none-some k is)
few_before setup i seg held a answers x q (refuses f syn r more other still reached same kind) kept k is = absurd (none-some k is)
few_before setup i seg held a answers x q (adds_choice f syn choice more other still reached same whole chosen) kept k is = absurd (none-some k is)
few_before setup i seg held a answers x q (adds_port f syn choice r taken other still chosen others left kind owns) kept k is = absurd (none-some k is)
few_before setup i seg held a answers x q (adds_open server port owner syn r ack acks kind of_server of_port number) kept k is = absurd (none-some k is)
few_before setup i seg held a answers x q (server_resets server port owner syn r b other reset kind) kept k is = absurd (none-some k is)
few_before setup i seg held a answers x q (server_closes server port owner syn opened r other still fin kind) kept k is = absurd (none-some k is)

module _ (setup : SetupView) (i : ℕ) where
  -- the table asks what the job's walk asks
  abbrev pub AsksSo : ℕ → JobState → Type 0
  AsksSo n job = Asks setup i job.aim job.segment job.answers job.walk.ask

  -- the job has had so many answers
  abbrev Had : ℕ → ℕ → JobState → Type 0
  Had m n job = m ≤ length job.answers

  moved_asks : (job : JobState) (a : Answer) (held : Held) (n : Next) → (move_of setup i job a held).next ≡ n → JobOf AsksSo i (job_by job.item job.aim job.segment (job.answers ++ a ∷ []) n)
  moved_asks job a held (next.Ask ask) is = (held_by (flow_by job.aim job.answers) held, is)
  moved_asks job a held (next.End verdict outs) is = tt

  moved_had : (m : ℕ) (job : JobState) (a : Answer) (n : Next) → m ≤ length job.answers → JobOf (Had (suc m)) i (job_by job.item job.aim job.segment (job.answers ++ a ∷ []) n)
  moved_had m job a (next.Ask ask) had = let more = length-push job.answers a in omega arith
  moved_had m job a (next.End verdict outs) had = tt

  -- a desk whose job has had three answers rests
  late_rests : (desk : Desk) → JobOf AsksSo i desk.job → (m : ℕ) → JobOf (Had m) i desk.job → 3 ≤ m → turn_of setup desk ≡ None
  late_rests desk asks m had late = by (turn_of setup desk) refl
    where
      by : (o : Option (JobState × Known)) → turn_of setup desk ≡ o → o ≡ None
      by None is = refl
      by (Some turn) is =
          let here = turn_is setup desk turn is in
          let so : AsksSo i turn.0 = of_job AsksSo i desk.job turn.0 asks here in
          let many : m ≤ length turn.0.answers = of_job (Had m) i desk.job turn.0 had here in
          let few : length turn.0.answers < 3 =
          few_before setup i turn.0.segment so.0 turn.0.aim turn.0.answers _ turn.0.walk.ask (asked_is setup i turn.0.aim turn.0.segment turn.0.answers so.0 turn.0.walk.ask so.1) desk.kept turn.1 (turn_known setup desk turn is) in
          absurd (omega arith)

  settled_rests : (n m : ℕ) (at : Desk × Reply) → JobOf AsksSo i at.0.job → JobOf (Had m) i at.0.job → 3 ≤ m + n → turn_of setup (settled n setup i at).0 ≡ None
  settled_rests zero m at asks had enough = late_rests at.0 asks m had (omega arith)
  settled_rests (suc n) m at asks had enough = by (settled n setup i) (λ x so more. settled_rests n (suc m) x so more (omega arith)) (turn_of setup at.0) refl
    where
      by : (more : Desk × Reply → Desk × Reply) → ((x : Desk × Reply) → JobOf AsksSo i x.0.job → JobOf (Had (suc m)) i x.0.job → turn_of setup (more x).0 ≡ None)
          → (o : Option (JobState × Known)) → turn_of setup at.0 ≡ o → turn_of setup (settled_by more setup i at o).0 ≡ None
      by more rest None is = is
      by more rest (Some turn) is =
          rest (turned setup i at.0 turn)
          (moved_asks turn.0 (Decided turn.1.item) at.0.held (move_of setup i turn.0 (Decided turn.1.item) at.0.held).next refl)
          (moved_had m turn.0 (Decided turn.1.item) (move_of setup i turn.0 (Decided turn.1.item) at.0.held).next (of_job (Had m) i at.0.job turn.0 had (turn_is setup at.0 turn is)))

  none_had : (o : Option JobState) → JobOf (Had 0) i o
  none_had None = tt
  none_had (Some job) = omega arith

  -- a desk that is settled rests
  pub settle_rests : (at : Desk × Reply) → JobOf AsksSo i at.0.job → turn_of setup (settle setup i at).0 ≡ None
  unfolding settle
  settle_rests at asks = settled_rests asks_limit 0 at asks (none_had at.0.job) (omega arith)

  -- ---- the desks of a call
  abbrev Rests : Desk → Type 0
  Rests desk = turn_of setup desk ≡ None

  taken_rests : (item : ℕ) (a : Aim) (segment : Segment) (desk : Desk) → Rests (taken setup i item a segment desk).0
  taken_rests item a segment desk = settle_rests (begun setup i item a segment desk) (by (next_move setup i a segment [] []).next refl)
    where
      by : (n : Next) → (next_move setup i a segment [] []).next ≡ n → JobOf AsksSo i (job_by item a segment [] n)
      by (next.Ask ask) is = ([], is)
      by (next.End verdict outs) is = tt

  moved_rests : (job : JobState) (a : Answer) (desk : Desk) → Rests (settle setup i (moved setup i job a desk)).0
  moved_rests job a desk = settle_rests (moved setup i job a desk) (moved_asks job a desk.held (move_of setup i job a desk.held).next refl)

  -- what is not known
  pub none_known : (desk : Desk) (job : JobState) → desk.job ≡ Some job → Rests desk → known setup desk.kept job.walk.ask ≡ None
  none_known desk job here rests = by (known setup desk.kept job.walk.ask) (sym (ap (λ (o : Option JobState). turn_by setup desk.kept o) here) ∙ rests)
    where
      by : (o : Option Known) → option_map {T = Known} {U = JobState × Known} (λ k. (job, k)) o ≡ None → o ≡ None
      by None is = refl
      by (Some k) is = absurd (none-some _ (sym is))

  stepped_rests : (job : JobState) (desk : Desk) (w : Walk) (o : Option Answer) → desk.job ≡ Some job → w.ask ≡ job.walk.ask → Rests desk → Rests (stepped_by setup i job desk w o).0
  stepped_rests job desk w None here same rests =
      ap (λ (o : Option Known). option_map {T = Known} {U = JobState × Known} (λ k. (walked job w, k)) o) (ap (known setup desk.kept) same ∙ none_known desk job here rests)
  stepped_rests job desk w (Some a) here same rests = moved_rests job a desk

step_rests : (b : BenchState) (i : ℕ) (o : Option JobState) → job_at b.desks i ≡ o → AllByRecursion (Rests b.setup i) b.desks → AllByRecursion (Rests b.setup i) (step_at b i o).0.desks
step_rests b i None here all = all
step_rests b i (Some job) here all =
    all_set (Rests b.setup i) b.desks i (stepped b.setup i b.cells job (desk_at b.desks i)).0 all
    (stepped_rests b.setup i job (desk_at b.desks i) (walk_after job.walk b.cells) (answer_of (says b.cells job)) here (same_ask b.cells job.walk) (desk_has (Rests b.setup i) refl b.desks i all))

-- the instance does not matter to what is known
abbrev AllRest : SetupView → List Desk → Type 0
AllRest setup desks = AllByRecursion (λ (d : Desk). turn_of setup d ≡ None) desks

served_rests : (b : BenchState) (c : Call) → AllRest b.setup b.desks → AllRest b.setup (served b c).0.desks
served_rests b (Take i item a segment) all =
    all_set (Rests b.setup i) b.desks i (taken b.setup i item a segment (desk_at b.desks i)).0 all (taken_rests b.setup i item a segment (desk_at b.desks i))
served_rests b (Step i) all = step_rests b i (job_at b.desks i) refl all
served_rests b (Crash i) all = all_set (Rests b.setup i) b.desks i empty_desk all refl
served_rests b (Fail place) all = all

rests_all : (calls : List Call) (b : BenchState) → AllRest b.setup b.desks → AllRest b.setup (after_all b calls).desks
rests_all [] b all = all
rests_all (c ∷ calls) b all =
    let same : (served b c).0.setup ≡ b.setup = setup_served b c in
    let now : AllRest (served b c).0.setup (served b c).0.desks = subst (λ (s : SetupView). AllRest s (served b c).0.desks) (sym same) (served_rests b c all) in
    subst (λ (s : SetupView). AllRest s (after_all (served b c).0 calls).desks) same (rests_all calls (served b c).0 now)

rests_first : (setup : SetupView) (n : ℕ) → AllRest setup (replicate n empty_desk)
rests_first setup zero = tt
rests_first setup (suc n) = (refl, rests_first setup n)

-- after every call
pub desks_rest : (setup : SetupView) (shard : ℕ) (calls : List Call) → AllRest setup (bench_after setup shard calls).desks
desks_rest setup shard calls = rests_all calls (opening setup shard) (rests_first setup setup.instances)

-- so the ask of no job is known
pub unknown : (setup : SetupView) (shard : ℕ) (calls : List Call) (i : ℕ) (job : JobState) → job_at (bench_after setup shard calls).desks i ≡ Some job
    → known setup (desk_at (bench_after setup shard calls).desks i).kept job.walk.ask ≡ None
unknown setup shard calls i job here =
    let desks : List Desk = (bench_after setup shard calls).desks in
    none_known setup i (desk_at desks i) job here (desk_has (Rests setup i) refl desks i (desks_rest setup shard calls))
