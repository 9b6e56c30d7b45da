-- A step of a work: what may answer its job, and that a step that was refused is taken back.
use Rattle.std.proofs.Common.{◌≡◌, ℕ, suc, true, Option, Some, None, List, [], ◌∷◌, ◌++◌, length, refl, sym, ◌∙◌, ap, subst}
use Rattle.std.proofs.lemmas.Option.{none-some, same_Some}
use Rattle.flow_record.specs.Records.{asked_key, FitsItsKey}
use Rattle.flow_record.specs.declared.record.Ask.{Ask}
use Rattle.flow_record.specs.declared.record.Ask.TheVariants.{Get, Add}
use Rattle.job_core.specs.Jobs.{JobView, MayAnswer, is_get, move_after}
use Rattle.job_core.specs.declared.moves.Move.{Move}
use Rattle.job_core.specs.declared.moves.Next.TheVariants as next
use Rattle.job_core.specs.declared.moves.Answer.{Answer}
use Rattle.replica_cell.specs.Cells.{Replica, CellView}
use Rattle.replica_cell.specs.Walks.{IsGet, EndsAbsent, walk_after, standing, replicas}
use Rattle.replica_cell.specs.declared.walk.Stepped.{Stepped}
use Rattle.replica_cell.specs.declared.walk.Stepped.TheVariants.{Going, Decided, Absent, Down}
use Rattle.replica_cell.specs.declared.walk.Walk.{Walk}
use Rattle.replica_cell.proofs.Origins.{after_from}
use Rattle.replica_cell.proofs.Steps.{decided_carried, same_ask}
use Rattle.rule_table.specs.Setups.{SetupView, IsSetup}
use Rattle.bench.specs.Bench.{answer_of}
use Rattle.bench.specs.Desks.{CellsKnown, WalkKnown}
use Rattle.job_core.proofs.Asks.{asked_is}
use Rattle.bench.proofs.Fits.{asked_fit}
use Rattle.bench.specs.JobLaws.{IsRecordOf}

-- ---- what may answer
is_get_is : (ask : Ask) → IsGet ask → is_get ask ≡ true
is_get_is (Get k) get = refl
is_get_is (Add k r) get = absurd get

pub may_answer : (setup : SetupView) (cells : List Replica) (w : Walk) (count : ℕ) → CellsKnown setup cells → WalkKnown setup w
    → (said : Stepped) → said ≡ standing count (walk_after w cells) → (said ≡ Absent → IsGet w.ask) → (got : Answer) → answer_of said ≡ Some got → MayAnswer setup w.ask got
may_answer setup cells w count known walk Going says get got is = absurd (none-some got is)
may_answer setup cells w count known walk (Decided r) says get got is =
    let carries = decided_carried count (walk_after w cells) r (sym says) in
    let record_is : IsRecordOf setup (asked_key (walk_after w cells).ask) r = after_from (IsRecordOf setup) cells w known walk r carries in
    subst (MayAnswer setup w.ask) (same_Some _ _ is) (subst (λ ask. IsRecordOf setup (asked_key ask) r) (same_ask cells w) record_is)
may_answer setup cells w count known walk Absent says get got is = subst (MayAnswer setup w.ask) (same_Some _ _ is) (is_get_is w.ask (get refl))
may_answer setup cells w count known walk Down says get got is = subst (MayAnswer setup w.ask) (same_Some _ _ is) tt

-- ---- the list
pub length_replicas : (cells : List CellView) → length (replicas cells) ≡ length cells
length_replicas [] = refl
length_replicas (c ∷ cells) = ap suc (length_replicas cells)

pub ends_get : (w : Walk) (o : Option Replica) → EndsAbsent w o → IsGet w.ask
ends_get w None ends = absurd ends
ends_get w (Some c) ends = ends.0

-- ---- what a move leads to
-- the ask that a work goes on to fits its key
pub next_fits : (setup : SetupView) (job : JobView) (a : Answer) (held : List ℕ) (m : Move) (ask : Ask) → IsSetup setup
    → m ≡ move_after setup job a held → m.next ≡ next.Ask ask → FitsItsKey ask
next_fits setup job a held m ask good same is =
    let asks : (move_after setup job a held).next ≡ next.Ask ask = sym (ap (λ (x : Move). x.next) same) ∙ is in
    asked_fit setup job.instance job.segment held job.aim (job.answers ++ a ∷ []) _ ask good
    (asked_is setup job.instance job.aim job.segment (job.answers ++ a ∷ []) held ask asks)
