use Rattle.std.proofs.Common.{◌≡◌, ◌↔◌, ◌<◌, ℕ, List, ◌∙◌, sym, ap, subst, length}
use Rattle.std.specs.Prelude.{slice_get}
use Rattle.std.proofs.lemmas.List.{length-map}
use Rattle.flow_record.specs.Records.{asked_key}
use Rattle.flow_record.specs.declared.record.Ask.{Ask}
use Rattle.replica_cell.specs.Walks.{standing, walk_on, walk_after, replicas, view_at, stores_in, CarriesAsAsked, EndsAbsent, EndsDown}
use Rattle.replica_cell.specs.Cells.{Replica, CellView}
use Rattle.replica_cell.specs.declared.walk.Stepped.{Stepped}
use Rattle.replica_cell.specs.declared.walk.Stepped.TheVariants.{Going, Absent, Down}
use Rattle.replica_cell.specs.declared.walk.Walk.{Walk}
use Rattle.replica_cell.proofs.Moves.{step_absent, step_down, step_carries}
use Rattle.replica_cell.proofs.Steps.{at_ask}
use Rattle.replica_cell.proofs.Views.{set-changed, replicas-views_after, get-replicas}
use Rattle.store_walk.specs.Steps.{SaidFits}
use Rattle.store_walk.proofs.Saids.{said_fits}
use Rattle.store_walk.proofs.step.noted_step.Goals as goal

pub returns-clause-views : goal.returns-clause-views
returns-clause-views c =
    let w = c.args.walk.now in
    set-changed (view_at w) c.args.cells.now w.place c.index-cells-walk.result c.step.new.cell c.requires.left c.in_ok-stored.ensures.cell

pub returns-clause-cells : goal.returns-clause-cells
returns-clause-cells c = ap replicas (returns-clause-views c) ∙ replicas-views_after c.args.walk.now c.args.cells.now

pub returns-clause-stored : goal.returns-clause-stored
returns-clause-stored c =
    let w : Walk = c.args.walk.now in
    c.in_ok-stored.ensures.stored ∙ sym (ap (stores_in w) (get-replicas c.args.cells.now w.place c.index-cells-walk.result c.requires.left))

pub returns-clause-decided_fits : goal.returns-clause-decided_fits
returns-clause-decided_fits c =
    let w = c.args.walk.now in
    let v : Walk = c.step.new.self in
    let says : Stepped = standing (length c.args.cells.now) v in
    let same : v.ask ≡ w.ask = ap (λ (x : Walk). x.ask) c.in_ok-stored.ensures.walk ∙ at_ask w.carried w _ in
    subst (λ (a : Stepped). SaidFits (asked_key w.ask) a) (sym c.standing.ensures)
    (subst (λ (q : Ask). SaidFits (asked_key q) says) same (said_fits (length c.args.cells.now) v c.in_ok-stored.ensures.fits))

after : (c : goal.After-standing) → c.step.new.self ≡ walk_after c.args.walk.now (replicas c.args.cells.now)
after c =
    let w : Walk = c.args.walk.now in
    c.in_ok-stored.ensures.walk ∙ sym (ap (walk_on w) (get-replicas c.args.cells.now w.place c.index-cells-walk.result c.requires.left))

count_same : (cells : List CellView) → length (replicas cells) ≡ length cells
count_same cells = length-map cells (λ (x : CellView). x.replica)

within : (c : goal.After-standing) → c.args.walk.now.place < length (replicas c.args.cells.now)
within c = subst (λ n. c.args.walk.now.place < n) (sym (count_same c.args.cells.now)) c.requires.left

-- what holds of where the walk after the step stands holds of the answer
of_answer : (P : Stepped → Type 0) (c : goal.After-standing) → P (standing (length c.args.cells.now) (walk_after c.args.walk.now (replicas c.args.cells.now))) → P c.standing.result
of_answer P c h = subst P (sym c.standing.ensures) (subst (λ v. P (standing (length c.args.cells.now) v)) (sym (after c)) h)

pub returns-clause-absent : goal.returns-clause-absent
returns-clause-absent c =
    let w : Walk = c.args.walk.now in
    let cells : List Replica = replicas c.args.cells.now in
    of_answer (λ a. (a ≡ Absent) ↔ EndsAbsent w (slice_get cells w.place)) c (step_absent (length c.args.cells.now) w c.requires.carries cells (within c))

pub returns-clause-down : goal.returns-clause-down
returns-clause-down c =
    let w : Walk = c.args.walk.now in
    let cells : List Replica = replicas c.args.cells.now in
    let count : ℕ = length c.args.cells.now in
    of_answer (λ a. (a ≡ Down) ↔ EndsDown count w (slice_get cells w.place)) c (step_down count w c.requires.carries cells (count_same c.args.cells.now) (within c))

pub returns-clause-carries : goal.returns-clause-carries
returns-clause-carries c =
    let w : Walk = c.args.walk.now in
    let cells : List Replica = replicas c.args.cells.now in
    of_answer (λ a. a ≡ Going → CarriesAsAsked c.step.new.self) c
    (λ going. subst CarriesAsAsked (sym (after c)) (step_carries (length c.args.cells.now) w c.requires.carries cells (within c) going))
