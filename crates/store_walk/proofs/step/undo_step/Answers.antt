use Rattle.std.proofs.Common.{◌≡◌, Bool, true, false, ◌∙◌, refl, sym, ap, List}
use Rattle.std.specs.Prelude.{if◌then◌else◌}
use Rattle.flow_record.specs.Records.{asked_key}
use Rattle.replica_cell.specs.Cells.{CellView, Replica, taken_back}
use Rattle.replica_cell.specs.Walks.{changed, cells_after, replicas, stores}
use Rattle.replica_cell.specs.declared.walk.Walk.{Walk}
use Rattle.replica_cell.proofs.Undoes.{step_back, step_kept}
use Rattle.replica_cell.proofs.Views.{set-changed, replicas-changed}
use Rattle.store_walk.specs.Steps.{view_taken_back}
use Rattle.store_walk.proofs.step.undo_step.Goals as goal
use Rattle.store_walk.proofs.step.undo_step.Goals.{then-stored, else-stored}

-- the cells after the call, by whether the step stored
abbrev back : Walk → Bool → List Replica → List Replica
back w stored cells = if stored then changed w.place (taken_back (asked_key w.ask)) cells else cells

pub returns-clause-back : goal.returns-clause-back
returns-clause-back c =
    let w : Walk = c.args.before.now in
    let all : List CellView = c.args.cells.now in
    elim c.if-stored.branch [
      | then-stored v ↦
          let f : CellView → CellView = λ x. record { replica = taken_back v.key.result x.replica; faults = x.faults } in
          let written = set-changed f all w.place v.index-cells-before.result v.take_back.new.self c.requires v.take_back.ensures in
          ap replicas (v.cells-is ∙ written) ∙ replicas-changed f (taken_back v.key.result) (λ x. refl) w.place all
          ∙ ap (λ k. changed w.place (taken_back k) (replicas all)) v.key.ensures ∙ sym (ap (λ b. back w b (replicas all)) v.if-stored.true)
      | else-stored v ↦ ap replicas v.cells-is ∙ sym (ap (λ b. back w b (replicas all)) v.if-stored.false)
    ]

undone : (w : Walk) (stored : Bool) (was : List Replica) → stored ≡ stores w was → back w stored (cells_after w was) ≡ was
undone w true was is = step_back w was (sym is)
undone w false was is = step_kept w was (sym is)

pub returns-clause-cells : goal.returns-clause-cells
returns-clause-cells c was is stored =
    returns-clause-back c ∙ ap (back c.args.before.now c.args.stored) is ∙ undone c.args.before.now c.args.stored was stored

-- the same of the cells with their counts
abbrev view_back : Walk → Bool → List CellView → List CellView
view_back w stored cells = if stored then changed w.place (view_taken_back (asked_key w.ask)) cells else cells

pub returns-clause-views : goal.returns-clause-views
returns-clause-views c =
    let w : Walk = c.args.before.now in
    let all : List CellView = c.args.cells.now in
    elim c.if-stored.branch [
      | then-stored v ↦
          let written = set-changed (view_taken_back v.key.result) all w.place v.index-cells-before.result v.take_back.new.self c.requires v.take_back.ensures in
          v.cells-is ∙ written ∙ ap (λ k. changed w.place (view_taken_back k) all) v.key.ensures ∙ sym (ap (λ b. view_back w b all) v.if-stored.true)
      | else-stored v ↦ v.cells-is ∙ sym (ap (λ b. view_back w b all) v.if-stored.false)
    ]
