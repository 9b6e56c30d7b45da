use Rattle.std.proofs.Common.{◌≡◌, ℕ, Some, None, length, sym, ◌∙◌, ap, subst}
use Rattle.bench.specs.declared.call.Reply.{Reply}
use Rattle.bench.specs.Bench.{Desk, answer_of, moved, settle, stepped_by, turn_of}
use Rattle.bench.specs.Desks.{desk_of, left, shown_work}
use Rattle.bench.proofs.Settlings.{no_turn, settle_stays}
use Rattle.std.specs.Prelude.{slice_get}
use Rattle.std.proofs.lemmas.Bool.{false≢true}
use Rattle.replica_cell.specs.declared.walk.Walk.{Walk}
use Rattle.job_core.specs.Jobs.{MayAnswer}
use Rattle.replica_cell.specs.Walks.{replicas, standing, walk_after}
use Rattle.bench.proofs.Works.{may_answer, ends_get, length_replicas}
use Rattle.bench.proofs.moving.go_on.Goals as goal

pub move_on-requires-clause-may : goal.move_on-requires-clause-may
move_on-requires-clause-may c =
    subst (λ ask. MayAnswer c.args.setup.now ask c.in-Some.got) (sym c.requires.work.asks)
    (may_answer c.args.setup.now (replicas c.args.cells.now) c.args.work.now.walk (length c.args.cells.now) c.requires.known c.requires.work.known c.in_ok-noted.noted.said
    (c.in_ok-noted.ensures.says ∙ ap (standing (length c.args.cells.now)) c.in_ok-noted.ensures.walk)
    (λ is. ends_get c.args.work.now.walk (slice_get (replicas c.args.cells.now) c.args.work.now.walk.place) (c.in_ok-noted.ensures.absent.0 is))
    c.in-Some.got (sym c.answer_of.ensures ∙ c.in-Some.is))

pub returns-in-Err-clause-err_cells : goal.returns-in-Err-clause-err_cells
returns-in-Err-clause-err_cells c = c.undo_step.ensures.cells (replicas c.args.cells.now) c.in_ok-noted.ensures.cells c.in_ok-noted.ensures.stored

pub move_on-requires-clause-entry : goal.move_on-requires-clause-entry
move_on-requires-clause-entry c =
    c.requires.work.entry c.in-Some.got
    (subst (λ ask. MayAnswer c.args.setup.now ask c.in-Some.got) (sym c.requires.work.asks)
    (may_answer c.args.setup.now (replicas c.args.cells.now) c.args.work.now.walk (length c.args.cells.now) c.requires.known c.requires.work.known c.in_ok-noted.noted.said
    (c.in_ok-noted.ensures.says ∙ ap (standing (length c.args.cells.now)) c.in_ok-noted.ensures.walk)
    (λ is. ends_get c.args.work.now.walk (slice_get (replicas c.args.cells.now) c.args.work.now.walk.place) (c.in_ok-noted.ensures.absent.0 is))
    c.in-Some.got (sym c.answer_of.ensures ∙ c.in-Some.is)))

pub returns-else-goes-clause-stepped : goal.returns-else-goes-clause-stepped
returns-else-goes-clause-stepped c =
    let i : ℕ = c.args.work.now.job.instance in
    let d : Desk = desk_of c.args.work.now c.args.held.now.entries c.args.kept.now in
    let w : Walk = walk_after c.args.work.now.walk (replicas c.args.cells.now) in
    let after : Desk × Reply = moved c.args.setup.now i (shown_work c.args.work.now) c.in-Some.got d in
    let none : turn_of c.args.setup.now (left c.in-Ok.reply c.move_on.new.work c.move_on.new.held.entries c.move_on.new.kept).0 ≡ None =
    no_turn c.args.setup.now c.in-Ok.reply c.move_on.new.work c.move_on.new.held.entries c.move_on.new.kept c.in-Ok.ensures.kind (c.goes.ensures.ends (λ is. false≢true (sym c.if-goes.false ∙ is))) in
    let rest : settle c.args.setup.now i after ≡ after = settle_stays c.args.setup.now i after (subst (λ (x : Desk × Reply). turn_of c.args.setup.now x.0 ≡ None) c.in-Ok.ensures.moved none) in
    let says : standing (length (replicas c.args.cells.now)) w ≡ c.in_ok-noted.noted.said =
    ap (λ n. standing n w) (length_replicas c.args.cells.now)
    ∙ sym (c.in_ok-noted.ensures.says ∙ ap (standing (length c.args.cells.now)) c.in_ok-noted.ensures.walk) in
    let said : answer_of (standing (length (replicas c.args.cells.now)) w) ≡ Some c.in-Some.got = ap answer_of says ∙ sym c.answer_of.ensures ∙ c.in-Some.is in
    c.in-Ok.ensures.moved ∙ sym rest ∙ sym (ap (stepped_by c.args.setup.now i (shown_work c.args.work.now) d w) said)
