use Rattle.std.proofs.Common.{◌≡◌, ◌≤◌, length, sym, ◌∙◌, ap, subst}
use Rattle.replica_cell.specs.declared.walk.Walk.{Walk}
use Rattle.job_core.specs.Jobs.{JobView, GoesOn, answered}
use Rattle.job_core.specs.declared.moves.Move.{Move}
use Rattle.job_core.specs.declared.moves.Next.{Next}
use Rattle.bench.specs.Laws.{Asks}
use Rattle.bench.specs.Bench.{held_by}
use Rattle.bench.proofs.Reached.{held_within}
use Rattle.bench.proofs.Works.{next_fits}
use Rattle.bench.proofs.moving.move_on.Goals as goal

pub answer_with-requires-clause-held : goal.answer_with-requires-clause-held
answer_with-requires-clause-held c =
    subst (λ x. length x ≤ 14600) (sym (c.bytes_of-bytes.ensures ∙ ap (held_by c.flow-flow.result) c.in_ok-reserve.ensures.entries))
    (held_within c.args.held.now.entries c.flow-flow.result c.requires.held)

pub start-work-requires : goal.start-work-requires
start-work-requires c =
    next_fits c.args.setup.now c.args.work.now.job c.args.got c.bytes_of-bytes.result.now c.in-Ok.made c.in-Ask.ask c.requires.good
    c.in-Ok.ensures.answered.move c.in-Ask.is

pub returns-in-Ask-clause-stands : goal.returns-in-Ask-clause-stands
returns-in-Ask-clause-stands c = λ going.
    let goes : c.answer_with.new.self ≡ answered c.args.work.now.job c.args.got c.in-Ask.ask =
    subst (λ (n : Next). GoesOn c.args.work.now.job c.args.got n c.answer_with.new.self) c.in-Ask.is c.in-Ok.ensures.answered.job in
    ap (λ (j : JobView). j.ask) goes ∙ sym (ap (λ (w : Walk). w.ask) c.start-work.ensures.walk)

pub returns-in-Ask-clause-asks : goal.returns-in-Ask-clause-asks
returns-in-Ask-clause-asks c = λ going.
    let goes : c.answer_with.new.self ≡ answered c.args.work.now.job c.args.got c.in-Ask.ask =
    subst (λ (n : Next). GoesOn c.args.work.now.job c.args.got n c.answer_with.new.self) c.in-Ask.is c.in-Ok.ensures.answered.job in
    subst (λ (j : JobView). Asks c.args.setup.now c.args.work.now.job.instance j.aim j.segment j.answers j.ask) (sym goes)
    (_, sym (ap (λ (m : Move). m.next) c.in-Ok.ensures.answered.move) ∙ c.in-Ask.is)

pub returns-in-Ask-clause-instance : goal.returns-in-Ask-clause-instance
returns-in-Ask-clause-instance c = λ going.
    ap (λ (j : JobView). j.instance) (subst (λ (n : Next). GoesOn c.args.work.now.job c.args.got n c.answer_with.new.self) c.in-Ask.is c.in-Ok.ensures.answered.job)
