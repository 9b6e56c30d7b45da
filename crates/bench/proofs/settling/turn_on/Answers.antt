use Rattle.std.proofs.Common.{◌≡◌, Some, [], sym, ◌∙◌, ap, subst}
use Rattle.std.specs.Prelude.{option_map}
use Rattle.kept_records.specs.Entries.{Entries}
use Rattle.flow_record.specs.declared.record.Ask.{Ask}
use Rattle.replica_cell.specs.declared.walk.Walk.{Walk}
use Rattle.job_core.specs.Jobs.{JobView, GoesOn, answered}
use Rattle.job_core.specs.declared.moves.Answer.TheVariants.{Decided}
use Rattle.job_core.specs.declared.moves.Next.{Next}
use Rattle.bench.specs.Bench.{JobState, Known, known, settled_by}
use Rattle.job_core.specs.declared.moves.Move.{Move}
use Rattle.bench.specs.Desks.{KeptFit, desk_of, shown_work}
use Rattle.bench.specs.Laws.{Asks}
use Rattle.bench.specs.declared.call.Reply.TheVariants as reply
use Rattle.bench.proofs.Keepings.{known_some, ended_turn, may_be_known, fit_in_front}
use Rattle.bench.proofs.Works.{next_fits}
use Rattle.bench.proofs.settling.turn_on.Goals as goal

pub answer_known-next-requires-clause-may : goal.answer_known-next-requires-clause-may
answer_known-next-requires-clause-may c =
    let is : known c.args.setup.now c.args.kept.now c.args.work.now.job.ask ≡ Some (record { flow = c.in-Some.flow; item = c.in-Some.item }) =
    ap (known c.args.setup.now c.args.kept.now) (sym c.ask.ensures) ∙ known_some _ c.in-Some.flow c.in-Some.item (sym c.known.ensures ∙ c.in-Some.is) in
    may_be_known c.args.setup.now c.args.kept.now c.args.work.now.job.ask (record { flow = c.in-Some.flow; item = c.in-Some.item }) c.requires.fits is

pub start-work-requires : goal.start-work-requires
start-work-requires c =
    next_fits c.args.setup.now c.args.work.now.job (Decided c.in-Some.item) [] c.answer_known-next.result c.in-Ask.ask c.requires.good
    (c.answer_known-next.ensures.answered []).move c.in-Ask.is

pub returns-in-Ask-clause-stands : goal.returns-in-Ask-clause-stands
returns-in-Ask-clause-stands c = λ going.
    let goes : c.answer_known-next.new.self ≡ answered c.args.work.now.job (Decided c.in-Some.item) c.in-Ask.ask =
    subst (λ (n : Next). GoesOn c.args.work.now.job (Decided c.in-Some.item) n c.answer_known-next.new.self) c.in-Ask.is (c.answer_known-next.ensures.answered []).job in
    ap (λ (j : JobView). j.ask) goes ∙ sym (ap (λ (w : Walk). w.ask) c.start-work.ensures.walk)

pub returns-in-End-clause-one : goal.returns-in-End-clause-one
returns-in-End-clause-one c = λ held.
    let k : Known = record { flow = c.in-Some.flow; item = c.in-Some.item } in
    let is : known c.args.setup.now c.args.kept.now c.args.work.now.job.ask ≡ Some k =
    ap (known c.args.setup.now c.args.kept.now) (sym c.ask.ensures) ∙ known_some _ c.in-Some.flow c.in-Some.item (sym c.known.ensures ∙ c.in-Some.is) in
    let stands : known c.args.setup.now c.args.kept.now c.args.work.now.walk.ask ≡ Some k = ap (known c.args.setup.now c.args.kept.now) (sym c.requires.stands) ∙ is in
    let asks : Asks c.args.setup.now c.args.work.now.job.instance c.args.work.now.job.aim c.args.work.now.job.segment c.args.work.now.job.answers c.args.work.now.walk.ask =
    subst (λ (q : Ask). Asks c.args.setup.now c.args.work.now.job.instance c.args.work.now.job.aim c.args.work.now.job.segment c.args.work.now.job.answers q) c.requires.stands c.requires.asks in
    ap (λ o. settled_by (λ x. x) c.args.setup.now c.args.work.now.job.instance (desk_of c.args.work.now held c.args.kept.now, reply.Going)
    (option_map {T = Known} {U = JobState × Known} (λ x. (shown_work c.args.work.now, x)) o)) stands
    ∙ ended_turn c.args.setup.now c.args.work.now.job.instance (shown_work c.args.work.now) (desk_of c.args.work.now held c.args.kept.now) k asks stands
    c.answer_known-next.result (c.answer_known-next.ensures.answered _).move c.in-End.verdict c.in-End.outs c.in-End.is c.answer_known-next.ensures.same
    ∙ ap (λ (x : Entries). (record { job = Rattle.std.specs.Prelude.None; held = held; kept = x }, reply.Done c.in-End.verdict c.in-End.outs)) (sym c.find.ensures.front)

pub returns-in-Ask-clause-asks : goal.returns-in-Ask-clause-asks
returns-in-Ask-clause-asks c = λ going.
    let goes : c.answer_known-next.new.self ≡ answered c.args.work.now.job (Decided c.in-Some.item) c.in-Ask.ask =
    subst (λ (n : Next). GoesOn c.args.work.now.job (Decided c.in-Some.item) n c.answer_known-next.new.self) c.in-Ask.is (c.answer_known-next.ensures.answered []).job in
    subst (λ (j : JobView). Asks c.args.setup.now c.args.work.now.job.instance j.aim j.segment j.answers j.ask) (sym goes)
    ([], sym (ap (λ (m : Move). m.next) (c.answer_known-next.ensures.answered []).move) ∙ c.in-Ask.is)

pub returns-in-Ask-clause-instance : goal.returns-in-Ask-clause-instance
returns-in-Ask-clause-instance c = λ going.
    ap (λ (j : JobView). j.instance)
    (subst (λ (n : Next). GoesOn c.args.work.now.job (Decided c.in-Some.item) n c.answer_known-next.new.self) c.in-Ask.is (c.answer_known-next.ensures.answered []).job)

pub returns-in-Ask-clause-fits : goal.returns-in-Ask-clause-fits
returns-in-Ask-clause-fits c = subst (KeptFit c.args.setup.now) (sym c.find.ensures.front) (fit_in_front c.args.setup.now c.args.kept.now c.in-Some.flow c.requires.fits)

pub returns-in-End-clause-fits : goal.returns-in-End-clause-fits
returns-in-End-clause-fits c = subst (KeptFit c.args.setup.now) (sym c.find.ensures.front) (fit_in_front c.args.setup.now c.args.kept.now c.in-Some.flow c.requires.fits)
