use Rattle.std.proofs.Common.{◌<◌, sym, ◌∙◌, subst}
use Rattle.bench.specs.Prepared.{prepared_of}
use Rattle.run_threads.proofs.Owners.{work_owner, work_whose, ended_whose, owner_there}
use Rattle.run_threads.proofs.owner.owner_of.Goals as goal

pub returns-in-Work-clause-there : goal.returns-in-Work-clause-there
returns-in-Work-clause-there c =
    let inputs = c.args.inputs.now in
    let frame = c.args.frame.now in
    subst (λ k. k < inputs.setup.instances)
    (sym (work_owner inputs.setup c.args.item (prepared_of inputs c.args.item frame) c.in-Work.aim c.in-Work.instance c.in-Work.shard (sym c.in-Work.is ∙ c.judge.ensures)))
    (owner_there c.assignments.ensures inputs c.known.ensures c.args.item frame)

pub returns-in-Work-clause-which : goal.returns-in-Work-clause-which
returns-in-Work-clause-which c =
    work_whose (prepared_of c.args.inputs.now c.args.item c.args.frame.now) c.in-Work.aim c.in-Work.instance c.in-Work.shard (sym c.in-Work.is ∙ c.judge.ensures)

pub returns-in-Ended-clause-which : goal.returns-in-Ended-clause-which
returns-in-Ended-clause-which c = ended_whose (prepared_of c.args.inputs.now c.args.item c.args.frame.now) c.in-Ended.verdict (sym c.in-Ended.is ∙ c.judge.ensures)
