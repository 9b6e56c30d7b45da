-- Each record is told of by its owner, on its own shard.
use Rattle.run_threads.proofs.Causes.{verdicts_caused}
use Rattle.run_threads.proofs.laws.verdicts_are_caused.Goals as goal

pub returns : goal.returns
returns c inputs sized lines outs histories run item frame line there is = verdicts_caused inputs sized c.assignments.ensures lines outs histories run item frame line there is
