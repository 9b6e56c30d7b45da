use Rattle.std.proofs.Common.{[], ◌∙◌}
use Rattle.job_core.proofs.Alike.{move_alike}
use Rattle.job_core.proofs.job.Job.answer_in.Goals as goal

pub returns-clause-answered : goal.returns-clause-answered
returns-clause-answered c held =
    record {
      move = c.moved_in.ensures.moves ∙ c.in-Ok.ensures.leads.0 ∙ move_alike _ _ _ _ _ [] held (c.requires.moves []);
      job = c.moved_in.ensures.goes_on;
    }
