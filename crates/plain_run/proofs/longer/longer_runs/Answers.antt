use Rattle.plain_run.proofs.LongerRuns.{all_longer_runs}
use Rattle.plain_run.proofs.longer.longer_runs.Goals as goal

pub returns : goal.returns
returns c = all_longer_runs
