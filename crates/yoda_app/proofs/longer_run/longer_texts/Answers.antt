use Rattle.yoda_app.proofs.LongerTexts.{longer_texts}
use Rattle.yoda_app.proofs.longer_run.longer_texts.Goals as goal

pub returns : goal.returns
returns c = longer_texts c.longer_runs.ensures
