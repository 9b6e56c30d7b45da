-- What an entry shows is all of it.
use Rattle.run_threads.proofs.Determined.{determined}
use Rattle.run_threads.proofs.laws.journal_determines.Goals as goal

pub returns : goal.returns
returns c inputs good sized script read lines lines' outs outs' h k one two is = determined inputs good sized script read lines lines' outs outs' h k one two is
