-- The calls of each seat are those of its worker's items.
use Rattle.run_threads.proofs.Named.{calls_named}
use Rattle.run_threads.proofs.laws.calls_are_named.Goals as goal

pub returns : goal.returns
returns c inputs lines outs histories run w g h within below = calls_named inputs lines outs histories run w g h within below
