use Rattle.std.proofs.Common.{sym, subst}
use Rattle.run_threads.specs.Crews.{CrewMakes}
use Rattle.run_threads.specs.Items.{fails_of}
use Rattle.run_threads.proofs.Crews.{made_none}
use Rattle.run_threads.proofs.item.fail_if.Goals as goal

pub returns-in-None-clause-made : goal.returns-in-None-clause-made
returns-in-None-clause-made g c =
    subst (λ replica. CrewMakes c.args.locks.now c.args.seats.now c.args.seats.now (fails_of c.args.setup.now replica)) (sym c.in-None.is) (made_none c.args.setup.now c.args.locks.now c.args.seats.now c.requires.crew)
