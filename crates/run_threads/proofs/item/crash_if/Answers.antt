use Rattle.std.proofs.Common.{sym, subst}
use Rattle.run_threads.specs.Crews.{CrewMakes}
use Rattle.bench.specs.Blocks.{crash_of}
use Rattle.run_threads.proofs.Crews.{made_none}
use Rattle.run_threads.proofs.item.crash_if.Goals as goal

pub returns-in-None-clause-made : goal.returns-in-None-clause-made
returns-in-None-clause-made g c =
    subst (λ after. CrewMakes c.args.locks.now c.args.seats.now c.args.seats.now (crash_of c.args.setup.now c.args.instance after)) (sym c.in-None.is) (made_none c.args.setup.now c.args.locks.now c.args.seats.now c.requires.crew)
