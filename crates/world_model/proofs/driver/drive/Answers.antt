use Rattle.world_model.proofs.Spared.{driven_safe}
use Rattle.world_model.proofs.driver.drive.Goals as goal

pub returns-clause-agree : goal.returns-clause-agree
returns-clause-agree c = (driven_safe _ c.args.flows c.args.bytes c.args.number c.in_ok-world.ensures c.known.ensures.reached c.known.ensures.safe).0

pub returns-clause-backed : goal.returns-clause-backed
returns-clause-backed c = (driven_safe _ c.args.flows c.args.bytes c.args.number c.in_ok-world.ensures c.known.ensures.reached c.known.ensures.safe).1
