use Rattle.world_model.proofs.Makes.{made_reached}
use Rattle.world_model.proofs.Reaching.{safe_now}
use Rattle.world_model.proofs.world.World.step.Goals as goal

pub invariant_of-self-2 : goal.invariant_of-self-2
invariant_of-self-2 c =
    made_reached c.steps_are_events.ensures c.self.inside.state c.make.new.self c.args.event.now c.can.result c.fits.ensures c.self.invariant
    c.can.ensures c.if-not-can.false c.in_ok-make.ensures.ok

pub returns-clause-safe : goal.returns-clause-safe
returns-clause-safe c =
    safe_now c.streams_agree.ensures c.make.new.self
    (made_reached c.steps_are_events.ensures c.self.inside.state c.make.new.self c.args.event.now c.can.result c.fits.ensures c.self.invariant
    c.can.ensures c.if-not-can.false c.in_ok-make.ensures.ok)
