use Rattle.world_model.proofs.Scheduled.{out_is}
use Rattle.world_model.proofs.calm_part.deliver_out.Goals as goal

pub returns : goal.returns
returns c =
    out_is c.args.bytes c.args.world.now c.take_out.new.world c.args.plan.now c.draw-number.new.self c.args.index c.draw-number.result
    c.in_ok-take_out.ensures c.draw-number.ensures.value c.draw-number.ensures.moved
