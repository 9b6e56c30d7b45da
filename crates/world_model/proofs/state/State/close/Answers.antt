use Rattle.std.proofs.Common.{◌∙◌, ap}
use Rattle.tcp_end.specs.EndState.{closed_end}
use Rattle.world_model.specs.World.{with_end}
use Rattle.world_model.proofs.Swaps.{end_made}
use Rattle.world_model.proofs.state.State.close.Goals as goal

pub returns-clause-ok : goal.returns-clause-ok
returns-clause-ok c =
    c.swap-2.ensures.world ∙ ap (λ w. with_end w c.args.at.now c.close.new.self) c.swap.ensures.world
    ∙ end_made c.args.self.now c.args.at.now closed_end c.client-end.result c.swap.new.end c.close.new.self c.swap.ensures.end c.close.ensures
