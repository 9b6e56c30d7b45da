use Rattle.std.proofs.Common.{◌∙◌, ap}
use Rattle.tcp_end.specs.EndState.{written_more}
use Rattle.world_model.specs.World.{with_end}
use Rattle.world_model.proofs.Swaps.{end_made}
use Rattle.world_model.proofs.state.State.write.Goals as goal

pub returns-in-Ok-clause-ok : goal.returns-in-Ok-clause-ok
returns-in-Ok-clause-ok c =
    c.swap-2.ensures.world ∙ ap (λ w. with_end w c.args.at.now c.write-done.new.self) c.swap.ensures.world
    ∙ end_made c.args.self.now c.args.at.now (λ e. written_more e c.args.bytes.now) c.client-end.result c.swap.new.end c.write-done.new.self c.swap.ensures.end
    (c.in-Ok.ensures.ok ∙ ap (λ xs. written_more c.swap.new.end xs) c.as_slice.ensures)
