use Rattle.std.proofs.Common.{rules, sym, ◌∙◌}
use Rattle.world_model.specs.Schedule.{is_finished, is_over}
use Rattle.world_model.specs.World.{end_of_client}
use Rattle.world_model.proofs.Ranges.{one_fails}
use Rattle.world_model.proofs.calm_part.is_over.Goals as goal

pub returns-then-not-is_finished : goal.returns-then-not-is_finished
unfolding is_over
returns-then-not-is_finished c = sym (one_fails (λ k. is_finished (end_of_client c.args.world.now k)) c.args.flows c.loop-client.client c.loop-client-test.true (sym c.is_finished.ensures ∙ (search rules)))
