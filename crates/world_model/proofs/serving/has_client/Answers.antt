use Rattle.std.proofs.Common.{◌∙◌}
use Rattle.world_model.proofs.Named.{other_life, other_service, same_client}
use Rattle.world_model.proofs.serving.has_client.Goals as goal

pub returns-then-service-flow : goal.returns-then-service-flow
returns-then-service-flow c = other_service c.args.service c.args.flow.now c.args.clients.now c.if-service-flow.true

pub returns-then-flow-ne0 : goal.returns-then-flow-ne0
returns-then-flow-ne0 c = other_life c.args.service c.args.flow.now c.args.clients.now c.if-flow-ne0.true

pub returns : goal.returns
returns c = c.has.ensures ∙ same_client c.args.service c.args.flow.now c.args.clients.now c.if-service-flow.false c.if-flow-ne0.false
