use Rattle.world_model.proofs.laws.first_flow.Goals as goal

pub returns : goal.returns
returns c = Rattle.world_model.proofs.FirstFlow.first_flow
