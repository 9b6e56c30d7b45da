use Rattle.world_model.proofs.laws.wrong_worlds.Goals as goal

pub returns : goal.returns
returns c = Rattle.world_model.proofs.WrongWorlds.wrong_worlds
