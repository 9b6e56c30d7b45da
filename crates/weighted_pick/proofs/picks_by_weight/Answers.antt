use Rattle.weighted_pick.proofs.PickLemmas.{picked_has_weight}
use Rattle.weighted_pick.proofs.picks_by_weight.Goals as goal

pub returns : goal.returns
returns c = picked_has_weight
