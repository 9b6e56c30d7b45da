use Rattle.server_hand.proofs.Choices.{chosen_is_admitted, chosen_where_matched}
use Rattle.server_hand.proofs.laws.chosen_is_admitted.Goals as goal

pub returns-clause-admitted : goal.returns-clause-admitted
returns-clause-admitted c = chosen_is_admitted

pub returns-clause-matched : goal.returns-clause-matched
returns-clause-matched c = chosen_where_matched
