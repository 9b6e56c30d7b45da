use Rattle.server_hand.proofs.Numbers.{opening_numbers}
use Rattle.server_hand.proofs.laws.opening_numbers.Goals as goal

pub returns : goal.returns
returns c = opening_numbers
