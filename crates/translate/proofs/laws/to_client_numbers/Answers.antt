use Rattle.translate.proofs.Numbers.{to_client_numbers}
use Rattle.translate.proofs.laws.to_client_numbers.Goals as goal

pub returns : goal.returns
returns c = to_client_numbers
