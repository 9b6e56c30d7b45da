use Rattle.translate.proofs.Numbers.{to_server_numbers}
use Rattle.translate.proofs.laws.to_server_numbers.Goals as goal

pub returns : goal.returns
returns c = to_server_numbers
