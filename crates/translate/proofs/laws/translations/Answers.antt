use Rattle.translate.proofs.Numbers.{keeps_position, acknowledges_same_position, stands_at_same_position}
use Rattle.translate.proofs.laws.translations.Goals as goal

pub returns-clause-position : goal.returns-clause-position
returns-clause-position c = keeps_position

pub returns-clause-to_server : goal.returns-clause-to_server
returns-clause-to_server c = acknowledges_same_position

pub returns-clause-to_client : goal.returns-clause-to_client
returns-clause-to_client c = stands_at_same_position
