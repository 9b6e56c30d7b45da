use Rattle.tcp_end.proofs.Prefixes.{taken-prefix}
use Rattle.tcp_end.proofs.laws.received_is_a_prefix.Goals as goal

pub returns-clause-takes : goal.returns-clause-takes
returns-clause-takes c = taken-prefix
