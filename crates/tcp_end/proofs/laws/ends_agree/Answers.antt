use Rattle.tcp_end.proofs.Prefixes.{agree}
use Rattle.tcp_end.proofs.laws.ends_agree.Goals as goal

pub returns : goal.returns
returns c = agree
