use Rattle.std.proofs.Common.{◌∙◌, ap}
use Rattle.life_chain.specs.Chains.{shown}
use Rattle.life_chain.proofs.ChainLemmas.{stands_now}
use Rattle.life_chain.proofs.chain.Chain.next.Goals as goal

pub returns-clause-found : goal.returns-clause-found
returns-clause-found c line answers stands = c.stood.ensures ∙ ap shown (stands_now c.args.self.now line answers stands)
