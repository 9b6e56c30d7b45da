use Rattle.std.proofs.Common.{subst, sym}
use Rattle.life_chain.specs.Lives.{stand}
use Rattle.life_chain.specs.Chains.{IsSettledSyn}
use Rattle.life_chain.proofs.ChainLemmas.{settled_now}
use Rattle.life_chain.proofs.chain.Chain.settled_syn.Goals as goal

pub returns-clause-settled : goal.returns-clause-settled
returns-clause-settled c line answers stands =
    subst (IsSettledSyn (stand line answers)) (sym c.syn_now.ensures) (settled_now c.args.self.now line answers stands)
