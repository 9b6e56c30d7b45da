use Rattle.rule_text.proofs.MadeLemmas.{rules_say_setups}
use Rattle.rule_text.proofs.ToldLemmas.{never_memory}
use Rattle.rule_text.proofs.laws.rules_say.Goals as goal

pub returns-clause-setups : goal.returns-clause-setups
returns-clause-setups c = rules_say_setups

pub returns-clause-faults : goal.returns-clause-faults
returns-clause-faults c = never_memory
