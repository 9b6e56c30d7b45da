use Rattle.rule_table.proofs.MatchLemmas.{matched_by_head, admitted_by_head, matched_is_rule, picked_is_admitted}
use Rattle.rule_table.proofs.laws.matches.Goals as goal

pub returns-clause-matched : goal.returns-clause-matched
returns-clause-matched c = matched_by_head

pub returns-clause-admitted : goal.returns-clause-admitted
returns-clause-admitted c = admitted_by_head

pub returns-clause-rule : goal.returns-clause-rule
returns-clause-rule c = matched_is_rule

pub returns-clause-picked : goal.returns-clause-picked
returns-clause-picked c = picked_is_admitted
