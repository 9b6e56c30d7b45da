use Rattle.http_head.proofs.ReadingLemmas.{complete_is_head, head_is_one, complete_stays, head_alone, others_by_lines, bad_stays}
use Rattle.http_head.proofs.laws.readings.Goals as goal

pub returns-clause-exact : goal.returns-clause-exact
returns-clause-exact c = complete_is_head

pub returns-clause-one : goal.returns-clause-one
returns-clause-one c = head_is_one

pub returns-clause-stays : goal.returns-clause-stays
returns-clause-stays c = complete_stays

pub returns-clause-alone : goal.returns-clause-alone
returns-clause-alone c = head_alone

pub returns-clause-others : goal.returns-clause-others
returns-clause-others c = others_by_lines

pub returns-clause-bad : goal.returns-clause-bad
returns-clause-bad c = bad_stays
