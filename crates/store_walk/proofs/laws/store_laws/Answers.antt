use Rattle.store_walk.proofs.Late.{late_law}
use Rattle.store_walk.proofs.Origins.{origin_on_cells, origin_in_walks, origin_of_decided}
use Rattle.store_walk.proofs.Runs.{order_law, agreement_law, word_law, word_stays, absent_law}
use Rattle.store_walk.proofs.laws.store_laws.Goals as goal

pub returns-clause-order : goal.returns-clause-order
returns-clause-order c = order_law

pub returns-clause-origin_on_cells : goal.returns-clause-origin_on_cells
returns-clause-origin_on_cells c = origin_on_cells

pub returns-clause-origin_in_walks : goal.returns-clause-origin_in_walks
returns-clause-origin_in_walks c = origin_in_walks

pub returns-clause-origin_of_decided : goal.returns-clause-origin_of_decided
returns-clause-origin_of_decided c = origin_of_decided

pub returns-clause-agreement : goal.returns-clause-agreement
returns-clause-agreement c = agreement_law

pub returns-clause-word : goal.returns-clause-word
returns-clause-word c = word_law

pub returns-clause-word_stays : goal.returns-clause-word_stays
returns-clause-word_stays c = word_stays

pub returns-clause-late_agreement : goal.returns-clause-late_agreement
returns-clause-late_agreement c = late_law

pub returns-clause-absence : goal.returns-clause-absence
returns-clause-absence c = absent_law
