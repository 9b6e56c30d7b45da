use Rattle.script_text.proofs.IndexLemmas.{all_empty}
use Rattle.script_text.proofs.lives.Lives.new.Goals as goal

pub returns-clause-none : goal.returns-clause-none
returns-clause-none c = λ number. all_empty (λ changes. changes.items) _ number c.loop.invariant.none
