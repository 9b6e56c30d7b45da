use Rattle.rule_text.proofs.TomlLemmas.{array_of-view}
use Rattle.rule_text.proofs.values.array_of.Goals as goal

pub returns : goal.returns
returns c = array_of-view c.as_array.result _ c.as_array.ensures
