use Rattle.std.proofs.Common.{ap, ◌∙◌, is_some}
use Rattle.script_text.proofs.index.Index.is_twice.Goals as goal

pub returns-in-Give : goal.returns-in-Give
returns-in-Give c = λ lines is. rw c.in-Give.is (c.contains_key.ensures ∙ ap is_some (is.gives c.in-Give.item))
