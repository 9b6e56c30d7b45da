use Rattle.std.proofs.Common.{◌∙◌, sym}
use Rattle.script_text.proofs.index.Index.is_living.Goals as goal

pub returns : goal.returns
returns c = λ lines is. let life = is.lives c.args.instance in c.is_living.ensures life.sorted ∙ sym (life.lives c.args.item)
