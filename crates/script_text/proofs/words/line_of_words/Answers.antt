use Rattle.std.proofs.Common.{ap, sym, option_map, arith}
use Rattle.script_text.specs.Words.{cut_line}
use Rattle.script_text.proofs.WordLemmas.{line_of-five}
use Rattle.script_text.proofs.words.line_of_words.Goals as goal

pub returns-in_default-2 : goal.returns-in_default-2
returns-in_default-2 c =
    sym (ap (option_map cut_line) (line_of-five (λ w. w.now) c.args.words.now (omega arith) (omega arith)))
