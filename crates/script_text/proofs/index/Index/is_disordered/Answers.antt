use Rattle.std.proofs.Common.{ap, ◌∙◌, sym, not}
use Rattle.script_text.proofs.index.Index.is_disordered.Goals as goal

pub returns-in-Crash : goal.returns-in-Crash
returns-in-Crash c = λ lines is.
    rw c.in-Crash.is (ap not (c.may_end.ensures ∙ sym ((is.lives c.in-Crash.instance).crash c.in-Crash.item)))

pub returns-in-Back : goal.returns-in-Back
returns-in-Back c = λ lines is.
    rw c.in-Back.is (ap not (c.may_begin.ensures ∙ sym ((is.lives c.in-Back.instance).back c.in-Back.item)))
