use Rattle.std.proofs.Common.{List, sym, subst, ◌∙◌}
use Rattle.yoda_app.specs.Parts.{AreSpliced}
use Rattle.yoda_app.specs.declared.spliced.Spliced.{Spliced}
use Rattle.yoda_app.proofs.InParts.{bare_spliced, whole_capture}
use Rattle.yoda_app.proofs.sent_parts.capture_in_parts.Goals as goal

pub returns-clause-text : goal.returns-clause-text
returns-clause-text c =
    let a = c.args in
    let r = c.requires in
    whole_capture a.trace.now a.frames.now a.sent.now c.in_ok-head.head a.first a.second a.third a.fourth c.in_ok-parts.parts.items
    (c.in_ok-head.ensures.own ∙ c.in_ok-own.ensures) c.in_ok-head.ensures.none c.in_ok-parts.ensures r.first.1 r.second.1 r.third.1 r.fourth.1

pub returns-clause-spliced : goal.returns-clause-spliced
returns-clause-spliced c =
    let r = c.requires in
    subst (λ (parts : List Spliced). AreSpliced c.args.trace.now parts) (sym c.in_ok-parts.ensures)
    (bare_spliced c.args.trace.now c.in_ok-head.head c.in_ok-head.ensures.none, (r.first.0, (r.second.0, (r.third.0, (r.fourth.0, tt)))))
