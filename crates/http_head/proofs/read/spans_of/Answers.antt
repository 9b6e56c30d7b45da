use Rattle.std.proofs.Common.{Ok, ap, subst, sym, ◌∙◌}
use Rattle.http_head.proofs.SpanLemmas.{IsIncomplete, shown_from_complete, without_head_from_incomplete}
use Rattle.http_head.proofs.read.spans_of.Goals as goal

pub returns-in-Ok-Complete-clause-found : goal.returns-in-Ok-Complete-clause-found
returns-in-Ok-Complete-clause-found c =
    shown_from_complete c.args.bytes.now c.parse_request.new.headers c.parse_request.result c.in-Ok-Complete.spans
    (c.in-Ok-Complete.is ∙ ap Ok c.in-Ok-Complete.field-0-is) (c.parse_request.auto.headers ∙ c.requires)
    c.parse_request.ensures.within c.parse_request.ensures.complete

pub returns-in-Ok-Partial-clause-none : goal.returns-in-Ok-Partial-clause-none
returns-in-Ok-Partial-clause-none c =
    let is = c.in-Ok-Partial.is ∙ ap Ok c.in-Ok-Partial.field-0-is in
    without_head_from_incomplete c.args.bytes.now c.parse_request.new.headers _ c.parse_request.result
    (subst IsIncomplete (sym is) tt) c.requires c.parse_request.ensures.found

pub returns-in-Err-clause-none : goal.returns-in-Err-clause-none
returns-in-Err-clause-none c =
    without_head_from_incomplete c.args.bytes.now c.parse_request.new.headers _ c.parse_request.result
    (subst IsIncomplete (sym c.in-Err.is) tt) c.requires c.parse_request.ensures.found
