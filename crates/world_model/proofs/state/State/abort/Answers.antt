use Rattle.std.proofs.Common.{◌++◌, ◌∷◌, [], sym, ◌∙◌, ap}
use Rattle.world_model.specs.Posted.{end, nowhere}
use Rattle.world_model.specs.Routes.{route_of, segment_on}
use Rattle.world_model.specs.Steps.{plain}
use Rattle.world_model.specs.contracts.state.State.{the_view}
use Rattle.world_model.specs.declared.event.Event.TheVariants.{Abort}
use Rattle.world_model.proofs.Making.{abort_there, aborted_made, by_view, can_view, no_reset, with_ends}
use Rattle.world_model.proofs.state.State.abort.Goals as goal

pub abort_at-reset-requires-clause-there : goal.abort_at-reset-requires-clause-there
abort_at-reset-requires-clause-there c =
    abort_there (the_view c.self.inside) c.args.at.now (can_view (the_view c.self.inside) c.args.self.now (Abort c.args.at.now) c.self.view_is c.requires.can)

pub returns-in_default-clause-ok : goal.returns-in_default-clause-ok
returns-in_default-clause-ok c =
    no_reset (the_view c.self.inside) c.args.at.now (can_view (the_view c.self.inside) c.args.self.now (Abort c.args.at.now) c.self.view_is c.requires.can)
    (λ e here. sym c.in_default.is ∙ c.abort_at-reset.ensures.reset e here)

pub returns-clause-ok : goal.returns-clause-ok
returns-clause-ok c =
    let w = the_view c.self.inside in
    let at = c.args.at.now in
    ap (λ xs. with_ends w c.abort_at-reset.new.ends.items c.abort_at-reset.new.servers xs) (c.push_reserved.ensures.items
    ∙ ap (λ x. c.reserve.new.self.items ++ x ∷ []) (c.nowhere.ensures ∙ ap (λ s. nowhere (end at) s) (c.segment-segment.ensures
    ∙ ap (λ r. segment_on r c.in-Some.part plain) (c.route_of.ensures ∙ ap (λ xs. route_of c.self.inside.setup xs at) c.as_slice.ensures)))
    ∙ ap (λ xs. xs ++ nowhere (end at) (segment_on (route_of w.setup w.clients at) c.in-Some.part plain) ∷ []) c.reserve.ensures.items)
    ∙ by_view w c.args.self.now _ (Abort at) c.self.view_is
    (aborted_made w at c.abort_at-reset.new.ends.items c.abort_at-reset.new.servers c.in-Some.part (can_view w c.args.self.now (Abort at) c.self.view_is c.requires.can)
    c.abort_at-reset.ensures.ends c.abort_at-reset.ensures.servers (λ e here. sym c.in-Some.is ∙ c.abort_at-reset.ensures.reset e here))
