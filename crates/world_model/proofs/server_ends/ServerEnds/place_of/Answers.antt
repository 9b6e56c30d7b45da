use Rattle.std.proofs.Common.{◌≡◌, List, sym, ap, subst, ◌∙◌}
use Rattle.std.specs.Prelude.{IfSome, find, slice_get}
use Rattle.world_model.specs.Names.{end_name}
use Rattle.world_model.specs.World.{is_end}
use Rattle.world_model.specs.declared.server_end.ServerEnd.{ServerEnd}
use Rattle.world_model.proofs.Named.{both_turned, found_there, none_there}
use Rattle.world_model.proofs.server_ends.ServerEnds.place_of.Goals as goal

pub returns-clause-found : goal.returns-clause-found
returns-clause-found c =
    let v = c.args.server in
    let p = c.args.port in
    subst (λ (xs : List ServerEnd). IfSome c.get_index_of.result (λ i. slice_get xs i ≡ find (is_end v p) xs)) c.self.view_is
    (found_there end_name _ (is_end v p) (λ s. both_turned v s.server p s.port) c.self.inside.ends.items c.self.inside.names.keys c.get_index_of.result c.self.invariant c.get_index_of.ensures.index)

pub returns-clause-none : goal.returns-clause-none
returns-clause-none c = λ is.
    let v = c.args.server in
    let p = c.args.port in
    ap (find (is_end v p)) (sym c.self.view_is)
    ∙ none_there end_name _ (is_end v p) (λ s. both_turned v s.server p s.port) c.self.inside.ends.items c.self.inside.names.keys c.self.invariant (sym c.get_index_of.ensures.index ∙ is)
