use Rattle.std.proofs.Common.{◌++◌, [], ◌∷◌, map, sym, ap, ◌∙◌, refl}
use Rattle.std.specs.Prelude.{find}
use Rattle.world_model.specs.Names.{end_name}
use Rattle.world_model.specs.World.{is_end}
use Rattle.world_model.specs.contracts.server_ends.EndNamePartialEq.TheImpl.{eq-value}
use Rattle.world_model.proofs.Named.{both_turned, named_more}
use Rattle.world_model.proofs.server_ends.ServerEnds.add.Goals as goal

pub invariant_of-self-2 : goal.invariant_of-self-2
invariant_of-self-2 c =
    let s = c.args.end in
    named_more end_name _ (is_end s.server s.port) (λ t. both_turned s.server t.server s.port t.port) (eq-value).it s (λ n. refl)
    c.self.inside.ends.items c.self.inside.names.keys c.insert.new.self.keys c.self.invariant (ap (find (is_end s.server s.port)) c.self.view_is ∙ c.requires) c.in_ok-insert.ensures.keys
    ∙ ap (map end_name) (ap (λ xs. xs ++ s ∷ []) (sym c.in_ok-reserve.ensures.items) ∙ sym c.push_reserved.ensures.items)
