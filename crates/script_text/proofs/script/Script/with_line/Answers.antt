use Rattle.std.proofs.Common.{All, IsTrue, sym, subst, ◌∙◌}
use Rattle.std.proofs.lemmas.List.Elements.{All-push}
use Rattle.script_text.specs.Faults.{is_ranged}
use Rattle.script_text.specs.Index.{IsIndex, MayStand, HasRoom}
use Rattle.script_text.proofs.FaultLemmas.{has_room}
use Rattle.script_text.proofs.script.Script.with_line.Goals as goal

pub invariant_of-result : goal.invariant_of-result
invariant_of-result c =
    let lines = c.self.inside.lines.items in
    let instances = c.self.inside.instances in
    let replicas = c.self.inside.replicas in
    let ranged : IsTrue (is_ranged instances replicas c.args.line) = subst (λ v. IsTrue (is_ranged v.sizes.instances v.sizes.replicas c.args.line)) (sym c.self.view_is) c.requires.ranged in
    let stands : MayStand lines c.args.line = subst (λ v. MayStand v.lines c.args.line) (sym c.self.view_is) c.requires.stands in
    let items = c.in_ok-push.ensures.items in
    record {
      ranged = subst (λ xs. All (λ line. IsTrue (is_ranged instances replicas line)) xs) (sym items)
          (All-push (λ line. IsTrue (is_ranged instances replicas line)) lines c.args.line c.self.invariant.ranged ranged);
      indexed = subst (λ xs. IsIndex xs c.add.new.self) (sym items) (c.in_ok-add.ensures.added lines c.self.invariant.indexed stands);
      room = c.add.ensures.room ∙ c.self.invariant.room;
      few = c.self.invariant.few;
      fewer = c.self.invariant.fewer;
    }

pub add-requires : goal.add-requires
add-requires c =
    let instances = c.self.inside.instances in
    let replicas = c.self.inside.replicas in
    let ranged : IsTrue (is_ranged instances replicas c.args.line) = subst (λ v. IsTrue (is_ranged v.sizes.instances v.sizes.replicas c.args.line)) (sym c.self.view_is) c.requires.ranged in
    subst (λ n. HasRoom n c.args.line) (sym c.self.invariant.room) (has_room instances replicas c.args.line ranged)
