use Rattle.std.proofs.Common.{◌<◌, ◌++◌, ◌∷◌, [], length, vec_capacity, arith, ap, sym, ◌∙◌, append_assoc}
use Rattle.world_model.proofs.Laid.{behind_more, has_room, has_reach, laid_pushed}
use Rattle.world_model.specs.Placed.{behind, behind_all}
use Rattle.world_model.proofs.laying.add_outs.Goals as goal

pub push_reserved-requires : goal.push_reserved-requires
push_reserved-requires c =
    let l = c.loop-segment in
    let room : length l.sent.items < vec_capacity l.sent = has_room c.args.sent.now.items l.sent.items c.args.flow c.args.first l.yielded c.in-Some.segment c.next.new.self.rest.items c.args.outs.items _ _
    (l.invariant.is ∙ ap (λ xs. l.yielded ++ xs) c.in-Some.ensures.steps.0) l.invariant.items l.invariant.room c.requires.room in
    omega (arith, room, l.sent.ok.0)

pub behind-place-requires : goal.behind-place-requires
behind-place-requires c = λ moves.
    let l = c.loop-segment in
    has_reach c.args.first l.place l.yielded c.in-Some.segment c.next.new.self.rest.items c.args.outs.items _
    (l.invariant.is ∙ ap (λ xs. l.yielded ++ xs) c.in-Some.ensures.steps.0) l.invariant.place (ap length c.as_slice.ensures) c.requires.short moves

pub loop-segment-preserved : goal.loop-segment-preserved
loop-segment-preserved c =
    let l = c.loop-segment in
    let s = c.in-Some.segment in record {
      is = l.invariant.is ∙ ap (λ xs. l.yielded ++ xs) c.in-Some.ensures.steps.0 ∙ sym (append_assoc l.yielded (s ∷ []) c.next.new.self.rest.items);
      items = laid_pushed c.args.flow c.args.first l.yielded s c.args.sent.now.items l.sent.items c.push_reserved.new.self.items l.place l.invariant.items l.invariant.place c.push_reserved.ensures.items;
      place = c.behind-place.ensures ∙ ap (λ p. behind p (length c.as_slice.result.now)) l.invariant.place ∙ ap (λ b. behind (behind_all c.args.first l.yielded) (length b)) c.as_slice.ensures ∙ sym (behind_more c.args.first l.yielded s);
      room = c.push_reserved.ensures.capacity ∙ l.invariant.room;
    }
