use Rattle.std.proofs.Common.{◌≡◌, ℕ, ◌+◌, List, Option, Some, ◌∙◌, subst, arith, rules, length-drop}
use Rattle.std.proofs.lemmas.Grind.{common_steps}
use Rattle.std.specs.Prelude.{IfSome}
use Rattle.shelf.specs.Shelf.{IsRead}
use borrow.Rule.Slice.PartMut.{post_of}
use Rattle.yoda_app.proofs.Filled.{filled_more}
use Rattle.yoda_app.proofs.filling.fill.Goals as goal

pub loop-filled-preserved : goal.loop-filled-preserved
loop-filled-preserved g c =
    let now = c.loop-filled in
    let count = c.in_ok-count.count in
    let name = c.args.name.now in
    let read : (content : List ℕ) → g.H.Shelf.content c.args.shelf.now name ≡ Some content → IsRead content (c.args.at + now.filled) c.read.new.buf count =
    λ content told. subst (λ (o : Option (List ℕ)). IfSome o (λ d. IsRead d (c.args.at + now.filled) c.read.new.buf count)) (now.invariant.same name ∙ told) c.in_ok-count.ensures.bytes in
    record {
      sized = search rules;
      within = search rules;
      bytes = λ content told. (
        filled_more content now.room c.read.new.buf (post_of now.filled _ now.room) c.args.at now.filled count now.invariant.within (now.invariant.bytes content told).0
            c.in_ok-count.ensures.bound (read content told).bytes,
        (let inside = (read content told).inside in let before = (now.invariant.bytes content told).1 in omega arith),
      );
      same = search rules;
      counts = search rules;
      stays = search rules;
    }
