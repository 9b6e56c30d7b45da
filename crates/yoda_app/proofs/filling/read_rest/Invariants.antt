use Rattle.std.proofs.Common.{◌-◌, ◌≡◌, length}
use Rattle.shelf.specs.Shelf.{SameContents, NoneFell, StaysSure}
use Rattle.yoda_app.proofs.filling.read_rest.Given as goal

abbrev pub invariant-loop-at : goal.invariant-loop-at
invariant-loop-at g l = record {
  sized : length l.room ≡ length l.fn.room;
  same : SameContents (g.H.Shelf.content l.fn.shelf) (g.H.Shelf.content l.shelf);
  counts : NoneFell (g.H.Shelf.faults l.fn.shelf) (g.H.Shelf.faults l.shelf);
  stays : StaysSure (g.H.Shelf.sure l.fn.shelf) (g.H.Shelf.sure l.shelf);
}

abbrev pub decreases-loop-at : goal.decreases-loop-at
decreases-loop-at g l = l.size - l.at
