use Rattle.std.proofs.Common.{◌≡◌, ℕ, List, ◌-◌, ◌≤◌, take, drop, length}
use Rattle.std.specs.Prelude.{Some}
use Rattle.shelf.specs.Shelf.{SameContents, NoneFell, StaysSure}
use Rattle.yoda_app.proofs.filling.fill.Given as goal

abbrev pub invariant-loop-filled : goal.invariant-loop-filled
invariant-loop-filled g l = record {
  sized : length l.room ≡ length l.fn.room;
  within : l.filled ≤ length l.room;
  bytes : (c : List ℕ) → g.H.Shelf.content l.fn.shelf l.name ≡ Some c → (take l.filled l.room ≡ take l.filled (drop l.at c)) × (l.filled ≤ length c - l.at);
  same : SameContents (g.H.Shelf.content l.fn.shelf) (g.H.Shelf.content l.shelf);
  counts : NoneFell (g.H.Shelf.faults l.fn.shelf) (g.H.Shelf.faults l.shelf);
  stays : StaysSure (g.H.Shelf.sure l.fn.shelf) (g.H.Shelf.sure l.shelf);
}

abbrev pub decreases-loop-filled : goal.decreases-loop-filled
decreases-loop-filled g l = length l.room - l.filled
