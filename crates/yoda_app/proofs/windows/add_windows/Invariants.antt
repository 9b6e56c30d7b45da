use Rattle.std.proofs.Common.{◌≡◌, ℕ, List, ◌+◌, ◌-◌, ◌≤◌, min, length}
use Rattle.std.specs.String.{string_bytes}
use Rattle.shelf.specs.Shelf.{SameContents, NoneFell, StaysSure}
use Rattle.yoda_app.specs.Walks.{IsUpTo, Holds}
use Rattle.yoda_app.specs.Windows.{IsShown}
use Rattle.yoda_app.proofs.windows.add_windows.Given as goal

abbrev pub invariant-loop-more : goal.invariant-loop-more
invariant-loop-more g l = record {
  sized : length l.window ≡ min l.size 262184;
  within : l.filled ≤ length l.window;
  inside : l.by + l.filled ≤ l.size;
  few : l.frames ≤ 262144;
  shown : (trace : List ℕ) → Holds trace (g.H.Shelf.content l.fn.shelf l.name) l.size → IsShown trace l.by l.window l.filled;
  lines : (trace : List ℕ) → Holds trace (g.H.Shelf.content l.fn.shelf l.name) l.size → IsUpTo trace (string_bytes l.text) l.frames (24 + l.by);
  same : SameContents (g.H.Shelf.content l.fn.shelf) (g.H.Shelf.content l.shelf);
  counts : NoneFell (g.H.Shelf.faults l.fn.shelf) (g.H.Shelf.faults l.shelf);
  stays : StaysSure (g.H.Shelf.sure l.fn.shelf) (g.H.Shelf.sure l.shelf);
}

abbrev pub decreases-loop-more : goal.decreases-loop-more
decreases-loop-more g l = l.size - l.by
