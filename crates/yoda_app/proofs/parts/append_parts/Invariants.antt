use Rattle.std.proofs.Common.{◌≡◌, [], length}
use Rattle.shelf.specs.Shelf.{SameOthers, NoneFell, StaysSure}
use Rattle.yoda_app.specs.Parts.{AreSpliced, parts_text}
use Rattle.yoda_app.specs.Written.{Sends}
use Rattle.yoda_app.proofs.parts.append_parts.Given as goal

abbrev pub invariant-loop-rest : goal.invariant-loop-rest
invariant-loop-rest g l = record {
  spliced : AreSpliced l.trace l.rest;
  empty : l.buffer.items ≡ [];
  sends : Sends (g.H.Shelf.content l.fn.shelf l.name) (g.H.Shelf.content l.shelf l.name) [] (parts_text l.trace l.rest) (parts_text l.trace l.parts);
  others : SameOthers l.name (g.H.Shelf.content l.fn.shelf) (g.H.Shelf.content l.shelf);
  counts : NoneFell (g.H.Shelf.faults l.fn.shelf) (g.H.Shelf.faults l.shelf);
  stays : StaysSure (g.H.Shelf.sure l.fn.shelf) (g.H.Shelf.sure l.shelf);
}

abbrev pub decreases-loop-rest : goal.decreases-loop-rest
decreases-loop-rest g l = length l.rest
