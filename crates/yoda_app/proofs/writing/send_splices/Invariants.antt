use Rattle.std.proofs.Common.{length}
use Rattle.shelf.specs.Shelf.{SameOthers, NoneFell, StaysSure}
use Rattle.yoda_app.specs.Spliced.{AreInOrder, text_from, text_of}
use Rattle.yoda_app.specs.Written.{Sends}
use Rattle.yoda_app.proofs.writing.send_splices.Given as goal

abbrev pub invariant-loop-rest : goal.invariant-loop-rest
invariant-loop-rest g l = record {
  order : AreInOrder l.trace l.own l.from l.rest;
  sends : Sends (g.H.Shelf.content l.fn.shelf l.name) (g.H.Shelf.content l.shelf l.name) l.buffer.items (text_from l.trace l.own l.from l.rest) (text_of l.trace l.text);
  others : SameOthers l.name (g.H.Shelf.content l.fn.shelf) (g.H.Shelf.content l.shelf);
  counts : NoneFell (g.H.Shelf.faults l.fn.shelf) (g.H.Shelf.faults l.shelf);
  stays : StaysSure (g.H.Shelf.sure l.fn.shelf) (g.H.Shelf.sure l.shelf);
}

abbrev pub decreases-loop-rest : goal.decreases-loop-rest
decreases-loop-rest g l = length l.rest
