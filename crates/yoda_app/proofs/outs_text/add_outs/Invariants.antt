use Rattle.std.proofs.Common.{◌≡◌, ◌++◌, length}
use Rattle.std.specs.Prelude.{slice_range}
use Rattle.std.specs.List.{AllByRecursion}
use Rattle.bench.specs.Fitting.{IsShort}
use Rattle.yoda_app.specs.Outs.{AreMadeOf, frame_records}
use Rattle.yoda_app.specs.Spliced.{IsSpliced, text_of}
use Rattle.yoda_app.proofs.outs_text.add_outs.Given as goal

abbrev pub invariant-loop-rest : goal.invariant-loop-rest
invariant-loop-rest l = record {
  made : AreMadeOf (slice_range l.trace l.packet.start l.packet.end) l.rest;
  short : AllByRecursion IsShort l.rest;
  spliced : IsSpliced l.trace l.out;
  records : text_of l.trace l.out ++ frame_records l.frame l.rest ≡ text_of l.trace l.fn.out ++ frame_records l.frame l.outs;
}

abbrev pub decreases-loop-rest : goal.decreases-loop-rest
decreases-loop-rest l = length l.rest
