use Rattle.std.proofs.Common.{◌≡◌, ◌++◌, length}
use Rattle.std.specs.List.{AllByRecursion}
use Rattle.yoda_app.specs.Outs.{IsSentFrom, sent_records}
use Rattle.yoda_app.specs.Spliced.{IsSpliced, text_of}
use Rattle.yoda_app.proofs.sent_parts.add_sent.Given as goal

abbrev pub invariant-loop-rest : goal.invariant-loop-rest
invariant-loop-rest l = record {
  sent : AllByRecursion (IsSentFrom l.trace l.frames) l.rest;
  spliced : IsSpliced l.trace l.part;
  records : text_of l.trace l.part ++ sent_records l.frames l.rest ≡ text_of l.trace l.fn.part ++ sent_records l.frames l.sent;
}

abbrev pub decreases-loop-rest : goal.decreases-loop-rest
decreases-loop-rest l = length l.rest
