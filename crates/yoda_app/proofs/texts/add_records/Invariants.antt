use Rattle.std.proofs.Common.{◌≡◌, ◌≤◌, ◌+◌, ◌-◌, ◌*◌, length, drop}
use Rattle.std.specs.String.{string_bytes}
use Rattle.pcap_file.specs.Frames.{capture_of, left_of}
use Rattle.plain_run.specs.UnderWay.{IsRunOf}
use Rattle.yoda_app.specs.Spliced.{IsSpliced, text_of}
use Rattle.yoda_app.proofs.Growing.{IsWritten}
use Rattle.yoda_app.proofs.texts.add_records.Given as goal

abbrev pub invariant-loop-frame : goal.invariant-loop-frame
invariant-loop-frame l =
    let left = (left_of l.reader l.trace).frames in record {
      inside : l.reader.place ≤ length l.trace;
      next : l.run.next ≡ l.item;
      of : IsRunOf l.inputs l.run;
      all : l.item + length left ≡ l.inputs.records;
      behind : left ≡ drop l.item (capture_of l.inputs.trace).frames;
      few : l.sent ≤ 11 * l.item;
      spliced : IsSpliced l.trace l.texts.out;
      written : IsWritten l.inputs (text_of l.trace l.fn.texts.out) (string_bytes l.fn.texts.report) (text_of l.trace l.texts.out) (string_bytes l.texts.report) l.run.benches l.item l.sent left;
    }

abbrev pub decreases-loop-frame : goal.decreases-loop-frame
decreases-loop-frame l = length l.trace - l.reader.place
