use Rattle.std.proofs.Common.{◌≡◌, ◌≤◌, ◌-◌, ◌++◌, length}
use Rattle.pcap_file.specs.Frames.{left_of}
use Rattle.bench.proofs.input.frames.Frames.from.Given as goal

abbrev pub invariant-loop-frame : goal.invariant-loop-frame
invariant-loop-frame l = record {
  inside : l.reader.place ≤ length l.trace;
  frames : l.items.items ++ (left_of l.reader l.trace).frames ≡ (left_of l.fn.reader l.trace).frames;
}

abbrev pub decreases-loop-frame : goal.decreases-loop-frame
decreases-loop-frame l = length l.trace - l.reader.place
