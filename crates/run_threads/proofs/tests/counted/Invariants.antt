use Rattle.std.proofs.Common.{◌≡◌, ◌≤◌, ◌+◌, length, ◌-◌}
use Rattle.pcap_file.specs.Frames.{left_of}
use Rattle.run_threads.proofs.tests.counted.Given as goal

abbrev pub invariant-loop-frames : goal.invariant-loop-frames
invariant-loop-frames l = record {
  inside : l.reader.place ≤ length l.trace;
  few : l.frames ≤ l.reader.place;
  frames : l.frames + length (left_of l.reader l.trace).frames ≡ length (left_of l.fn.reader l.trace).frames;
  fault : (left_of l.reader l.trace).fault ≡ (left_of l.fn.reader l.trace).fault;
}

abbrev pub decreases-loop-frames : goal.decreases-loop-frames
decreases-loop-frames l = length l.trace - l.reader.place
