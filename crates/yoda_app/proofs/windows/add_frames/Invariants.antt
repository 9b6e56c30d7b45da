use Rattle.std.proofs.Common.{◌≡◌, ℕ, List, ◌+◌, ◌-◌, ◌≤◌, length}
use Rattle.std.specs.String.{string_bytes}
use Rattle.pcap_file.specs.Capture.{settings_of}
use Rattle.yoda_app.specs.Walks.{IsUpTo}
use Rattle.yoda_app.specs.Windows.{IsWindow}
use Rattle.yoda_app.proofs.windows.add_frames.Given as goal

abbrev pub invariant-loop-frames : goal.invariant-loop-frames
invariant-loop-frames l = record {
  settings : l.reader.settings ≡ settings_of l.window;
  place : l.reader.place ≡ l.place;
  past : 24 ≤ l.place;
  inside : l.place ≤ length l.window;
  few : l.frames ≤ 262145;
  lines : (trace : List ℕ) (by : ℕ) → IsWindow trace by l.window → IsUpTo trace (string_bytes l.fn.text) l.fn.first (24 + by) → IsUpTo trace (string_bytes l.text) l.frames (l.place + by);
}

abbrev pub decreases-loop-frames : goal.decreases-loop-frames
decreases-loop-frames l = length l.window - l.place
