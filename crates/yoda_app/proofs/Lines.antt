-- The lines of a trace, from window to window.
use Rattle.std.proofs.Common.{◌≡◌, ℕ, ◌+◌, ◌≤◌, List, [], ◌∷◌, ◌++◌, length, nat_lt, if◌then◌else◌, append_assoc, Err, refl, sym, ◌∙◌, ap, arith}
use Rattle.std.specs.Prelude.{Result}
use Rattle.bench.specs.Incoming.{incoming, network_incoming}
use Rattle.job_core.specs.declared.verdict.Verdict.{Verdict}
use Rattle.job_core.specs.declared.verdict.Verdict.TheVariants.{SnapCut}
use Rattle.pcap_file.specs.Capture.{settings_of, IsFrame}
use Rattle.pcap_file.specs.Ethernet.{network_of}
use Rattle.pcap_file.specs.Frames.{Capture, before}
use Rattle.pcap_file.specs.declared.capture.Frame.{Frame}
use Rattle.tcp_segment.specs.declared.segment.Segment.{Segment}
use Rattle.yoda_app.specs.Dumps.{dump_line, dump_lines}
use Rattle.yoda_app.specs.Walks.{IsUpTo}
use Rattle.yoda_app.specs.Windows.{rest_of, IsWindow, moved}
use Rattle.yoda_app.proofs.Windowed.{part_there, rest_frame}

-- the text and the line of one frame more
pub up_frame : (trace : List ℕ) (by : ℕ) (window text : List ℕ) (n at : ℕ) (f : Frame) → IsWindow trace by window → 24 ≤ at → IsFrame (settings_of window) at window f
    → IsUpTo trace text n (at + by) → IsUpTo trace (text ++ dump_line n (incoming window f)) (n + 1) (f.at + f.kept + by)
up_frame trace by window text n at f is past frame up =
    let place = frame.place in
    let inside = frame.inside in
    let rest : Capture = rest_of trace (f.at + f.kept + by) in
    let more : rest_of trace (at + by) ≡ before (moved by f) rest = rest_frame trace by window is at f past frame in
    let same : incoming trace (moved by f) ≡ incoming window f =
    ap (λ (bytes : List ℕ). if nat_lt f.kept f.original then Err SnapCut else network_incoming (network_of f.link bytes)) (part_there trace by window is f (omega arith) (omega arith)) in
    let counted : length (rest_of trace (at + by)).frames ≡ length (moved by f ∷ rest.frames) = ap (λ (c : Capture). length c.frames) more in
    let count = up.count in record {
      lines = append_assoc text (dump_line n (incoming window f)) (dump_lines trace (n + 1) rest.frames)
          ∙ ap (λ (i : Result Segment Verdict). text ++ (dump_line n i ++ dump_lines trace (n + 1) rest.frames)) (sym same)
          ∙ ap (λ (c : Capture). text ++ dump_lines trace n c.frames) (sym more)
          ∙ up.lines;
      count = omega arith;
      fault = ap (λ (c : Capture). c.fault) (sym more) ∙ up.fault;
    }

-- no line, at the first record
pub up_to_first : (trace : List ℕ) → IsUpTo trace [] 0 24
up_to_first trace = record { lines = refl; count = omega arith; fault = refl }
