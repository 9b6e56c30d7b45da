use Rattle.std.proofs.Common.{ℕ, ◌+◌, List, sym, subst, arith, rules}
use Rattle.std.specs.String.{string_bytes}
use Rattle.pcap_file.specs.Capture.{settings_of, IsFrame}
use Rattle.pcap_file.specs.declared.capture.Settings.{Settings}
use Rattle.yoda_app.specs.Walks.{IsUpTo}
use Rattle.yoda_app.proofs.Lines.{up_frame}
use Rattle.yoda_app.proofs.Windowed.{at_end}
use Rattle.yoda_app.proofs.windows.add_frames.Goals as goal

pub loop-frames-preserved : goal.loop-frames-preserved
loop-frames-preserved c =
    let now = c.loop-frames in
    let window = c.args.window.now in
    let f = c.in-Ok-Some.frame in
    let found : IsFrame now.reader.settings now.reader.place window f = (rw c.in-Ok-Some.field-0-is at c.in-Ok-Some.ensures.found) in
    let here : IsFrame now.reader.settings now.place window f = subst (λ (p : ℕ). IsFrame now.reader.settings p window f) now.invariant.place found in
    let is : IsFrame (settings_of window) now.place window f = subst (λ (s : Settings). IsFrame s now.place window f) now.invariant.settings here in
    let place = is.place in
    let inside = is.inside in
    record {
      settings = search rules;
      place = search rules;
      past = omega arith;
      inside = omega arith;
      few = search rules;
      lines = λ trace by shows before.
          subst (λ (t : List ℕ). IsUpTo trace t (now.frames + 1) (f.at + f.kept + by)) (sym c.in_ok-add_line-in-Ok-Some.ensures)
          (up_frame trace by window (string_bytes now.text) now.frames now.place f shows now.invariant.past is (now.invariant.lines trace by shows before));
    }

pub returns-in-Ok-None-clause-end : goal.returns-in-Ok-None-clause-end
returns-in-Ok-None-clause-end c =
    let now = c.loop-frames in
    let here = at_end now.reader.settings now.reader.place c.args.window.now (omega arith) (rw c.in-Ok-None.field-0-is at c.in-Ok-None.ensures.end) in
    (search rules, omega arith)
