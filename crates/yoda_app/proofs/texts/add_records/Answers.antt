use Rattle.std.proofs.Common.{◌≡◌, ℕ, ◌+◌, List, [], ◌∷◌, ◌++◌, length, refl, sym, ap, subst, ◌∙◌, arith}
use Rattle.std.specs.Prelude.{Option, Result, IfSome, IfErr, slice_range}
use Rattle.std.specs.String.{string_bytes}
use Rattle.std.proofs.lemmas.Grind.{common_steps}
use Rattle.pcap_file.specs.declared.capture.Frame.{Frame}
use Rattle.pcap_file.specs.declared.capture.PcapFault.{PcapFault}
use Rattle.pcap_file.specs.Frames.{Capture, capture_of, left_of, before, stopped}
use Rattle.plain_run.specs.Benches.{Benches}
use Rattle.plain_run.proofs.Runs.{IsSoFar, at_first, at_last}
use Rattle.report_text.specs.Reports.{line_text}
use Rattle.tcp_segment.specs.declared.segment.Segment.{Segment}
use Rattle.yoda_app.specs.Outs.{AreMadeOf, frame_records, packet_in, sent_records}
use Rattle.yoda_app.specs.Spliced.{IsSpliced, text_of}
use Rattle.yoda_app.proofs.MadeOf.{handled_of}
use Rattle.yoda_app.proofs.Growing.{still_left, written_first, written_more}
use Rattle.yoda_app.proofs.texts.add_records.Goals.{in_default, in_default-2}
use Rattle.yoda_app.proofs.texts.add_records.Goals as goal

pub loop-frame-init : goal.loop-frame-init
loop-frame-init c =
    let inputs = c.args.inputs.now in
    let all = (capture_of inputs.trace).frames in
    let left = (left_of c.args.reader c.as_slice-trace.result.now).frames in
    let run = c.in_ok-run.run' in
    let whole : left ≡ all = ap (λ (bytes : List ℕ). (left_of c.args.reader bytes).frames) c.as_slice-trace.ensures ∙ ap (λ (x : Capture). x.frames) c.requires.left in
    let far : IsSoFar inputs [] [] run.benches 0 left =
    subst (λ (fs : List Frame). IsSoFar inputs [] [] run.benches 0 fs) (sym whole)
    (subst (λ (b : Benches). IsSoFar inputs [] [] b 0 all) (sym c.in_ok-run.ensures.benches) (at_first inputs)) in record {
      inside = omega (arith, c.requires.inside, ap length c.as_slice-trace.ensures);
      next = c.in_ok-run.ensures.first;
      of = c.in_ok-run.ensures.run;
      all = omega (arith, ap length whole, c.requires.inputs.records);
      behind = whole;
      few = omega arith;
      spliced = subst (λ (bytes : List ℕ). IsSpliced bytes c.args.texts.now.out) (sym c.as_slice-trace.ensures) c.requires.spliced;
      written = written_first inputs _ _ _ _ run.benches left far refl refl;
    }

pub loop-frame-preserved : goal.loop-frame-preserved
loop-frame-preserved c =
    let inputs = c.args.inputs.now in
    let all = (capture_of inputs.trace).frames in
    let rest = (left_of c.next.new.self c.as_slice-trace.result.now).frames in
    let frame = c.in-Ok-Some.frame in
    let item = c.loop-frame.item in
    let l = c.loop-frame.invariant in
    let h = c.handle-handled.result in
    let texts = c.loop-frame.texts in
    let left : (left_of c.loop-frame.reader c.as_slice-trace.result.now).frames ≡ frame ∷ rest =
    ap (λ (x : Capture). x.frames) (subst (λ (o : Option Frame). IfSome o (λ f. left_of c.loop-frame.reader c.as_slice-trace.result.now ≡ before f (left_of c.next.new.self c.as_slice-trace.result.now))) c.in-Ok-Some.field-0-is c.in-Ok-Some.ensures.frame) in
    let trace = c.as_slice-trace.result.now in
    let records : text_of trace c.add_outs.new.out ≡ text_of trace texts.out ++ frame_records frame h.outs.list =
    c.in_ok-add_outs.ensures.added ∙ ap (λ (x : List Segment). text_of trace texts.out ++ frame_records frame x) c.as_slice.ensures in
    let told : string_bytes c.add_line.new.report ≡ string_bytes texts.report ++ line_text item h.line.instance h.line.verdict = c.in_ok-add_line.ensures in record {
      inside = c.next.ensures.inside;
      next = c.handle-handled.ensures.next ∙ ap (λ (n : ℕ). n + 1) l.next;
      of = c.handle-handled.ensures.run;
      all = omega (arith, ap length left);
      behind = still_left item all _ rest frame left l.behind;
      few = omega (arith, c.count-sent.ensures.few, l.few);
      spliced = c.in_ok-add_outs.ensures.spliced;
      written = rw c.count-sent.ensures.count (written_more inputs (text_of trace c.args.texts.now.out) (string_bytes c.args.texts.now.report) _ _ _ _ c.loop-frame.run.benches c.handle-handled.new.self.benches item c.loop-frame.sent
          frame _ rest h left l.behind l.written (rw l.next at c.handle-handled.ensures.made) records told);
    }

pub add_outs-requires-clause-made : goal.add_outs-requires-clause-made
add_outs-requires-clause-made c =
    let inputs = c.args.inputs.now in
    let trace = c.as_slice-trace.result.now in
    let frame = c.in-Ok-Some.frame in
    let h = c.handle-handled.result in
    let far = c.loop-frame.invariant.written.far in
    let same : packet_in inputs.trace frame ≡ slice_range trace c.packet_at-packet.result.start c.packet_at-packet.result.end =
    ap (λ (bytes : List ℕ). packet_in bytes frame) (sym c.as_slice-trace.ensures) ∙ sym c.packet_at-packet.ensures.is in
    let made : AreMadeOf (packet_in inputs.trace frame) h.outs.list =
    handled_of inputs h c.loop-frame.run.benches c.handle-handled.new.self.benches far.calls c.loop-frame.run.next frame far.led c.handle-handled.ensures.made in
    subst (λ (outs : List Segment). AreMadeOf (slice_range trace c.packet_at-packet.result.start c.packet_at-packet.result.end) outs) (sym c.as_slice.ensures)
    (subst (λ (packet : List ℕ). AreMadeOf packet h.outs.list) same made)

pub returns-clause-adds : goal.returns-clause-adds
returns-clause-adds c =
    let trace = c.as_slice-trace.result.now in
    let told : trace ≡ c.args.inputs.now.trace = c.as_slice-trace.ensures in
    let left : (left_of c.loop-frame.reader c.as_slice-trace.result.now).frames ≡ [] =
    elim c.match-next.branch [ in_default w ↦ grind (arith, common_steps) | in_default-2 w ↦ ap (λ (x : Capture). x.frames) (subst (λ (r : Result (Option Frame) PcapFault). IfErr r (λ e. left_of c.loop-frame.reader c.as_slice-trace.result.now ≡ stopped e)) w.in_default.is c.next.ensures.fault) ] in
    let l = c.loop-frame.invariant in
    let w = l.written in record {
      lines = w.lines;
      outs = w.outs;
      run = at_last c.args.inputs.now w.lines w.outs c.loop-frame.run.benches c.loop-frame.item _ left w.far;
      out = subst (λ (bytes : List ℕ). text_of bytes c.loop-frame.texts.out ≡ text_of bytes c.args.texts.now.out ++ sent_records (capture_of c.args.inputs.now.trace).frames w.outs) told w.records;
      report = w.told;
      records = omega (arith, w.total, l.all, ap length left);
      sent = w.sent;
    }
