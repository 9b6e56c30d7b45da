-- The texts of a run grow record by record.
use Rattle.std.proofs.Common.{◌≡◌, ℕ, zero, suc, ◌+◌, List, [], ◌∷◌, ◌++◌, map, length, drop, refl, sym, ◌∙◌, ap, arith, append_assoc, length-append}
use Rattle.std.proofs.lemmas.List.{append-nil}
use Rattle.std.proofs.lemmas.List.Concat.{flat_map-append}
use Rattle.std.specs.Option.{option_map_or}
use Rattle.std.specs.Prelude.{Some, slice_get}
use Rattle.bench.specs.declared.input.inputs.Inputs.{Inputs}
use Rattle.bench.specs.declared.input.line.Line.{Line}
use Rattle.pcap_file.specs.Frames.{capture_of}
use Rattle.pcap_file.specs.Written.{record_bytes}
use Rattle.pcap_file.specs.declared.capture.Frame.{Frame}
use Rattle.plain_run.specs.Benches.{Benches}
use Rattle.plain_run.specs.Fold.{block_of}
use Rattle.plain_run.specs.Made.{IsMadeAfter}
use Rattle.plain_run.specs.declared.fold.Handled.{Handled}
use Rattle.plain_run.proofs.Runs.{IsSoFar, one_more}
use Rattle.report_text.specs.Reports.{line_text}
use Rattle.tcp_segment.specs.Written.{packet_bytes}
use Rattle.tcp_segment.specs.declared.segment.Segment.{Segment}
use Rattle.yoda_app.specs.Outs.{sent_record, sent_records, frame_records}
use Rattle.yoda_app.specs.Reports.{report_lines}

-- ---- the frames that are left
pub next_frame : (n : ℕ) (frames rest : List Frame) (frame : Frame) → drop n frames ≡ frame ∷ rest → slice_get frames n ≡ Some frame
next_frame zero [] rest frame is = absurd cc
next_frame (suc n) [] rest frame is = absurd cc
next_frame zero (f ∷ frames) rest frame is = cc
next_frame (suc n) (f ∷ frames) rest frame is = next_frame n frames rest frame is

frames_after : (n : ℕ) (frames rest : List Frame) (frame : Frame) → drop n frames ≡ frame ∷ rest → drop (suc n) frames ≡ rest
frames_after zero [] rest frame is = absurd cc
frames_after (suc n) [] rest frame is = absurd cc
frames_after zero (f ∷ frames) rest frame is = cc
frames_after (suc n) (f ∷ frames) rest frame is = frames_after n frames rest frame is

pub still_left : (n : ℕ) (frames left rest : List Frame) (frame : Frame) → left ≡ frame ∷ rest → left ≡ drop n frames → rest ≡ drop (n + 1) frames
still_left n frames left rest frame is all =
    let number : n + 1 ≡ suc n = omega arith in
    sym (ap (λ (m : ℕ). drop m frames) number ∙ frames_after n frames rest frame (sym all ∙ is))

-- ---- one more record
lines_more : (m : ℕ) (lines : List Line) (line : Line) (n : ℕ) → m + length lines ≡ n
    → report_lines m (lines ++ line ∷ []) ≡ report_lines m lines ++ line_text n line.instance line.verdict
lines_more m [] line n is =
    let number : m ≡ n = omega arith in
    append-nil (line_text m line.instance line.verdict) ∙ ap (λ (k : ℕ). line_text k line.instance line.verdict) number
lines_more m (l ∷ lines) line n is =
    let number : m + 1 + length lines ≡ n = omega arith in
    ap (λ (x : List ℕ). line_text m l.instance l.verdict ++ x) (lines_more (m + 1) lines line n number)
    ∙ sym (append_assoc (line_text m l.instance l.verdict) (report_lines (m + 1) lines) (line_text n line.instance line.verdict))

sent_for : (frames : List Frame) (frame : Frame) (n : ℕ) (outs : List Segment) → slice_get frames n ≡ Some frame
    → sent_records frames (map (λ out. (n, out)) outs) ≡ frame_records frame outs
sent_for frames frame n [] is = refl
sent_for frames frame n (out ∷ outs) is =
    ap (λ o. option_map_or (λ (f : Frame). record_bytes f.seconds f.micros (packet_bytes out)) o [] ++ sent_records frames (map (λ out. (n, out)) outs)) is
    ∙ ap (λ (x : List ℕ). record_bytes frame.seconds frame.micros (packet_bytes out) ++ x) (sent_for frames frame n outs is)

length_named : (n : ℕ) (outs : List Segment) → length (map {A = Segment} {B = ℕ × Segment} (λ out. (n, out)) outs) ≡ length outs
length_named n [] = refl
length_named n (out ∷ outs) = ap suc (length_named n outs)

-- what was added to the texts is that of the records before n, in which so many segments were sent
pub record IsWritten (inputs : Inputs) (out0 report0 out report : List ℕ) (benches : Benches) (n count : ℕ) (left : List Frame) : Type 0 where
  pub lines : List Line
  pub outs : List (ℕ × Segment)
  pub far : IsSoFar inputs lines outs benches n left
  pub records : out ≡ out0 ++ sent_records (capture_of inputs.trace).frames outs
  pub told : report ≡ report0 ++ report_lines 0 lines
  pub total : length lines ≡ n
  pub sent : length outs ≡ count

module _ (inputs : Inputs) (out0 report0 : List ℕ) where
  pub written_first : (out report : List ℕ) (benches : Benches) (left : List Frame) → IsSoFar inputs [] [] benches 0 left → out ≡ out0 → report ≡ report0
      → IsWritten inputs out0 report0 out report benches 0 0 left
  written_first out report benches left far same still = record {
    lines = [];
    outs = [];
    far = far;
    records = same ∙ sym (append-nil out0);
    told = still ∙ sym (append-nil report0);
    total = refl;
    sent = refl;
  }

  pub written_more : (out report more_out more_report : List ℕ) (benches next : Benches) (n count : ℕ) (frame : Frame) (left rest : List Frame) (h : Handled)
      → left ≡ frame ∷ rest → left ≡ drop n (capture_of inputs.trace).frames → IsWritten inputs out0 report0 out report benches n count left
      → IsMadeAfter inputs.setup h benches next (λ earlier. block_of inputs h.line earlier n frame)
      → more_out ≡ out ++ frame_records frame h.outs.list → more_report ≡ report ++ line_text n h.line.instance h.line.verdict
      → IsWritten inputs out0 report0 more_out more_report next (n + 1) (count + length h.outs.list) rest
  written_more out report more_out more_report benches next n count frame left rest h is all w makes added said =
      let frames = (capture_of inputs.trace).frames in
      let named : List (ℕ × Segment) = map (λ out. (n, out)) h.outs.list in
      let here : slice_get frames n ≡ Some frame = next_frame n frames rest frame (sym all ∙ is) in
      let number : 0 + length w.lines ≡ n = omega (arith, w.total) in
      record {
        lines = w.lines ++ h.line ∷ [];
        outs = w.outs ++ named;
        far = one_more inputs w.lines w.outs benches next n frame left rest h is w.far makes;
        records = added ∙ ap (λ (x : List ℕ). x ++ frame_records frame h.outs.list) w.records
            ∙ append_assoc out0 (sent_records frames w.outs) (frame_records frame h.outs.list)
            ∙ ap (λ (x : List ℕ). out0 ++ x) (ap (λ (x : List ℕ). sent_records frames w.outs ++ x) (sym (sent_for frames frame n h.outs.list here))
            ∙ sym (flat_map-append (sent_record frames) w.outs named));
        told = said ∙ ap (λ (x : List ℕ). x ++ line_text n h.line.instance h.line.verdict) w.told
            ∙ append_assoc report0 (report_lines 0 w.lines) (line_text n h.line.instance h.line.verdict)
            ∙ ap (λ (x : List ℕ). report0 ++ x) (sym (lines_more 0 w.lines h.line n number));
        total = length-append w.lines (h.line ∷ []) ∙ ap (λ (k : ℕ). k + 1) w.total;
        sent = length-append w.outs named ∙ (let same = length_named n h.outs.list in let had = w.sent in omega arith);
      }
