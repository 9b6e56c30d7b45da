-- The texts of a longer run begin with those of the shorter one.
use Rattle.std.proofs.Common.{◌≡◌, ℕ, zero, suc, ◌+◌, ◌<◌, ◌≤◌, Bool, true, false, cond, nat_lt, List, [], ◌∷◌, ◌++◌, length, take, drop, Option, slice_get, flat_map, refl, sym, ◌∙◌, ap, arith, append_assoc}
use Rattle.std.specs.Option.{option_map_or}
use Rattle.std.proofs.lemmas.Grind.{common_steps, flat_map-append}
use Rattle.std.proofs.lemmas.List.{take_at, take-append-drop}
use Rattle.bench.specs.Inputs.{IsInputs}
use Rattle.bench.specs.declared.input.inputs.Inputs.{Inputs}
use Rattle.bench.specs.declared.input.line.Line.{Line}
use Rattle.pcap_file.specs.Frames.{capture_of}
use Rattle.pcap_file.specs.Written.{header_bytes, record_bytes}
use Rattle.pcap_file.specs.declared.capture.Frame.{Frame}
use Rattle.plain_run.specs.Longer.{BeginsWith, LongerRun, LongerRuns, NoneRefused, sent_below}
use Rattle.tcp_segment.specs.Written.{packet_bytes}
use Rattle.tcp_segment.specs.declared.segment.Segment.{Segment}
use Rattle.report_text.specs.Reports.{line_text}
use Rattle.yoda_app.specs.LongerTexts.{TextsBegin, LongerTexts}
use Rattle.yoda_app.specs.Outs.{sent_record, sent_records, outs_text}
use Rattle.yoda_app.specs.Reports.{report_lines}

begins : {X : Type 0} (all first rest : List X) → all ≡ first ++ rest → BeginsWith all first
begins all first rest is = sym (take_at first rest (length first) refl) ∙ ap (take (length first)) (sym is)

goes_on : {X : Type 0} (all first : List X) → BeginsWith all first → all ≡ first ++ drop (length first) all
goes_on all first is = sym (ap (λ xs. xs ++ drop (length first) all) is ∙ take-append-drop (length first) all)

-- ---- what is sent
get_front : (n : ℕ) (xs ys : List Frame) → n < length xs → slice_get (xs ++ ys) n ≡ slice_get xs n
get_front n [] ys within = absurd (omega arith)
get_front zero (x ∷ xs) ys within = refl
get_front (suc n) (x ∷ xs) ys within = get_front n xs ys (omega arith)

is_below : (a b : ℕ) → nat_lt a b ≡ true → a < b
is_below a b is = grind (arith, common_steps)

same_records : (frames later : List Frame) (records : ℕ) → records ≤ length frames → (outs : List (ℕ × Segment))
    → sent_records (frames ++ later) (sent_below records outs) ≡ sent_records frames (sent_below records outs)
same_records frames later records few [] = refl
same_records frames later records few (out ∷ outs) = by (nat_lt out.0 records) refl (same_records frames later records few outs)
  where
    by : (t : Bool) → nat_lt out.0 records ≡ t → sent_records (frames ++ later) (sent_below records outs) ≡ sent_records frames (sent_below records outs)
        → sent_records (frames ++ later) (cond t (out ∷ sent_below records outs) (sent_below records outs))
        ≡ sent_records frames (cond t (out ∷ sent_below records outs) (sent_below records outs))
    by false is rest = rest
    by true is rest =
        let below : out.0 < records = is_below out.0 records is in
        let same : slice_get (frames ++ later) out.0 ≡ slice_get frames out.0 = get_front out.0 frames later (omega arith) in
        λ k. option_map_or (λ frame. record_bytes frame.seconds frame.micros (packet_bytes out.1)) (same k) [] ++ rest k

-- ---- the report
lines_both : (n : ℕ) (xs ys : List Line) → report_lines n (xs ++ ys) ≡ report_lines n xs ++ report_lines (n + length xs) ys
lines_both n [] ys = ap (λ (k : ℕ). report_lines k ys) (let e : n ≡ n + 0 = omega arith in e)
lines_both n (line ∷ xs) ys =
    let own : List ℕ = line_text n line.instance line.verdict in
    let number : n + 1 + length xs ≡ n + suc (length xs) = omega arith in
    ap (λ (text : List ℕ). own ++ text) (lines_both (n + 1) xs ys ∙ ap (λ (k : ℕ). report_lines (n + 1) xs ++ report_lines k ys) number)
    ∙ sym (append_assoc own (report_lines (n + 1) xs) (report_lines (n + suc (length xs)) ys))

module _ (shorter longer : Inputs) (are : IsInputs shorter) (first lines : List Line) (sent outs : List (ℕ × Segment)) (is : LongerRun shorter longer lines outs)
    (same_lines : first ≡ take shorter.records lines) (same_outs : sent ≡ sent_below shorter.records outs) where
  abbrev frames : List Frame
  frames = (capture_of shorter.trace).frames

  abbrev all_frames : List Frame
  all_frames = (capture_of longer.trace).frames

  abbrev later : List Frame
  later = drop (length frames) all_frames

  abbrev below : List (ℕ × Segment)
  below = sent_below shorter.records outs

  abbrev behind : List (ℕ × Segment)
  behind = drop (length below) outs

  all_records : sent_records all_frames outs ≡ sent_records frames sent ++ sent_records all_frames behind
  all_records =
      ap (sent_records all_frames) (goes_on outs below is.sent)
      ∙ flat_map-append (sent_record all_frames) below behind
      ∙ ap (λ (fs : List Frame). sent_records fs below ++ sent_records all_frames behind) (goes_on all_frames frames is.frames)
      ∙ ap (λ (text : List ℕ). text ++ sent_records all_frames behind) (same_records frames later shorter.records (omega (arith, are.records)) outs)
      ∙ ap (λ (os : List (ℕ × Segment)). sent_records frames os ++ sent_records all_frames behind) (sym same_outs)

  texts_begin : TextsBegin shorter longer first lines sent outs
  texts_begin =
      let rest : List Line = drop shorter.records lines in record {
        out = begins (outs_text all_frames outs) (outs_text frames sent) (sent_records all_frames behind)
            (ap (λ (text : List ℕ). header_bytes ++ text) all_records ∙ sym (append_assoc header_bytes (sent_records frames sent) (sent_records all_frames behind)));
        report = begins (report_lines 0 lines) (report_lines 0 first) (report_lines (0 + length first) rest)
            (ap (report_lines 0) (sym (take-append-drop shorter.records lines) ∙ ap (λ (ls : List Line). ls ++ rest) (sym same_lines)) ∙ lines_both 0 first rest);
      }

pub longer_texts : LongerRuns → LongerTexts
longer_texts law shorter longer are goes first lines sent outs short long none all_none =
    let is = law shorter longer are goes lines outs long in
    let same = is.only first sent short none all_none in
    texts_begin shorter longer are first lines sent outs is same.0 same.1
