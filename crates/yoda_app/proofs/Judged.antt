-- The judgement on a trace at the end of its last window.
use Rattle.std.proofs.Common.{◌≡◌, ℕ, ◌+◌, ◌≤◌, ◌<◌, ◌⊎◌, inl, inr, Bool, true, false, not, nat_lt, List, [], ◌∷◌, ◌++◌, length, append-nil, Option, Some, None, refl, sym, ◌∙◌, ap, subst, arith}
use Rattle.std.specs.Option.{option_map, option_or}
use Rattle.common.specs.Faults.{first}
use Rattle.pcap_file.specs.Capture.{header_faults, settings_of}
use Rattle.pcap_file.specs.Frames.{Capture, ended, stopped, capture_of, opened_with, left_of}
use Rattle.pcap_file.specs.declared.capture.Frame.{Frame}
use Rattle.pcap_file.specs.declared.capture.PcapFault.{PcapFault}
use Rattle.pcap_file.proofs.Walks.{lt-false}
use Rattle.plain_run.specs.Found.{IsFoundInTrace}
use Rattle.plain_run.specs.Judgement.{trace_refusal}
use Rattle.plain_run.specs.declared.fault.Limit.TheVariants as limit
use Rattle.plain_run.specs.declared.fault.LoadFault.{LoadFault}
use Rattle.plain_run.specs.declared.fault.LoadFault.TheVariants.{Limit, Trace}
use Rattle.yoda_app.specs.Dumps.{dump_lines, dump_text}
use Rattle.yoda_app.specs.Walks.{IsUpTo, IsTurn, EndsAt, IsDumped}
use Rattle.yoda_app.specs.Windows.{rest_of, IsWindow, placed, is_cut}
use Rattle.yoda_app.specs.declared.windows.End.{End}
use Rattle.yoda_app.specs.declared.windows.End.TheVariants.{Full, Whole, Stopped}
use Rattle.yoda_app.proofs.Windowed.{rest_end, rest_stopped, cut_short}

refusal_by : (bytes records : Bool) (n : ℕ) (fault : Option PcapFault) → bytes ≡ false → records ≡ false
    → option_or (option_map Limit (first ((bytes, limit.Trace n) ∷ (records, limit.Records 262145) ∷ []))) (option_map Trace fault) ≡ option_map Trace fault
refusal_by false false n fault x y = refl
refusal_by true records n fault x y = absurd cc
refusal_by bytes true n fault x y = absurd cc

-- where the rest of a trace within its limits has no frame, the text is the dump, and the rest's fault is the trace's
pub judged_at : (trace text : List ℕ) (frames place : ℕ) (fault : Option PcapFault) → rest_of trace place ≡ record { frames = []; fault = fault }
    → IsUpTo trace text frames place → frames ≤ 262144 → length trace ≤ 67_108_864 → first (header_faults trace) ≡ None
    → (trace_refusal trace ≡ option_map Trace fault) × (text ≡ dump_text trace)
judged_at trace text frames place fault here before few fits none =
    let whole : capture_of trace ≡ rest_of trace 24 = ap (λ (o : Option PcapFault). opened_with o trace) none in
    let no_more : length (rest_of trace place).frames ≡ 0 = ap (λ (c : Capture). length c.frames) here in
    let counted : length (capture_of trace).frames ≡ length (rest_of trace 24).frames = ap (λ (c : Capture). length c.frames) whole in
    let count = before.count in
    let few_all : nat_lt 262144 (length (capture_of trace).frames) ≡ false = lt-false 262144 (length (capture_of trace).frames) (omega arith) in
    let fits_all : nat_lt 67_108_864 (length trace) ≡ false = lt-false 67_108_864 (length trace) fits in
    let faults : (capture_of trace).fault ≡ fault =
    ap (λ (c : Capture). c.fault) whole ∙ sym before.fault ∙ ap (λ (c : Capture). c.fault) here in
    let lines : text ++ [] ≡ dump_text trace =
    ap (λ (c : Capture). text ++ dump_lines trace frames c.frames) (sym here) ∙ before.lines ∙ ap (λ (c : Capture). dump_lines trace 0 c.frames) (sym whole) in (
      refusal_by (nat_lt 67_108_864 (length trace)) (nat_lt 262144 (length (capture_of trace).frames)) (length trace) (capture_of trace).fault fits_all few_all ∙ ap (option_map Trace) faults,
      sym (append-nil text) ∙ lines,
    )

-- the walk through a window of which this holds
module _ (trace : List ℕ) (by : ℕ) (window : List ℕ) (is_last : Bool) (was text : List ℕ) (first_frame frames place : ℕ)
    (turn : IsTurn trace by window is_last was first_frame) (opened : None ≡ first (header_faults window)) (past : 24 ≤ place)
    (before : IsUpTo trace text frames (place + by)) where
  abbrev none : first (header_faults trace) ≡ None
  none = sym turn.shows.header ∙ sym opened

  -- .. that ends where the trace does
  pub whole_judged : EndsAt window frames place Whole → is_last ≡ true → (trace_refusal trace ≡ None) × (text ≡ dump_text trace)
  whole_judged end last =
      judged_at trace text frames (place + by) None (rest_end trace by window turn.shows place (turn.last last) end.1) before end.0 turn.fits none

  pub stopped_judged : (fault : PcapFault) → EndsAt window frames place (Stopped fault) → (is_last ≡ true) ⊎ (is_cut fault ≡ false)
      → trace_refusal trace ≡ Some (Trace (placed (place + by) fault))
  stopped_judged fault end final =
      (judged_at trace text frames (place + by) (Some (placed (place + by) fault)) (rest_stopped trace by window turn.shows place fault past end.1 (by_last final)) before end.0 turn.fits none).0
    where
      by_last : (is_last ≡ true) ⊎ (is_cut fault ≡ false) → (by + length window ≡ length trace) ⊎ (is_cut fault ≡ false)
      by_last (inl last) = inl (turn.last last)
      by_last (inr whole) = inr whole

-- a refusal by one judgement is one by another
pub found_then : (P Q : LoadFault → Type 0) → ((f : LoadFault) → P f → Q f) → (f : LoadFault) → IsFoundInTrace P f → IsFoundInTrace Q f
found_then P Q then (Limit passed) is = then (Limit passed) is
found_then P Q then (Trace fault) is = then (Trace fault) is
found_then P Q then _ is = absurd is

-- ---- what is dumped, seen from the name
pub dumped_then : (P Q : List ℕ → Type 0) → ((trace : List ℕ) → Q trace → P trace) → (text : List ℕ) (o : Option LoadFault) → IsDumped P text o → IsDumped Q text o
dumped_then P Q then text None is = λ trace holds. is trace (then trace holds)
dumped_then P Q then text (Some fault) is =
    found_then (λ f. (trace : List ℕ) → P trace → trace_refusal trace ≡ Some f) (λ f. (trace : List ℕ) → Q trace → trace_refusal trace ≡ Some f)
    (λ f found trace holds. found trace (then trace holds)) fault is
