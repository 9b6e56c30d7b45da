-- The next window of a trace.
use Rattle.std.proofs.Common.{◌≡◌, ℕ, ◌+◌, ◌-◌, ◌≤◌, ◌<◌, ◌⊎◌, inl, inr, true, Option, Bool, false, nat_lt, List, [], ◌∷◌, ◌++◌, length, take, drop, min, take-take, refl, sym, ◌∙◌, ap, arith, length-drop}
use Rattle.std.proofs.lemmas.List.{take-append-drop, length-take, length-take-le, take_all, append-nil, drop_all, drop-drop, drop-take}
use Rattle.std.proofs.lemmas.Bool.{cases_lt}
use Rattle.common.specs.Faults.{first}
use Rattle.pcap_file.specs.Capture.{settings_of, header_faults}
use Rattle.pcap_file.specs.declared.capture.PcapFault.{PcapFault}
use Rattle.pcap_file.specs.declared.capture.PcapFault.TheVariants.{HeaderCut}
use Rattle.pcap_file.specs.declared.capture.Settings.{Settings}
use Rattle.pcap_file.proofs.Walks.{lt-false}
use Rattle.yoda_app.specs.Walks.{IsUpTo, IsTurn, Holds}
use Rattle.yoda_app.specs.Windows.{IsWindow, IsFilled, IsShown, IsRefilled}
use Rattle.plain_run.proofs.LongerCaptures.{settings_same, tests_same}

-- ---- what 24 bytes say
settings_by_head : (v : List ℕ) → 24 ≤ length v → settings_of v ≡ settings_of (take 24 v)
settings_by_head v long =
    ap settings_of (sym (take-append-drop 24 v)) ∙ settings_same (take 24 v) (drop 24 v) (omega (arith, length-take 24 v))

faults_by_head : (v : List ℕ) → 24 ≤ length v → first (header_faults v) ≡ first (drop 1 (header_faults (take 24 v)))
faults_by_head v long =
    ap (λ (short : Bool). first ((short, HeaderCut (length v)) ∷ drop 1 (header_faults v))) (lt-false (length v) 24 long)
    ∙ ap (λ (u : List ℕ). first (drop 1 (header_faults u))) (sym (take-append-drop 24 v))
    ∙ ap first (tests_same (take 24 v) (drop 24 v) (omega (arith, length-take 24 v)))

settings_head : (v w : List ℕ) → 24 ≤ length v → 24 ≤ length w → take 24 v ≡ take 24 w → settings_of v ≡ settings_of w
settings_head v w a b same = settings_by_head v a ∙ ap settings_of same ∙ sym (settings_by_head w b)

faults_head : (v w : List ℕ) → 24 ≤ length v → 24 ≤ length w → take 24 v ≡ take 24 w → first (header_faults v) ≡ first (header_faults w)
faults_head v w a b same =
    faults_by_head v a ∙ ap (λ (u : List ℕ). first (drop 1 (header_faults u))) same ∙ sym (faults_by_head w b)

-- ---- the windows
body_of : (trace window : List ℕ) (by : ℕ) → 24 ≤ length window → drop 24 window ≡ take (length window - 24) (drop (24 + by) trace)
    → drop (24 + by) trace ≡ drop 24 window ++ drop (by + length window) trace
body_of trace window by long is =
    let k : ℕ = length window - 24 in
    let behind : drop k (drop (24 + by) trace) ≡ drop (by + length window) trace =
    drop-drop k (24 + by) trace ∙ ap (λ (n : ℕ). drop n trace) (let h : 24 + by + k ≡ by + length window = omega arith in h) in
    sym (take-append-drop k (drop (24 + by) trace))
    ∙ ap (λ (xs : List ℕ). xs ++ drop k (drop (24 + by) trace)) (sym is)
    ∙ ap (λ (xs : List ℕ). drop 24 window ++ xs) behind

no_more : (xs ys : List ℕ) → ys ≡ [] → xs ≡ xs ++ ys
no_more xs ys is = sym (ap (λ (zs : List ℕ). xs ++ zs) is ∙ append-nil xs)

-- a window that is the whole trace
pub whole_window : (trace window : List ℕ) → window ≡ trace → IsWindow trace 0 window
whole_window trace window is = record {
  header = ap (λ (xs : List ℕ). first (header_faults xs)) is;
  settings = ap settings_of is;
  inside = omega (arith, ap length is);
  body = no_more (drop 24 trace) (drop (0 + length window) trace) (drop_all (0 + length window) trace (omega (arith, ap length is)))
      ∙ ap (λ (xs : List ℕ). drop 24 xs ++ drop (0 + length window) trace) (sym is);
}

-- .. that is its beginning
pub first_window : (trace window : List ℕ) → 24 ≤ length window → length window ≤ length trace → window ≡ take (length window) trace → IsWindow trace 0 window
first_window trace window long inside is =
    let k : ℕ = length window - 24 in
    let head : take 24 window ≡ take 24 trace =
    ap (take 24) is ∙ take-take 24 (length window) trace long in
    let cut : drop 24 window ≡ take k (drop 24 trace) =
    ap (drop 24) (is ∙ ap (λ (n : ℕ). take n trace) (let h : length window ≡ 24 + k = omega arith in h)) ∙ drop-take 24 k trace in record {
      header = faults_head window trace long (omega arith) head;
      settings = settings_head window trace long (omega arith) head;
      inside = omega arith;
      body = body_of trace window 0 long cut;
    }

-- .. that follows another
pub next_window : (trace : List ℕ) (by later : ℕ) (old new : List ℕ) → IsWindow trace by old → 24 ≤ length old → 24 ≤ length new → take 24 new ≡ take 24 old
    → later + length new ≤ length trace → drop 24 new ≡ take (length new - 24) (drop (24 + later) trace) → IsWindow trace later new
next_window trace by later old new is a b head inside body = record {
  header = faults_head new old b a head ∙ is.header;
  settings = settings_head new old b a head ∙ is.settings;
  inside = inside;
  body = body_of trace new later b body;
}

-- ---- what is shown of a trace
-- .. at its beginning
pub shown_first : (trace room : List ℕ) (n : ℕ) → length room ≡ min (length trace) 262184 → IsFilled trace 0 room n → IsShown trace 0 room n
shown_first trace room n sized is = by_length (cases_lt n 24)
  where
    all : n ≡ min (length room) (length trace - 0)
    all = is.all

    long : length (take n room) ≡ n
    long = length-take-le n room (omega (arith, is.all))

    by_length : (n < 24) ⊎ (24 ≤ n) → IsShown trace 0 room n
    by_length (inl short) = record {
      shows = whole_window trace (take n room) (is.bytes ∙ take_all n trace (omega (arith, is.all)));
      all = all;
    }
    by_length (inr enough) = record {
      shows = first_window trace (take n room) (omega (arith, long)) (omega (arith, long, is.all)) (is.bytes ∙ ap (λ (k : ℕ). take k trace) (sym long));
      all = all;
    }

-- .. later
pub shown_next : (trace : List ℕ) (by later : ℕ) (old new : List ℕ) (n m : ℕ) → IsWindow trace by (take n old) → 24 ≤ n → n ≤ length old → 24 ≤ m → m ≤ length new
    → take 24 new ≡ take 24 old → later + m ≤ length trace → IsRefilled trace later new m → IsShown trace later new m
shown_next trace by later old new n m is a b c d head inside refilled =
    let old_long : length (take n old) ≡ n = length-take-le n old b in
    let new_long : length (take m new) ≡ m = length-take-le m new d in record {
      shows = next_window trace by later (take n old) (take m new) is (omega arith) (omega arith)
          (take-take 24 m new c ∙ head ∙ sym (take-take 24 n old a)) (omega arith)
          (refilled.body ∙ ap (λ (k : ℕ). take (k - 24) (drop (24 + later) trace)) (sym new_long));
      all = refilled.all;
    }

-- ---- a window's turn
pub turn_of : (trace window text : List ℕ) (held : Option (List ℕ)) (size by filled frames : ℕ) (is_last : Bool) → Holds trace held size → size ≤ 67_108_864 → by + filled ≤ size
    → filled ≤ length window → IsShown trace by window filled → IsUpTo trace text frames (24 + by)
    → (is_last ≡ true → (filled < length window) ⊎ (by + filled ≡ size)) → IsTurn trace by (take filled window) is_last text frames
turn_of trace window text held size by filled frames is_last holds fits inside within shown lines ends = record {
  shows = shown.shows;
  before = lines;
  last = λ last. by_end (ends last);
  fits = omega (arith, holds.sized);
}
  where
    long : length (take filled window) ≡ filled
    long = length-take-le filled window within

    by_end : (filled < length window) ⊎ (by + filled ≡ size) → by + length (take filled window) ≡ length trace
    by_end (inl less) = omega (arith, long, shown.all, holds.sized)
    by_end (inr all) = omega (arith, long, holds.sized)
