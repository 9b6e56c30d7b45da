-- A whole capture with further bytes behind it begins with the same frames, and each of them has the same bytes.
use Rattle.std.proofs.Common.{◌≡◌, ℕ, ◌+◌, ◌-◌, ◌/◌, ◌≤◌, Bool, true, false, not, ◌&&◌, ◌||◌, ◌==◌, nat_lt, if◌then◌else◌, List, [], ◌∷◌, ◌++◌, length, take, drop, slice_range, Option, Some, None, Err, refl, sym, ◌∙◌, ap, subst, arith, length-append, length-drop}
use Rattle.std.specs.List.{AllByRecursion}
use Rattle.std.proofs.lemmas.Grind.{common_steps}
use Rattle.std.proofs.lemmas.List.{drop-append-le, take-append-le}
use Rattle.bench.specs.Incoming.{incoming, network_incoming}
use Rattle.common.specs.Faults.{first}
use Rattle.job_core.specs.declared.verdict.Verdict.TheVariants.{SnapCut}
use Rattle.pcap_file.specs.Capture.{number_at, magic_of, is_little, link_type, header_faults, settings_of, IsFrame}
use Rattle.pcap_file.specs.Ethernet.{network_of}
use Rattle.pcap_file.specs.Frames.{Capture, SpellsFrames, SpellsCapture, left_of, opened_with, capture_of}
use Rattle.pcap_file.specs.declared.capture.Frame.{Frame}
use Rattle.pcap_file.specs.declared.capture.Link.TheVariants.{Ethernet, Raw}
use Rattle.pcap_file.specs.declared.capture.PcapFault.{PcapFault}
use Rattle.pcap_file.specs.declared.capture.PcapFault.TheVariants.{HeaderCut, Magic, Version, Link as UnknownLink}
use Rattle.pcap_file.specs.declared.capture.Settings.{Settings}
use Rattle.pcap_file.proofs.Walks.{lt-false, left-frame, opened-spelled}

-- ---- numbers in the first bytes
two_inside : (little : Bool) (xs ys : List ℕ) → 2 ≤ length xs → number_at little 0 2 (xs ++ ys) ≡ number_at little 0 2 xs
two_inside little [] ys h = absurd (omega arith)
two_inside little (a ∷ []) ys h = absurd (omega arith)
two_inside little (a ∷ b ∷ xs) ys h = refl

pub four_inside : (little : Bool) (xs ys : List ℕ) → 4 ≤ length xs → number_at little 0 4 (xs ++ ys) ≡ number_at little 0 4 xs
four_inside little [] ys h = absurd (omega arith)
four_inside little (a ∷ []) ys h = absurd (omega arith)
four_inside little (a ∷ b ∷ []) ys h = absurd (omega arith)
four_inside little (a ∷ b ∷ c ∷ []) ys h = absurd (omega arith)
four_inside little (a ∷ b ∷ c ∷ d ∷ xs) ys h = refl

two_at : (little : Bool) (i : ℕ) (xs ys : List ℕ) → i + 2 ≤ length xs → number_at little i 2 (xs ++ ys) ≡ number_at little i 2 xs
two_at little i xs ys h =
    ap (number_at little 0 2) (drop-append-le i xs ys (omega arith)) ∙ two_inside little (drop i xs) ys (omega (arith, length-drop i xs))

four_at : (little : Bool) (i : ℕ) (xs ys : List ℕ) → i + 4 ≤ length xs → number_at little i 4 (xs ++ ys) ≡ number_at little i 4 xs
four_at little i xs ys h =
    ap (number_at little 0 4) (drop-append-le i xs ys (omega arith)) ∙ four_inside little (drop i xs) ys (omega (arith, length-drop i xs))

-- ---- the file header
module _ (xs ys : List ℕ) (long : 24 ≤ length xs) where
  magic_inside : magic_of (xs ++ ys) ≡ magic_of xs
  magic_inside = four_at false 0 xs ys (omega arith)

  little_same : is_little (xs ++ ys) ≡ is_little xs
  little_same = ap (λ (m : ℕ). m == 0xd4c3_b2a1 || m == 0x4d3c_b2a1) magic_inside

  major_same : number_at (is_little (xs ++ ys)) 4 2 (xs ++ ys) ≡ number_at (is_little xs) 4 2 xs
  major_same = ap (λ (l : Bool). number_at l 4 2 (xs ++ ys)) little_same ∙ two_at (is_little xs) 4 xs ys (omega arith)

  minor_same : number_at (is_little (xs ++ ys)) 6 2 (xs ++ ys) ≡ number_at (is_little xs) 6 2 xs
  minor_same = ap (λ (l : Bool). number_at l 6 2 (xs ++ ys)) little_same ∙ two_at (is_little xs) 6 xs ys (omega arith)

  link_same : link_type (xs ++ ys) ≡ link_type xs
  link_same = ap (λ (l : Bool). number_at l 20 4 (xs ++ ys)) little_same ∙ four_at (is_little xs) 20 xs ys (omega arith)

  pub settings_same : settings_of (xs ++ ys) ≡ settings_of xs
  settings_same = λ k. record {
    little = little_same k;
    nano = (let m = magic_inside k in m == 0xa1b2_3c4d || m == 0x4d3c_b2a1);
    link = if link_same k == 1 then Ethernet else Raw;
  }

  -- the faults behind the first
  abbrev tests : ℕ → Bool → ℕ → ℕ → ℕ → List (Bool × PcapFault)
  tests magic little major minor link =
      (not (magic == 0xa1b2_c3d4 || magic == 0xa1b2_3c4d || little), Magic magic)
      ∷ (not (major == 2 && minor == 4), Version major minor)
      ∷ (not (link == 1 || link == 101), UnknownLink link)
      ∷ []

  pub tests_same : drop 1 (header_faults (xs ++ ys)) ≡ drop 1 (header_faults xs)
  tests_same = λ k. tests (magic_inside k) (little_same k) (major_same k) (minor_same k) (link_same k)

passed : (test : Bool) (fault : PcapFault) (tests : List (Bool × PcapFault)) → first ((test, fault) ∷ tests) ≡ None → (test ≡ false) × (first tests ≡ None)
passed true fault tests none = absurd cc
passed false fault tests none = (refl, none)

not_below : (a b : ℕ) → nat_lt a b ≡ false → b ≤ a
not_below a b is = grind (arith, common_steps)

header_long : (xs : List ℕ) → first (header_faults xs) ≡ None → 24 ≤ length xs
header_long xs none = not_below (length xs) 24 (passed (nat_lt (length xs) 24) (HeaderCut (length xs)) (drop 1 (header_faults xs)) none).0

header_again : (xs ys : List ℕ) → first (header_faults xs) ≡ None → first (header_faults (xs ++ ys)) ≡ None
header_again xs ys none =
    let behind = passed (nat_lt (length xs) 24) (HeaderCut (length xs)) (drop 1 (header_faults xs)) none in
    let long : 24 ≤ length xs = not_below (length xs) 24 behind.0 in
    let short : nat_lt (length (xs ++ ys)) 24 ≡ false = lt-false (length (xs ++ ys)) 24 (omega (arith, length-append xs ys)) in
    ap (λ (t : Bool). first ((t, HeaderCut (length (xs ++ ys))) ∷ drop 1 (header_faults (xs ++ ys)))) short
    ∙ ap first (tests_same xs ys long) ∙ behind.1

-- ---- the records
frame_inside : (s : Settings) (at : ℕ) (xs ys : List ℕ) (f : Frame) → IsFrame s at xs f → IsFrame s at (xs ++ ys) f
frame_inside s at xs ys f is =
    let long : length (xs ++ ys) ≡ length xs + length ys = length-append xs ys in record {
      head = omega (arith, is.head);
      small = is.small;
      inside = omega (arith, is.inside);
      place = is.place;
      seconds = is.seconds ∙ sym (four_at s.little at xs ys (omega (arith, is.head)));
      micros = is.micros ∙ ap (λ (n : ℕ). if s.nano then n / 1000 else n) (sym (four_at s.little (at + 4) xs ys (omega (arith, is.head))));
      kept = is.kept ∙ sym (four_at s.little (at + 8) xs ys (omega (arith, is.head)));
      original = is.original ∙ sym (four_at s.little (at + 12) xs ys (omega (arith, is.head)));
      link = is.link;
    }

-- the frame stands in so many bytes
pub record IsWithin (bytes : List ℕ) (f : Frame) : Type 0 where
  pub within : f.at + f.kept ≤ length bytes

within_all : (s : Settings) (at : ℕ) (xs : List ℕ) (frames : List Frame) → SpellsFrames s at xs frames None → AllByRecursion (IsWithin xs) frames
within_all s at xs [] is = tt
within_all s at xs (f ∷ frames) is = (record { within = omega (arith, is.0.inside, is.0.place) }, within_all s (f.at + f.kept) xs frames is.1)

frames_again : (s : Settings) (at : ℕ) (xs ys : List ℕ) (frames : List Frame) → SpellsFrames s at xs frames None
    → (left_of (record { settings = s; place = at }) (xs ++ ys)).frames ≡ frames ++ (left_of (record { settings = s; place = length xs }) (xs ++ ys)).frames
frames_again s at xs ys [] is = ap (λ (n : ℕ). (left_of (record { settings = s; place = n }) (xs ++ ys)).frames) is
frames_again s at xs ys (f ∷ frames) is =
    ap (λ (c : Capture). c.frames) (left-frame s at (xs ++ ys) f (frame_inside s at xs ys f is.0))
    ∙ ap (λ (fs : List Frame). f ∷ fs) (frames_again s (f.at + f.kept) xs ys frames is.1)

-- a capture and the frames behind it
pub record IsLonger (xs ys : List ℕ) : Type 0 where
  pub later : List Frame
  pub frames : (capture_of (xs ++ ys)).frames ≡ (capture_of xs).frames ++ later
  pub within : AllByRecursion (IsWithin xs) (capture_of xs).frames

pub longer_capture : (xs ys : List ℕ) → (capture_of xs).fault ≡ None → IsLonger xs ys
longer_capture xs ys whole = by (first (header_faults xs)) refl (opened-spelled (first (header_faults xs)) xs refl) whole
  where
    by : (o : Option PcapFault) → first (header_faults xs) ≡ o → SpellsCapture o xs (opened_with o xs) → (opened_with o xs).fault ≡ None → IsLonger xs ys
    by (Some fault) is spells none = absurd cc
    by None is spells none =
        let long : 24 ≤ length xs = header_long xs is in
        let frames : List Frame = (opened_with None xs).frames in
        let spelled : SpellsFrames (settings_of xs) 24 xs frames None = subst (SpellsFrames (settings_of xs) 24 xs frames) none spells in
        let same : (capture_of xs).frames ≡ frames = ap (λ (o : Option PcapFault). (opened_with o xs).frames) is in
        let rest : Settings → ℕ → Capture = λ s at. left_of (record { settings = s; place = at }) (xs ++ ys) in
        let all : (capture_of (xs ++ ys)).frames ≡ frames ++ (rest (settings_of xs) (length xs)).frames =
        ap (λ (o : Option PcapFault). (opened_with o (xs ++ ys)).frames) (header_again xs ys is)
        ∙ ap (λ (s : Settings). (rest s 24).frames) (settings_same xs ys long)
        ∙ frames_again (settings_of xs) 24 xs ys frames spelled in record {
          later = (rest (settings_of xs) (length xs)).frames;
          frames = all ∙ ap (λ (fs : List Frame). fs ++ (rest (settings_of xs) (length xs)).frames) (sym same);
          within = subst (AllByRecursion (IsWithin xs)) (sym same) (within_all (settings_of xs) 24 xs frames spelled);
        }

pub same_incoming : (xs ys : List ℕ) (f : Frame) → IsWithin xs f → incoming (xs ++ ys) f ≡ incoming xs f
same_incoming xs ys f is =
    let part : slice_range (xs ++ ys) f.at (f.at + f.kept) ≡ slice_range xs f.at (f.at + f.kept) =
    ap (take (f.at + f.kept - f.at)) (drop-append-le f.at xs ys (omega (arith, is.within)))
    ∙ take-append-le (f.at + f.kept - f.at) (drop f.at xs) ys (omega (arith, is.within, length-drop f.at xs)) in
    ap (λ (bytes : List ℕ). if nat_lt f.kept f.original then Err SnapCut else network_incoming (network_of f.link bytes)) part
