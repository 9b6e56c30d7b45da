-- What a window's frames and faults are in the trace.
use Rattle.std.proofs.Common.{◌≡◌, ℕ, zero, suc, ◌+◌, ◌-◌, ◌/◌, ◌≤◌, ◌<◌, ◌⊎◌, inl, inr, Bool, true, false, nat_lt, nat_le, cond, if◌then◌else◌, List, [], ◌∷◌, ◌++◌, length, take, drop, slice_range, Option, Some, None, refl, sym, ◌∙◌, ap, subst, arith, length-drop}
use Rattle.std.proofs.lemmas.Grind.{common_steps}
use Rattle.std.proofs.lemmas.List.{drop-append-le, take-append-le, drop-drop}
use Rattle.std.specs.Option.{option_map_or}
use Rattle.common.specs.Faults.{first}
use Rattle.pcap_file.specs.Capture.{number_at, settings_of, kept_at, record_faults, IsFrame}
use Rattle.pcap_file.specs.Frames.{Capture, ended, stopped, before, frame_from, frames_from, left_of}
use Rattle.pcap_file.specs.declared.capture.Frame.{Frame}
use Rattle.pcap_file.specs.declared.capture.PcapFault.{PcapFault}
use Rattle.pcap_file.specs.declared.capture.PcapFault.TheVariants.{RecordCut, TooLarge}
use Rattle.pcap_file.specs.declared.capture.Settings.{Settings}
use Rattle.pcap_file.proofs.Walks.{left-frame, left-end, left-fault, lt-false}
use Rattle.plain_run.proofs.LongerCaptures.{four_inside}
use Rattle.yoda_app.specs.Windows.{rest_of, IsWindow, moved, placed, is_cut}

-- ---- a fault, by the tests of its record
turn_stopped : (b : Bool) (o : Option PcapFault) (f : Frame) (c : Capture) (fault : PcapFault) → cond b ended (option_map_or stopped o (before f c)) ≡ stopped fault
    → (b ≡ false) × (o ≡ Some fault)
turn_stopped true o f c fault is =
    let none : ◌≡◌ {A = Option PcapFault} None (Some fault) = ap (λ (c : Capture). c.fault) is in absurd cc
turn_stopped false None f c fault is =
    let none : ◌≡◌ {A = List Frame} (f ∷ c.frames) [] = ap (λ (c : Capture). c.frames) is in absurd cc
turn_stopped false (Some other) f c fault is = (refl, ap (λ (c : Capture). c.fault) is)

not_all : (a b : ℕ) → nat_le a b ≡ false → b < a
not_all a b is = grind (arith, common_steps)

below : (a b : ℕ) → nat_lt a b ≡ true → a < b
below a b is = grind (arith, common_steps)

not_below : (a b : ℕ) → nat_lt a b ≡ false → b ≤ a
not_below a b is = grind (arith, common_steps)

-- what tells that a record has this fault
pub record IsStopped (s : Settings) (at : ℕ) (bytes : List ℕ) (fault : PcapFault) : Type 0 where
  pub more : at < length bytes
  pub first : first (record_faults s at bytes) ≡ Some fault

from_stopped : (turns : ℕ) (s : Settings) (at : ℕ) (bytes : List ℕ) (fault : PcapFault) → frames_from turns s at bytes ≡ stopped fault → IsStopped s at bytes fault
unfolding frames_from
from_stopped zero s at bytes fault is =
    let none : ◌≡◌ {A = Option PcapFault} None (Some fault) = ap (λ (c : Capture). c.fault) is in absurd cc
from_stopped (suc turns) s at bytes fault is =
    let tests = turn_stopped (nat_le (length bytes) at) (first (record_faults s at bytes)) (frame_from s at bytes) (frames_from turns s (at + 16 + kept_at s at bytes) bytes) fault is in
    record { more = not_all (length bytes) at tests.0; first = tests.1 }

-- ---- the end
turn_ended : (b : Bool) (o : Option PcapFault) (f : Frame) (c : Capture) → cond b ended (option_map_or stopped o (before f c)) ≡ ended → b ≡ true
turn_ended true o f c is = refl
turn_ended false None f c is =
    let none : ◌≡◌ {A = List Frame} (f ∷ c.frames) [] = ap (λ (c : Capture). c.frames) is in absurd cc
turn_ended false (Some fault) f c is =
    let none : ◌≡◌ {A = Option PcapFault} (Some fault) None = ap (λ (c : Capture). c.fault) is in absurd cc

is_all : (a b : ℕ) → nat_le a b ≡ true → a ≤ b
is_all a b is = grind (arith, common_steps)

from_ended : (turns : ℕ) (s : Settings) (at : ℕ) (bytes : List ℕ) → length bytes ≤ at + turns → frames_from turns s at bytes ≡ ended → length bytes ≤ at
unfolding frames_from
from_ended zero s at bytes enough is = omega arith
from_ended (suc turns) s at bytes enough is =
    is_all (length bytes) at (turn_ended (nat_le (length bytes) at) (first (record_faults s at bytes)) (frame_from s at bytes) (frames_from turns s (at + 16 + kept_at s at bytes) bytes) is)

pub at_end : (s : Settings) (at : ℕ) (bytes : List ℕ) → at ≤ length bytes → left_of (record { settings = s; place = at }) bytes ≡ ended → at ≡ length bytes
at_end s at bytes inside is =
    let past : length bytes ≤ at = from_ended (length bytes) s at bytes (omega arith) is in omega arith

-- ---- a record's tests
-- .. by which of them tells the fault
abbrev faults_by : Bool → Bool → Bool → ℕ → ℕ → Option PcapFault
faults_by head large body at kept = first ((head, RecordCut at) ∷ (large, TooLarge at kept) ∷ (body, RecordCut at) ∷ [])

cut_by : (head large body : Bool) (at kept : ℕ) (fault : PcapFault) → faults_by head large body at kept ≡ Some fault → is_cut fault ≡ true
    → (head ≡ true) ⊎ ((large ≡ false) × (body ≡ true))
cut_by true large body at kept fault is cut = inl refl
cut_by false true body at kept fault is cut = absurd cc
cut_by false false true at kept fault is cut = inr (refl, refl)
cut_by false false false at kept fault is cut = absurd cc

-- where a record is cut, the bytes have no room for the largest one
pub cut_short : (s : Settings) (at : ℕ) (bytes : List ℕ) (fault : PcapFault) → left_of (record { settings = s; place = at }) bytes ≡ stopped fault → is_cut fault ≡ true
    → length bytes < at + 16 + 262144
cut_short s at bytes fault is cut =
    elim (cut_by (nat_lt (length bytes) (at + 16)) (nat_lt 262144 (kept_at s at bytes)) (nat_lt (length bytes) (at + 16 + kept_at s at bytes)) at (kept_at s at bytes) fault
    (from_stopped (length bytes) s at bytes fault is).first cut) [
      | inl head ↦ (let h : length bytes < at + 16 = below (length bytes) (at + 16) head in omega arith)
      | inr body ↦ (let small : kept_at s at bytes ≤ 262144 = not_below 262144 (kept_at s at bytes) body.0 in
          let h : length bytes < at + 16 + kept_at s at bytes = below (length bytes) (at + 16 + kept_at s at bytes) body.1 in omega arith)
    ]

-- the same tests elsewhere tell the same fault there
same_tests : (head large body : Bool) (at kept there : ℕ) (fault : PcapFault) → faults_by head large body at kept ≡ Some fault → faults_by head large body there kept ≡ Some (placed there fault)
same_tests true large body at kept there fault is = cc
same_tests false true body at kept there fault is = cc
same_tests false false true at kept there fault is = cc
same_tests false false false at kept there fault is = absurd cc

-- a fault that is no cut record's is that of a large one
large_by : (head large body : Bool) (at kept : ℕ) (fault : PcapFault) → faults_by head large body at kept ≡ Some fault → is_cut fault ≡ false → (head ≡ false) × (large ≡ true)
large_by true large body at kept fault is whole = absurd cc
large_by false true body at kept fault is whole = (refl, refl)
large_by false false true at kept fault is whole = absurd cc
large_by false false false at kept fault is whole = absurd cc

-- the end of the bytes, seen from so many bytes before
same_limit : (a b by n : ℕ) → by + a ≡ b → nat_lt b (n + by) ≡ nat_lt a n
same_limit a b by n last = grind (arith, common_steps)

-- that of a large record is told before its bytes are looked for
large_tests : (head other large body behind : Bool) (at kept there : ℕ) (fault : PcapFault) → head ≡ false → other ≡ false → large ≡ true
    → faults_by head large body at kept ≡ Some fault → faults_by other large behind there kept ≡ Some (placed there fault)
large_tests false false true body behind at kept there fault x y z is = cc
large_tests true other large body behind at kept there fault x y z is = absurd cc
large_tests head true large body behind at kept there fault x y z is = absurd cc
large_tests head other false body behind at kept there fault x y z is = absurd cc

-- that of a record whose head is cut needs no other test
no_head : (head other large large' body body' : Bool) (at kept there kept' : ℕ) (fault : PcapFault) → head ≡ true → other ≡ true
    → faults_by head large body at kept ≡ Some fault → faults_by other large' body' there kept' ≡ Some (placed there fault)
no_head true true large large' body body' at kept there kept' fault x y is = cc
no_head false other large large' body body' at kept there kept' fault x y is = absurd cc
no_head head false large large' body body' at kept there kept' fault x y is = absurd cc

head_is_cut : {X : Type 0} (head large body : Bool) (at kept : ℕ) (fault : PcapFault) → head ≡ true → faults_by head large body at kept ≡ Some fault → is_cut fault ≡ false → X
head_is_cut true large body at kept fault x is whole =
    let cut : true ≡ is_cut fault = ap (λ (o : Option PcapFault). option_map_or is_cut o true) is in absurd cc
head_is_cut false large body at kept fault x is whole = absurd cc

-- ---- the bytes
module _ (trace : List ℕ) (by : ℕ) (window : List ℕ) (is : IsWindow trace by window) where
  abbrev behind : List ℕ
  behind = drop (by + length window) trace

  from_there : (p i : ℕ) → p ≡ i + by → 24 ≤ i → i ≤ length window → drop p trace ≡ drop i window ++ behind
  from_there p i same past inside =
      let k : ℕ = i - 24 in
      let one : drop p trace ≡ drop (24 + by + k) trace = ap (λ (n : ℕ). drop n trace) (omega arith) in
      let two : drop (24 + by + k) trace ≡ drop k (drop (24 + by) trace) = sym (drop-drop k (24 + by) trace) in
      let three : drop k (drop (24 + by) trace) ≡ drop k (drop 24 window ++ behind) = ap (drop k) is.body in
      let four : drop k (drop 24 window ++ behind) ≡ drop k (drop 24 window) ++ behind = drop-append-le k (drop 24 window) behind (omega (arith, length-drop 24 window)) in
      let five : drop k (drop 24 window) ≡ drop (24 + k) window = drop-drop k 24 window in
      let six : drop (24 + k) window ≡ drop i window = ap (λ (n : ℕ). drop n window) (omega arith) in
      one ∙ two ∙ three ∙ four ∙ ap (λ (xs : List ℕ). xs ++ behind) (five ∙ six)

  four_there : (little : Bool) (p i : ℕ) → p ≡ i + by → 24 ≤ i → i + 4 ≤ length window → number_at little p 4 trace ≡ number_at little i 4 window
  four_there little p i same past inside =
      ap (number_at little 0 4) (from_there p i same past (omega arith)) ∙ four_inside little (drop i window) behind (omega (arith, length-drop i window))

  pub part_there : (f : Frame) → 24 ≤ f.at → f.at + f.kept ≤ length window
      → slice_range trace (f.at + by) (f.at + by + f.kept) ≡ slice_range window f.at (f.at + f.kept)
  part_there f past inside =
      ap (λ (n : ℕ). take n (drop (f.at + by) trace)) (let h : f.at + by + f.kept - (f.at + by) ≡ f.at + f.kept - f.at = omega arith in h)
      ∙ ap (take (f.at + f.kept - f.at)) (from_there (f.at + by) f.at refl past (omega arith))
      ∙ take-append-le (f.at + f.kept - f.at) (drop f.at window) behind (omega (arith, length-drop f.at window))

  -- ---- a frame
  pub frame_there : (s : Settings) (at : ℕ) (f : Frame) → 24 ≤ at → IsFrame s at window f → IsFrame s (at + by) trace (moved by f)
  frame_there s at f past frame = record {
    head = omega (arith, frame.head, is.inside);
    small = frame.small;
    inside = omega (arith, frame.inside, is.inside);
    place = omega (arith, frame.place);
    seconds = frame.seconds ∙ sym (four_there s.little (at + by) at refl past (omega (arith, frame.head)));
    micros = frame.micros ∙ ap (λ (n : ℕ). if s.nano then n / 1000 else n) (sym (four_there s.little (at + by + 4) (at + 4) (omega arith) (omega arith) (omega (arith, frame.head))));
    kept = frame.kept ∙ sym (four_there s.little (at + by + 8) (at + 8) (omega arith) (omega arith) (omega (arith, frame.head)));
    original = frame.original ∙ sym (four_there s.little (at + by + 12) (at + 12) (omega arith) (omega arith) (omega (arith, frame.head)));
    link = frame.link;
  }

  pub rest_frame : (at : ℕ) (f : Frame) → 24 ≤ at → IsFrame (settings_of window) at window f
      → rest_of trace (at + by) ≡ before (moved by f) (rest_of trace (f.at + f.kept + by))
  rest_frame at f past frame =
      let s : Settings = settings_of trace in
      let there : IsFrame s at window f = subst (λ (t : Settings). IsFrame t at window f) is.settings frame in
      left-frame s (at + by) trace (moved by f) (frame_there s at f past there)
      ∙ ap (λ (p : ℕ). before (moved by f) (rest_of trace p)) (let h : f.at + by + f.kept ≡ f.at + f.kept + by = omega arith in h)

  -- ---- an end
  pub rest_end : (at : ℕ) → by + length window ≡ length trace → at ≡ length window → rest_of trace (at + by) ≡ ended
  rest_end at last here = left-end (settings_of trace) (at + by) trace (omega arith)

  -- ---- a fault
  limit_there : (n : ℕ) → by + length window ≡ length trace → nat_lt (length trace) (n + by) ≡ nat_lt (length window) n
  limit_there n last = same_limit (length window) (length trace) by n last

  -- at the window's end the trace ends, or the fault is no cut record's
  abbrev Final : PcapFault → Type 0
  Final fault = (by + length window ≡ length trace) ⊎ (is_cut fault ≡ false)

  kept_there : (s : Settings) (at : ℕ) → 24 ≤ at → nat_lt (length window) (at + 16) ≡ false → kept_at s (at + by) trace ≡ kept_at s at window
  kept_there s at past room =
      let long : at + 16 ≤ length window = not_below (length window) (at + 16) room in
      four_there s.little (at + by + 8) (at + 8) (omega arith) (omega arith) (omega arith)

  head_there : (at : ℕ) → by + length window ≡ length trace → nat_lt (length trace) (at + by + 16) ≡ nat_lt (length window) (at + 16)
  head_there at last = ap (nat_lt (length trace)) (let h : at + by + 16 ≡ at + 16 + by = omega arith in h) ∙ limit_there (at + 16) last

  body_there : (at kept : ℕ) → by + length window ≡ length trace → nat_lt (length trace) (at + by + 16 + kept) ≡ nat_lt (length window) (at + 16 + kept)
  body_there at kept last = ap (nat_lt (length trace)) (let h : at + by + 16 + kept ≡ at + 16 + kept + by = omega arith in h) ∙ limit_there (at + 16 + kept) last

  module _ (s : Settings) (at : ℕ) (fault : PcapFault) (past : 24 ≤ at) (told : first (record_faults s at window) ≡ Some fault) where
    abbrev kept : ℕ
    kept = kept_at s at window

    -- the trace's tests, where its record keeps so much
    abbrev tests : ℕ → Option PcapFault
    tests n = faults_by (nat_lt (length trace) (at + by + 16)) (nat_lt 262144 n) (nat_lt (length trace) (at + by + 16 + n)) (at + by) n

    last_there : by + length window ≡ length trace → nat_lt (length window) (at + 16) ≡ false → tests kept ≡ Some (placed (at + by) fault)
    last_there last room =
        ap (λ (h : Bool). faults_by h (nat_lt 262144 kept) (nat_lt (length trace) (at + by + 16 + kept)) (at + by) kept) (head_there at last)
        ∙ ap (λ (b : Bool). faults_by (nat_lt (length window) (at + 16)) (nat_lt 262144 kept) b (at + by) kept) (body_there at kept last)
        ∙ same_tests (nat_lt (length window) (at + 16)) (nat_lt 262144 kept) (nat_lt (length window) (at + 16 + kept)) at kept (at + by) fault told

    large_there : is_cut fault ≡ false → nat_lt (length window) (at + 16) ≡ false → tests kept ≡ Some (placed (at + by) fault)
    large_there whole room =
        let large = (large_by (nat_lt (length window) (at + 16)) (nat_lt 262144 kept) (nat_lt (length window) (at + 16 + kept)) at kept fault told whole).1 in
        let head : nat_lt (length trace) (at + by + 16) ≡ false =
        (let long : at + 16 ≤ length window = not_below (length window) (at + 16) room in lt-false (length trace) (at + by + 16) (omega (arith, is.inside))) in
        large_tests (nat_lt (length window) (at + 16)) (nat_lt (length trace) (at + by + 16)) (nat_lt 262144 kept) (nat_lt (length window) (at + 16 + kept))
        (nat_lt (length trace) (at + by + 16 + kept)) at kept (at + by) fault room head large told

    room_there : Final fault → nat_lt (length window) (at + 16) ≡ false → tests kept ≡ Some (placed (at + by) fault)
    room_there (inl last) room = last_there last room
    room_there (inr whole) room = large_there whole room

    none_there : Final fault → nat_lt (length window) (at + 16) ≡ true → tests (kept_at s (at + by) trace) ≡ Some (placed (at + by) fault)
    none_there (inl last) none =
        no_head (nat_lt (length window) (at + 16)) (nat_lt (length trace) (at + by + 16)) (nat_lt 262144 kept) (nat_lt 262144 (kept_at s (at + by) trace))
        (nat_lt (length window) (at + 16 + kept)) (nat_lt (length trace) (at + by + 16 + kept_at s (at + by) trace)) at kept (at + by) (kept_at s (at + by) trace) fault
        none (head_there at last ∙ none) told
    none_there (inr whole) none =
        head_is_cut (nat_lt (length window) (at + 16)) (nat_lt 262144 kept) (nat_lt (length window) (at + 16 + kept)) at kept fault none told whole

    tests_there : Final fault → first (record_faults s (at + by) trace) ≡ Some (placed (at + by) fault)
    tests_there final = by_head (nat_lt (length window) (at + 16)) refl
      where
        by_head : (h : Bool) → nat_lt (length window) (at + 16) ≡ h → tests (kept_at s (at + by) trace) ≡ Some (placed (at + by) fault)
        by_head true none = none_there final none
        by_head false room = ap tests (kept_there s at past room) ∙ room_there final room

  -- the trace stops where the window does, at a record that is no further one's
  pub rest_stopped : (at : ℕ) (fault : PcapFault) → 24 ≤ at → left_of (record { settings = settings_of window; place = at }) window ≡ stopped fault → Final fault
      → rest_of trace (at + by) ≡ stopped (placed (at + by) fault)
  rest_stopped at fault past stop final =
      let s : Settings = settings_of window in
      let told = from_stopped (length window) s at window fault stop in
      ap (λ (t : Settings). left_of (record { settings = t; place = at + by }) trace) (sym is.settings)
      ∙ left-fault s (at + by) trace (placed (at + by) fault) (omega (arith, told.more, is.inside)) (tests_there s at fault past told.first final)
