-- How the frames of a capture go on from a place.
use Rattle.std.proofs.Common.{◌≡◌, ◌≤◌, ◌<◌, ℕ, zero, suc, ◌+◌, Bool, true, false, nat_lt, nat_le, cond, List, [], ◌∷◌, length, drop, Option, Some, None, refl, sym, ap, subst, ◌∙◌, inl, inr, arith}
use Rattle.std.proofs.lemmas.Grind.{common_steps}
use Rattle.std.proofs.lemmas.Bool.{cases_lt}
use Rattle.std.specs.Option.{option_map_or}
use Rattle.common.specs.Faults.{first}
use Rattle.pcap_file.specs.declared.capture.Link.{Link}
use Rattle.pcap_file.specs.declared.capture.Frame.{Frame}
use Rattle.pcap_file.specs.declared.capture.Settings.{Settings}
use Rattle.pcap_file.specs.declared.capture.PcapFault.{PcapFault}
use Rattle.pcap_file.specs.declared.capture.PcapFault.TheVariants.{HeaderCut, RecordCut, TooLarge}
use Rattle.pcap_file.specs.Capture.{number_at, settings_of, header_faults, kept_at, micros_at, record_faults, IsFrame}
use Rattle.pcap_file.specs.Frames.{Capture, SpellsFrames, SpellsCapture, ended, stopped, before, frame_from, frames_from, left_of, opened_with}

-- what begins at a place: a fault, or a frame, behind which stands the rest
abbrev behind : Option PcapFault → Frame → Capture → Capture
behind o f rest = option_map_or stopped o (before f rest)

le-true : (a b : ℕ) → a ≤ b → nat_le a b ≡ true
le-true a b h = grind (arith, common_steps)

le-false : (a b : ℕ) → b < a → nat_le a b ≡ false
le-false a b h = grind (arith, common_steps)

pub lt-false : (a b : ℕ) → b ≤ a → nat_lt a b ≡ false
lt-false a b h = grind (arith, common_steps)

-- one turn, by the outcomes of its tests
turn-end : (b : Bool) (c : Capture) → b ≡ true → cond b ended c ≡ ended
turn-end b c e = rw e refl

turn-frame : (b : Bool) (o : Option PcapFault) (f g : Frame) (c d : Capture) → b ≡ false → o ≡ None → g ≡ f → c ≡ d → cond b ended (behind o g c) ≡ before f d
turn-frame b o f g c d no_end no_fault same rest = cc

turn-fault : (b : Bool) (o : Option PcapFault) (g : Frame) (c : Capture) (fault : PcapFault) → b ≡ false → o ≡ Some fault → cond b ended (behind o g c) ≡ stopped fault
turn-fault b o g c fault no_end is = cc

no-fault : (p q r : Bool) (a b c : PcapFault) → p ≡ false → q ≡ false → r ≡ false → first ((p, a) ∷ (q, b) ∷ (r, c) ∷ []) ≡ None
no-fault p q r a b c x y z = cc

frames-end : (turns : ℕ) (s : Settings) (at : ℕ) (bytes : List ℕ) → length bytes ≤ at → frames_from turns s at bytes ≡ ended
unfolding frames_from
frames-end zero s at bytes h = refl
frames-end (suc turns) s at bytes h = turn-end (nat_le (length bytes) at) (behind (first (record_faults s at bytes)) (frame_from s at bytes) (frames_from turns s (at + 16 + kept_at s at bytes) bytes)) (le-true (length bytes) at h)

-- turns beyond those that are needed change nothing
enough : (n m : ℕ) (s : Settings) (at : ℕ) (bytes : List ℕ) → length bytes ≤ at + n → length bytes ≤ at + m → frames_from n s at bytes ≡ frames_from m s at bytes
unfolding frames_from
enough zero m s at bytes p q = sym (frames-end m s at bytes (omega arith))
enough (suc n) zero s at bytes p q = frames-end (suc n) s at bytes (omega arith)
enough (suc n) (suc m) s at bytes p q =
    ap (λ (c : Capture). cond (nat_le (length bytes) at) ended (behind (first (record_faults s at bytes)) (frame_from s at bytes) c))
    (enough n m s (at + 16 + kept_at s at bytes) bytes (omega arith) (omega arith))

abbrev made : ℕ → ℕ → ℕ → ℕ → ℕ → Link → Frame
made at seconds micros kept original link = record { at = at; seconds = seconds; micros = micros; kept = kept; original = original; link = link }

same-fields : (a b c d e : ℕ) (l : Link) (a' b' c' d' e' : ℕ) (l' : Link) → a ≡ a' → b ≡ b' → c ≡ c' → d ≡ d' → e ≡ e' → l ≡ l' → made a b c d e l ≡ made a' b' c' d' e' l'
same-fields a b c d e l a' b' c' d' e' l' p q r s t u = cc

same-frame : (s : Settings) (at : ℕ) (bytes : List ℕ) (f : Frame) → IsFrame s at bytes f → frame_from s at bytes ≡ f
same-frame s at bytes f is =
    sym (same-fields f.at f.seconds f.micros f.kept f.original f.link (at + 16) (number_at s.little at 4 bytes) (micros_at s at bytes) (kept_at s at bytes) (number_at s.little (at + 12) 4 bytes) s.link is.place is.seconds is.micros is.kept is.original is.link)

frames-frame : (turns : ℕ) (s : Settings) (at : ℕ) (bytes : List ℕ) (f : Frame) → IsFrame s at bytes f → length bytes ≤ at + turns → frames_from turns s at bytes ≡ before f (frames_from turns s (f.at + f.kept) bytes)
unfolding frames_from
frames-frame zero s at bytes f is h = absurd (omega (arith, is.head))
frames-frame (suc turns) s at bytes f is h =
    let next = at + 16 + kept_at s at bytes in
    let place : next ≡ f.at + f.kept = omega (arith, is.place, is.kept) in
    turn-frame (nat_le (length bytes) at) (first (record_faults s at bytes)) f (frame_from s at bytes) (frames_from turns s next bytes) (frames_from (suc turns) s (f.at + f.kept) bytes)
    (le-false (length bytes) at (omega (arith, is.head)))
    (no-fault (nat_lt (length bytes) (at + 16)) (nat_lt 262144 (kept_at s at bytes)) (nat_lt (length bytes) (at + 16 + kept_at s at bytes)) (RecordCut at) (TooLarge at (kept_at s at bytes)) (RecordCut at)
    (lt-false (length bytes) (at + 16) is.head)
    (lt-false 262144 (kept_at s at bytes) (omega (arith, is.small, is.kept)))
    (lt-false (length bytes) (at + 16 + kept_at s at bytes) (omega (arith, is.inside, is.kept))))
    (same-frame s at bytes f is)
    (enough turns (suc turns) s next bytes (omega arith) (omega arith) ∙ ap (λ (p : ℕ). frames_from (suc turns) s p bytes) place)

frames-fault : (turns : ℕ) (s : Settings) (at : ℕ) (bytes : List ℕ) (fault : PcapFault) → at < length bytes → first (record_faults s at bytes) ≡ Some fault → length bytes ≤ at + turns → frames_from turns s at bytes ≡ stopped fault
unfolding frames_from
frames-fault zero s at bytes fault more is h = absurd (omega arith)
frames-fault (suc turns) s at bytes fault more is h =
    turn-fault (nat_le (length bytes) at) (first (record_faults s at bytes)) (frame_from s at bytes) (frames_from turns s (at + 16 + kept_at s at bytes) bytes) fault (le-false (length bytes) at more) is

pub left-frame : (s : Settings) (at : ℕ) (bytes : List ℕ) (f : Frame) → IsFrame s at bytes f → left_of (record { settings = s; place = at }) bytes ≡ before f (left_of (record { settings = s; place = f.at + f.kept }) bytes)
left-frame s at bytes f is = frames-frame (length bytes) s at bytes f is (omega arith)

pub left-end : (s : Settings) (at : ℕ) (bytes : List ℕ) → at ≡ length bytes → left_of (record { settings = s; place = at }) bytes ≡ ended
left-end s at bytes h = frames-end (length bytes) s at bytes (omega arith)

pub left-fault : (s : Settings) (at : ℕ) (bytes : List ℕ) (fault : PcapFault) → at < length bytes → first (record_faults s at bytes) ≡ Some fault → left_of (record { settings = s; place = at }) bytes ≡ stopped fault
left-fault s at bytes fault more is = frames-fault (length bytes) s at bytes fault more is (omega arith)

pub ruleset steps = (left-frame, left-end, left-fault)

pub frames-only : (frames : List Frame) (fault : Option PcapFault) (turns : ℕ) (s : Settings) (at : ℕ) (bytes : List ℕ) → length bytes ≤ at + turns → SpellsFrames s at bytes frames fault → frames_from turns s at bytes ≡ record { frames = frames; fault = fault }
frames-only [] None turns s at bytes h is = frames-end turns s at bytes (omega (arith, is))
frames-only [] (Some fault) turns s at bytes h is = frames-fault turns s at bytes fault is.0 is.1 h
frames-only (f ∷ frames) fault turns s at bytes h is =
    frames-frame turns s at bytes f is.0 h
    ∙ ap (before f) (frames-only frames fault turns s (f.at + f.kept) bytes (omega (arith, is.0.place)) is.1)

-- a record without a fault is a frame
tests-none : (p q r : Bool) (a b c : PcapFault) → first ((p, a) ∷ (q, b) ∷ (r, c) ∷ []) ≡ None → (p ≡ false) × (q ≡ false) × (r ≡ false)
tests-none true q r a b c e = absurd (cc)
tests-none false true r a b c e = absurd (cc)
tests-none false false true a b c e = absurd (cc)
tests-none false false false a b c e = (refl, refl, refl)

from-lt-false : (a b : ℕ) → nat_lt a b ≡ false → b ≤ a
from-lt-false a b h = grind (arith, common_steps)

is-frame : (s : Settings) (at : ℕ) (bytes : List ℕ) → first (record_faults s at bytes) ≡ None → IsFrame s at bytes (frame_from s at bytes)
is-frame s at bytes none =
    let tests = tests-none (nat_lt (length bytes) (at + 16)) (nat_lt 262144 (kept_at s at bytes)) (nat_lt (length bytes) (at + 16 + kept_at s at bytes)) (RecordCut at) (TooLarge at (kept_at s at bytes)) (RecordCut at) none in
    record {
      head = from-lt-false (length bytes) (at + 16) tests.0;
      small = from-lt-false 262144 (kept_at s at bytes) tests.1;
      inside = from-lt-false (length bytes) (at + 16 + kept_at s at bytes) tests.2;
      place = refl;
      seconds = refl;
      micros = refl;
      kept = refl;
      original = refl;
      link = refl;
    }

abbrev Spelled : Settings → ℕ → List ℕ → Capture → Type 0
Spelled s at bytes c = SpellsFrames s at bytes c.frames c.fault

spelled-record : (turns : ℕ) (s : Settings) (at : ℕ) (bytes : List ℕ) (o : Option PcapFault) → at < length bytes → length bytes ≤ at + turns → first (record_faults s at bytes) ≡ o
    → ((next : ℕ) → next ≤ length bytes → at < next → Spelled s next bytes (frames_from turns s next bytes))
    → Spelled s at bytes (frames_from turns s at bytes)
spelled-record turns s at bytes None more h none rest =
    let is = is-frame s at bytes none in
    let f = frame_from s at bytes in
    subst (Spelled s at bytes) (sym (frames-frame turns s at bytes f is h)) (is, rest (f.at + f.kept) (omega (arith, is.inside)) (omega arith))
spelled-record turns s at bytes (Some fault) more h is rest =
    subst (Spelled s at bytes) (sym (frames-fault turns s at bytes fault more is h)) (more, is)

spelled : (left turns : ℕ) (s : Settings) (at : ℕ) (bytes : List ℕ) → at ≤ length bytes → length bytes ≤ at + left → length bytes ≤ at + turns → Spelled s at bytes (frames_from turns s at bytes)
spelled zero turns s at bytes inside l h = subst (Spelled s at bytes) (sym (frames-end turns s at bytes (omega arith))) (omega arith)
spelled (suc left) turns s at bytes inside l h =
    elim (cases_lt at (length bytes)) [
      | inl more ↦ spelled-record turns s at bytes (first (record_faults s at bytes)) more h refl (λ next a b. spelled left turns s next bytes a (omega arith) (omega arith))
      | inr end ↦ subst (Spelled s at bytes) (sym (frames-end turns s at bytes end)) (omega arith)
    ]

first-none : (test : Bool) (fault : PcapFault) (lines : List (Bool × PcapFault)) → first ((test, fault) ∷ lines) ≡ None → test ≡ false
first-none true fault lines e = absurd (cc)
first-none false fault lines e = refl

-- the lines behind the first
abbrev header_rest : List ℕ → List (Bool × PcapFault)
header_rest bytes = drop 1 (header_faults bytes)

header-none : (bytes : List ℕ) → first (header_faults bytes) ≡ None → 24 ≤ length bytes
header-none bytes none = from-lt-false (length bytes) 24 (first-none (nat_lt (length bytes) 24) (HeaderCut (length bytes)) (header_rest bytes) none)

pub opened-spelled : (o : Option PcapFault) (bytes : List ℕ) → first (header_faults bytes) ≡ o → SpellsCapture o bytes (opened_with o bytes)
opened-spelled None bytes none = spelled (length bytes) (length bytes) (settings_of bytes) 24 bytes (header-none bytes none) (omega arith) (omega arith)
opened-spelled (Some fault) bytes is = (refl, refl)

pub opened-only : (o : Option PcapFault) (bytes : List ℕ) (c : Capture) → SpellsCapture o bytes c → opened_with o bytes ≡ c
opened-only None bytes c is = frames-only c.frames c.fault (length bytes) (settings_of bytes) 24 bytes (omega arith) is
opened-only (Some fault) bytes c is =
    ap (λ (x : Option PcapFault). record { frames = []; fault = x }) (sym is.1)
    ∙ ap (λ (x : List Frame). record { frames = x; fault = c.fault }) (sym is.0)
