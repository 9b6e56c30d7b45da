-- What stops a command, seen from its beginning.
use Rattle.std.proofs.Common.{◌≡◌, ◌≢◌, ℕ, List, [], ◌∷◌, refl, sym, ◌∙◌, subst, inl, inr, arith}
use Rattle.std.specs.Prelude.{Contains, Option, None, Result, Ok, Err, IfErr, OnErr, OnOk}
use Rattle.common.specs.Causes.{Rose}
use Rattle.shelf.specs.Changes.{Change, held, AreTold}
use Rattle.shelf.specs.Shelf.{Contents, Counts, SameContents, SameOthers, NoneFell}
use Rattle.shelf.specs.declared.outside.Kind.TheVariants.{Writing}
use Rattle.yoda_app.specs.Commands.{Command, AllWritten, StoppedAt}
use Rattle.yoda_app.specs.Ends.{IsEnd, StopsWriting, StopsAmong}
use Rattle.yoda_app.specs.Written.{written, HoldsPart}
use Rattle.yoda_app.specs.declared.ending.Stop.{Stop}
use Rattle.yoda_app.specs.declared.ending.Stop.TheVariants.{Memory, Unloaded, Write}
use Rattle.yoda_app.proofs.Outputs.{written_since, stopped_since}
use Rattle.yoda_app.proofs.Rising.{rose_since}

-- the writing of a second output that stops
second_stop : (old mid new : Contents) (before between now : Counts) (sure still : List ℕ → Type 0) (first second a b : List ℕ) (e : Stop)
    → first ≢ second → mid first ≡ written first (old first) a → SameOthers first old mid → SameOthers second mid new → NoneFell before between
    → StopsWriting (record { old = mid; new = new; before = between; now = now; sure = still }) second e → HoldsPart second (mid second) (new second) b
    → StopsAmong (record { old = old; new = new; before = before; now = now; sure = sure }) (first ∷ second ∷ []) (a ∷ b ∷ []) e
second_stop old mid new before between now sure still first second a b Memory differ all others others2 counts stop part = stop
second_stop old mid new before between now sure still first second a b (Unloaded f text) differ all others others2 counts stop part = stop
second_stop old mid new before between now sure still first second a b (Write n) differ all others others2 counts stop part =
    let P : List ℕ → Type 0 = λ m. Contains (first ∷ second ∷ []) m × Rose (before Writing m) (now Writing m) × StoppedAt m (first ∷ second ∷ []) (a ∷ b ∷ []) old new in
    let before_second : mid second ≡ old second = others second (λ same. differ (sym same)) in
    let Q : Option (List ℕ) → Type 0 = λ o. HoldsPart second o (new second) b in
    subst P (sym stop.0) ((1, omega arith, refl), rose_since _ _ _ (counts Writing second) stop.1, inr (others2 first differ ∙ all, inl (refl, subst Q before_second part, tt)))

pub second_stops : (old mid new : Contents) (before between now : Counts) (sure still : List ℕ → Type 0) (first second a b : List ℕ) (r : Result (Unit {0}) Stop)
    → first ≢ second → mid first ≡ written first (old first) a → SameOthers first old mid → SameOthers second mid new → NoneFell before between
    → IfErr r (StopsWriting (record { old = mid; new = new; before = between; now = now; sure = still }) second) → OnErr r (HoldsPart second (mid second) (new second) b)
    → IfErr r (StopsAmong (record { old = old; new = new; before = before; now = now; sure = sure }) (first ∷ second ∷ []) (a ∷ b ∷ []))
second_stops old mid new before between now sure still first second a b (Ok u) differ all others others2 counts stop part = tt
second_stops old mid new before between now sure still first second a b (Err e) differ all others others2 counts stop part =
    second_stop old mid new before between now sure still first second a b e differ all others others2 counts stop part

-- a command that prepared its texts without changing a content, and then wrote them or stopped
pub ends : (c : Command) (old mid new : Contents) (before between now : Counts) (sure still : List ℕ → Type 0) (texts : List (List ℕ)) (r : Result (Unit {0}) Stop)
    → (AreTold old c.inputs → c.refusal (held old) ≡ None) → (AreTold old c.inputs → c.Gives (held old) texts) → SameContents old mid → NoneFell before between
    → OnOk r (AllWritten c.outputs texts mid new) → IfErr r (StopsAmong (record { old = mid; new = new; before = between; now = now; sure = still }) c.outputs texts)
    → IsEnd c (record { old = old; new = new; before = before; now = now; sure = sure }) r
ends c old mid new before between now sure still texts (Ok u) accepted gives same counts all stop = record {
  accepted = accepted;
  outputs = λ told. (texts, gives told, written_since c.outputs texts old mid new same all);
}
ends c old mid new before between now sure still texts (Err Memory) accepted gives same counts all stop = absurd stop
ends c old mid new before between now sure still texts (Err (Unloaded f text)) accepted gives same counts all stop = absurd stop
ends c old mid new before between now sure still texts (Err (Write n)) accepted gives same counts all stop = record {
  named = stop.0;
  rose = rose_since _ _ _ (counts Writing n.now) stop.1;
  accepted = accepted;
  outputs = λ told. (texts, gives told, stopped_since n.now c.outputs texts old mid new same stop.2);
}

-- the writing of an only output that stops
only_stop : (s : Change) (name text : List ℕ) (e : Stop) → StopsWriting s name e → HoldsPart name (s.old name) (s.new name) text → StopsAmong s (name ∷ []) (text ∷ []) e
only_stop s name text Memory stop part = stop
only_stop s name text (Unloaded f t) stop part = stop
only_stop s name text (Write n) stop part =
    let P : List ℕ → Type 0 = λ m. Contains (name ∷ []) m × Rose (s.before Writing m) (s.now Writing m) × StoppedAt m (name ∷ []) (text ∷ []) s.old s.new in
    subst P (sym stop.0) ((0, omega arith, refl), stop.1, inl (refl, part, tt))

pub only_stops : (s : Change) (name text : List ℕ) (r : Result (Unit {0}) Stop) → IfErr r (StopsWriting s name) → HoldsPart name (s.old name) (s.new name) text → IfErr r (StopsAmong s (name ∷ []) (text ∷ []))
only_stops s name text (Ok u) stop part = tt
only_stops s name text (Err e) stop part = only_stop s name text e stop part

-- an only output that was written
pub only_written : (old new : Contents) (name text : List ℕ) (r : Result (Unit {0}) Stop) → OnOk r (new name ≡ written name (old name) text) → OnOk r (AllWritten (name ∷ []) (text ∷ []) old new)
only_written old new name text (Ok u) all = (all, tt)
only_written old new name text (Err e) all = tt
