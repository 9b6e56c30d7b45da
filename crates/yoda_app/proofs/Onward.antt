-- Outputs that are written one after the other: what stops the first of them, and what stops one behind it.
use Rattle.std.proofs.Common.{◌≡◌, ◌≢◌, ℕ, suc, List, [], ◌∷◌, refl, sym, ◌∙◌, ap, subst, inl, inr, arith}
use Rattle.std.specs.Prelude.{Contains, Result, Ok, Err, IfErr, OnErr}
use Rattle.std.specs.List.{AllByRecursion}
use Rattle.common.specs.Causes.{Rose}
use Rattle.shelf.specs.Changes.{Change}
use Rattle.shelf.specs.Shelf.{Contents, Counts, SameOthers, NoneFell}
use Rattle.shelf.specs.declared.outside.Kind.TheVariants.{Writing}
use Rattle.yoda_app.specs.Commands.{AllKept, StoppedAt}
use Rattle.yoda_app.specs.Ends.{StopsWriting, StopsAmong}
use Rattle.yoda_app.specs.Written.{written, HoldsPart}
use Rattle.yoda_app.specs.declared.ending.Stop.{Stop}
use Rattle.yoda_app.specs.declared.ending.Stop.TheVariants.{Memory, Unloaded, Write}
use Rattle.yoda_app.proofs.Outputs.{part_since}
use Rattle.yoda_app.proofs.Rising.{rose_since}

-- none of the names is this one
abbrev pub AreOther : List ℕ → List (List ℕ) → Type 0
AreOther name names = AllByRecursion (λ n. n ≢ name) names

pub kept_others : (name : List ℕ) (names : List (List ℕ)) (old new : Contents) → AreOther name names → SameOthers name old new → AllKept names old new
kept_others name [] old new apart others = tt
kept_others name (n ∷ names) old new apart others = (others n apart.0, kept_others name names old new apart.1 others)

kept_from : (names : List (List ℕ)) (old mid new : Contents) → AllKept names old mid → AllKept names mid new → AllKept names old new
kept_from [] old mid new before after = tt
kept_from (n ∷ names) old mid new before after = (after.0 ∙ before.0, kept_from names old mid new before.1 after.1)

stopped_from : (stop : List ℕ) (names texts : List (List ℕ)) (old mid new : Contents) → AllKept names old mid → StoppedAt stop names texts mid new → StoppedAt stop names texts old new
stopped_from stop [] texts old mid new same all = all
stopped_from stop (n ∷ names) [] old mid new same all = all
stopped_from stop (n ∷ names) (t ∷ texts) old mid new same (inl here) =
    inl (here.0, part_since n t (old n) (mid n) (new n) same.0 here.1, kept_from names old mid new same.1 here.2)
stopped_from stop (n ∷ names) (t ∷ texts) old mid new same (inr later) =
    inr (later.0 ∙ ap (λ o. written n o t) same.0, stopped_from stop names texts old mid new same.1 later.1)

contains_behind : (first name : List ℕ) (names : List (List ℕ)) → Contains names name → Contains (first ∷ names) name
contains_behind first name names (k, within, is) = (suc k, omega (arith, within), is)

-- the first of some outputs stops, and those behind it are not begun
pub first_stop : (s : Change) (name text : List ℕ) (names texts : List (List ℕ)) (e : Stop) → AllKept names s.old s.new → StopsWriting s name e → HoldsPart name (s.old name) (s.new name) text
    → StopsAmong s (name ∷ names) (text ∷ texts) e
first_stop s name text names texts Memory same stop part = stop
first_stop s name text names texts (Unloaded f t) same stop part = stop
first_stop s name text names texts (Write n) same stop part =
    let P : List ℕ → Type 0 = λ m. Contains (name ∷ names) m × Rose (s.before Writing m) (s.now Writing m) × StoppedAt m (name ∷ names) (text ∷ texts) s.old s.new in
    subst P (sym stop.0) ((0, omega arith, refl), stop.1, inl (refl, part, same))

pub first_stops : (s : Change) (name text : List ℕ) (names texts : List (List ℕ)) (r : Result (Unit {0}) Stop) → AllKept names s.old s.new → IfErr r (StopsWriting s name)
    → OnErr r (HoldsPart name (s.old name) (s.new name) text) → IfErr r (StopsAmong s (name ∷ names) (text ∷ texts))
first_stops s name text names texts (Ok u) same stop part = tt
first_stops s name text names texts (Err e) same stop part = first_stop s name text names texts e same stop part

-- an output behind the first of them stops
next_stop : (old mid new : Contents) (before between now : Counts) (sure still : List ℕ → Type 0) (first text : List ℕ) (names texts : List (List ℕ)) (e : Stop)
    → AreOther first names → mid first ≡ written first (old first) text → SameOthers first old mid → new first ≡ mid first → NoneFell before between
    → StopsAmong (record { old = mid; new = new; before = between; now = now; sure = still }) names texts e
    → StopsAmong (record { old = old; new = new; before = before; now = now; sure = sure }) (first ∷ names) (text ∷ texts) e
next_stop old mid new before between now sure still first text names texts Memory apart all others same counts stop = stop
next_stop old mid new before between now sure still first text names texts (Unloaded f t) apart all others same counts stop = stop
next_stop old mid new before between now sure still first text names texts (Write n) apart all others same counts stop = (
  contains_behind first n.now names stop.0,
  rose_since _ _ _ (counts Writing n.now) stop.1,
  inr (same ∙ all, stopped_from n.now names texts old mid new (kept_others first names old mid apart others) stop.2),
)

pub next_stops : (old mid new : Contents) (before between now : Counts) (sure still : List ℕ → Type 0) (first text : List ℕ) (names texts : List (List ℕ)) (r : Result (Unit {0}) Stop)
    → AreOther first names → mid first ≡ written first (old first) text → SameOthers first old mid → new first ≡ mid first → NoneFell before between
    → IfErr r (StopsAmong (record { old = mid; new = new; before = between; now = now; sure = still }) names texts)
    → IfErr r (StopsAmong (record { old = old; new = new; before = before; now = now; sure = sure }) (first ∷ names) (text ∷ texts))
next_stops old mid new before between now sure still first text names texts (Ok u) apart all others same counts stop = tt
next_stops old mid new before between now sure still first text names texts (Err e) apart all others same counts stop =
    next_stop old mid new before between now sure still first text names texts e apart all others same counts stop
