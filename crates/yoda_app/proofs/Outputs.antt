-- Outputs of a command, before they are written and once its line was said.
use Rattle.std.proofs.Common.{◌≡◌, ◌≢◌, ℕ, zero, suc, List, [], ◌∷◌, sym, ◌∙◌, ap, subst, arith, inl, inr}
use Rattle.std.specs.Prelude.{Option, Contains}
use Rattle.std.specs.List.{AllByRecursion}
use Rattle.shelf.specs.Shelf.{Contents, SameContents, SameOthers}
use Rattle.yoda_app.specs.Commands.{error_name, AllWritten, AllKept, StoppedAt}
use Rattle.yoda_app.specs.Written.{written, HoldsPart}

-- none of the names is standard error
abbrev pub AreApart : List (List ℕ) → Type 0
AreApart names = AllByRecursion (λ n. n ≢ error_name) names

pub not_among : (names : List (List ℕ)) → AreApart names → Contains names error_name → ⊥
not_among [] apart (k, within, is) = omega arith
not_among (n ∷ names) apart (zero, within, is) = apart.0 is
not_among (n ∷ names) apart (suc k, within, is) = not_among names apart.1 (k, omega arith, is)

pub kept : (names : List (List ℕ)) (mid last : Contents) → AreApart names → SameOthers error_name mid last → AllKept names mid last
kept [] mid last apart others = tt
kept (n ∷ names) mid last apart others = (others n apart.0, kept names mid last apart.1 others)

pub written_on : (names texts : List (List ℕ)) (old mid last : Contents) → AllKept names mid last → AllWritten names texts old mid → AllWritten names texts old last
written_on [] [] old mid last same all = tt
written_on [] (t ∷ texts) old mid last same all = all
written_on (n ∷ names) [] old mid last same all = all
written_on (n ∷ names) (t ∷ texts) old mid last same all = (same.0 ∙ all.0, written_on names texts old mid last same.1 all.1)

kept_on : (names : List (List ℕ)) (old mid last : Contents) → AllKept names mid last → AllKept names old mid → AllKept names old last
kept_on [] old mid last same all = tt
kept_on (n ∷ names) old mid last same all = (same.0 ∙ all.0, kept_on names old mid last same.1 all.1)

part_on : (name text : List ℕ) (old mid last : Option (List ℕ)) → last ≡ mid → HoldsPart name old mid text → HoldsPart name old last text
part_on name text old mid last same part =
    let P : Option (List ℕ) → Type 0 = λ o. HoldsPart name old o text in
    subst P (sym same) part

pub stopped_on : (stop : List ℕ) (names texts : List (List ℕ)) (old mid last : Contents) → AllKept names mid last → StoppedAt stop names texts old mid → StoppedAt stop names texts old last
stopped_on stop [] texts old mid last same all = all
stopped_on stop (n ∷ names) [] old mid last same all = all
stopped_on stop (n ∷ names) (t ∷ texts) old mid last same (inl here) =
    inl (here.0, part_on n t (old n) (mid n) (last n) same.0 here.1, kept_on names old mid last same.1 here.2)
stopped_on stop (n ∷ names) (t ∷ texts) old mid last same (inr later) =
    inr (same.0 ∙ later.0, stopped_on stop names texts old mid last same.1 later.1)

-- the same from contents before that are equal
pub written_since : (names texts : List (List ℕ)) (old mid new : Contents) → SameContents old mid → AllWritten names texts mid new → AllWritten names texts old new
written_since [] [] old mid new same all = tt
written_since [] (t ∷ texts) old mid new same all = all
written_since (n ∷ names) [] old mid new same all = all
written_since (n ∷ names) (t ∷ texts) old mid new same all =
    (all.0 ∙ ap (λ o. written n o t) (same n), written_since names texts old mid new same all.1)

kept_since : (names : List (List ℕ)) (old mid new : Contents) → SameContents old mid → AllKept names mid new → AllKept names old new
kept_since [] old mid new same all = tt
kept_since (n ∷ names) old mid new same all = (all.0 ∙ same n, kept_since names old mid new same all.1)

pub part_since : (name text : List ℕ) (old mid new : Option (List ℕ)) → mid ≡ old → HoldsPart name mid new text → HoldsPart name old new text
part_since name text old mid new same part =
    let P : Option (List ℕ) → Type 0 = λ o. HoldsPart name o new text in
    subst P same part

pub stopped_since : (stop : List ℕ) (names texts : List (List ℕ)) (old mid new : Contents) → SameContents old mid → StoppedAt stop names texts mid new → StoppedAt stop names texts old new
stopped_since stop [] texts old mid new same all = all
stopped_since stop (n ∷ names) [] old mid new same all = all
stopped_since stop (n ∷ names) (t ∷ texts) old mid new same (inl here) =
    inl (here.0, part_since n t (old n) (mid n) (new n) (same n) here.1, kept_since names old mid new same here.2)
stopped_since stop (n ∷ names) (t ∷ texts) old mid new same (inr later) =
    inr (later.0 ∙ ap (λ o. written n o t) (same n), stopped_since stop names texts old mid new same later.1)
