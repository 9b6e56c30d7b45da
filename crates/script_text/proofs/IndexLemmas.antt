-- An index with one line more.
use Rattle.std.proofs.Common.{◌≡◌, ◌≢◌, ℕ, zero, suc, ◌+◌, true, false, inl, inr, List, [], ◌∷◌, ◌++◌, Some, Result, Ok, Err, OnOk, slice_get, refl, sym, ap, subst, ◌∙◌, nat_eq, All}
use Rattle.std.specs.List.{list_any}
use Rattle.std.specs.Option.{option_map_or}
use Rattle.std.specs.HashMap as map
use Rattle.std.specs.HashSet as set
use Rattle.std.proofs.lemmas.Bool.{cases_eq, eq-eqb, ne_eqb, not-false}
use Rattle.std.proofs.lemmas.List.Elements.{All-head, All-tail}
use Rattle.script_text.specs.declared.line.Line.{Line}
use Rattle.script_text.specs.declared.line.Line.TheVariants.{Give, Crash, Back, Fail}
use Rattle.script_text.specs.declared.index.Index.{Index}
use Rattle.script_text.specs.Faults.{fails, last_turn, may_crash, may_back}
use Rattle.script_text.specs.Lives.{given}
use Rattle.script_text.specs.Changes.{changes_of}
use Rattle.script_text.specs.Index.{IsIndex, IsLife, MayStand}
use Rattle.script_text.proofs.LineLemmas.{any-last_yes, any-last_no, given-any, given-first, given-other}
use Rattle.script_text.proofs.LifeLemmas.{life-other, life-crash, life-back}

-- where all are empty, so is what is found
pub all_empty : {A : Type 0} (f : A → List ℕ) (xs : List A) (n : ℕ) → All (λ a. f a ≡ []) xs → option_map_or f (slice_get xs n) [] ≡ []
all_empty f [] n all = refl
all_empty f (a ∷ xs) zero all = All-head (λ a. f a ≡ []) a xs all
all_empty f (a ∷ xs) (suc n) all = all_empty f xs n (All-tail (λ a. f a ≡ []) a xs all)

-- what follows of two facts where a call was well
pub on_ok_both : {T E P Q S : Type 0} (r : Result T E) → (P → Q → S) → OnOk r P → OnOk r Q → OnOk r S
on_ok_both (Ok v) both p q = both p q
on_ok_both (Err e) both p q = tt

pub index-give : (lines : List Line) (old new : Index) (item instance : ℕ)
    → map.get nat_eq new.gives item ≡ Some instance
    → ((q : ℕ) → nat_eq item q ≡ false → map.get nat_eq new.gives q ≡ map.get nat_eq old.gives q)
    → new.failed ≡ old.failed → new.lives ≡ old.lives
    → IsIndex lines old → MayStand lines (Give item instance) → IsIndex (lines ++ Give item instance ∷ []) new
index-give lines old new item instance here others failed lives is may = record {
  gives = λ at. elim (cases_eq item at) [
    | inl same ↦ subst (λ q. map.get nat_eq new.gives q ≡ given (lines ++ x ∷ []) q) same (here ∙ sym (given-first lines item instance (sym (given-any lines item) ∙ may.once)))
    | inr other ↦ others at (ne_eqb item at other) ∙ is.gives at ∙ sym (given-other lines x at (ne_eqb item at other))
  ];
  failed = λ n. ap (λ f. set.contains nat_eq f n) failed ∙ is.failed n ∙ sym (any-last_no (fails n) lines x refl);
  lives = λ n. subst (λ l. IsLife (lines ++ x ∷ []) n (changes_of l n)) (sym lives) (life-other lines n (changes_of old.lives n) x refl (is.lives n));
}
  where
    x : Line
    x = Give item instance

pub index-fail : (lines : List Line) (old new : Index) (replica item : ℕ)
    → set.contains nat_eq new.failed replica ≡ true
    → ((q : ℕ) → nat_eq replica q ≡ false → set.contains nat_eq new.failed q ≡ set.contains nat_eq old.failed q)
    → new.gives ≡ old.gives → new.lives ≡ old.lives
    → IsIndex lines old → IsIndex (lines ++ Fail replica item ∷ []) new
index-fail lines old new replica item here others gives lives is = record {
  gives = λ at. ap (λ m. map.get nat_eq m at) gives ∙ is.gives at ∙ sym (given-other lines x at refl);
  failed = λ n. elim (cases_eq replica n) [
    | inl same ↦ subst (λ q. set.contains nat_eq new.failed q ≡ list_any (fails q) (lines ++ x ∷ [])) same (here ∙ sym (any-last_yes (fails replica) lines x (eq-eqb replica replica refl)))
    | inr other ↦ others n (ne_eqb replica n other) ∙ is.failed n ∙ sym (any-last_no (fails n) lines x (ne_eqb replica n other))
  ];
  lives = λ n. subst (λ l. IsLife (lines ++ x ∷ []) n (changes_of l n)) (sym lives) (life-other lines n (changes_of old.lives n) x refl (is.lives n));
}
  where
    x : Line
    x = Fail replica item

pub index-crash : (lines : List Line) (old new : Index) (instance item after : ℕ)
    → changes_of new.lives instance ≡ changes_of old.lives instance ++ (item + 1) ∷ []
    → ((n : ℕ) → n ≢ instance → changes_of new.lives n ≡ changes_of old.lives n)
    → new.gives ≡ old.gives → new.failed ≡ old.failed
    → IsIndex lines old → MayStand lines (Crash instance item after) → IsIndex (lines ++ Crash instance item after ∷ []) new
index-crash lines old new instance item after here others gives failed is may = record {
  gives = λ at. ap (λ m. map.get nat_eq m at) gives ∙ is.gives at ∙ sym (given-other lines x at refl);
  failed = λ n. ap (λ f. set.contains nat_eq f n) failed ∙ is.failed n ∙ sym (any-last_no (fails n) lines x refl);
  lives = λ n. elim (cases_eq instance n) [
    | inl same ↦ subst (λ q. IsLife (lines ++ x ∷ []) q (changes_of new.lives q)) same (subst (λ cs. IsLife (lines ++ x ∷ []) instance cs) (sym here)
        (life-crash lines instance item after (changes_of old.lives instance) (not-false (may_crash (last_turn instance lines) item) may.ordered) (is.lives instance)))
    | inr other ↦ subst (λ cs. IsLife (lines ++ x ∷ []) n cs) (sym (others n (λ e. other (sym e)))) (life-other lines n (changes_of old.lives n) x (ne_eqb instance n other) (is.lives n))
  ];
}
  where
    x : Line
    x = Crash instance item after

pub index-back : (lines : List Line) (old new : Index) (instance item : ℕ)
    → changes_of new.lives instance ≡ changes_of old.lives instance ++ item ∷ []
    → ((n : ℕ) → n ≢ instance → changes_of new.lives n ≡ changes_of old.lives n)
    → new.gives ≡ old.gives → new.failed ≡ old.failed
    → IsIndex lines old → MayStand lines (Back instance item) → IsIndex (lines ++ Back instance item ∷ []) new
index-back lines old new instance item here others gives failed is may = record {
  gives = λ at. ap (λ m. map.get nat_eq m at) gives ∙ is.gives at ∙ sym (given-other lines x at refl);
  failed = λ n. ap (λ f. set.contains nat_eq f n) failed ∙ is.failed n ∙ sym (any-last_no (fails n) lines x refl);
  lives = λ n. elim (cases_eq instance n) [
    | inl same ↦ subst (λ q. IsLife (lines ++ x ∷ []) q (changes_of new.lives q)) same (subst (λ cs. IsLife (lines ++ x ∷ []) instance cs) (sym here)
        (life-back lines instance item (changes_of old.lives instance) (not-false (may_back (last_turn instance lines) item) may.ordered) (is.lives instance)))
    | inr other ↦ subst (λ cs. IsLife (lines ++ x ∷ []) n cs) (sym (others n (λ e. other (sym e)))) (life-other lines n (changes_of old.lives n) x (ne_eqb instance n other) (is.lives n))
  ];
}
  where
    x : Line
    x = Back instance item
