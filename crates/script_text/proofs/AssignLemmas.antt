-- The search for a living instance.
use Rattle.std.proofs.Common.{◌≡◌, ℕ, zero, suc, ◌+◌, ◌%◌, ◌<◌, ◌≤◌, length-drop, Bool, true, false, List, [], ◌∷◌, length, map, get_or, drop, find, Some, None, unwrap_or, refl, sym, ap, subst, ◌∙◌, cond, arith, add-one, drop-cons, inl, inr, All}
use Rattle.std.specs.List.{range_with_len}
use Rattle.std.proofs.lemmas.Nat.{mod_below}
use Rattle.std.proofs.lemmas.Bool.{cond-true, cond-false, cases_Bool}
use Rattle.std.proofs.lemmas.List.FromFn.{get_or-map-range_with_len, length-map-range_with_len}
use Rattle.std.proofs.lemmas.List.Elements.{All-head, All-tail, All-map, All-nil}
use Rattle.script_text.specs.Lives.{living, given, round_from}
use Rattle.script_text.specs.Laws.{AssignedIsLiving}

find-split : {A : Type 0} (p : A → Bool) (xs : List A) (k : ℕ) (d : A) → k < length xs
    → find p (drop k xs) ≡ cond (p (get_or xs k d)) (Some (get_or xs k d)) (find p (drop (k + 1) xs))
find-split p xs k d inside = rw (add-one, drop-cons xs k d) refl

-- the instance at a place of the round
pub at_place : (instances first k : ℕ) → k < instances → get_or (round_from instances first) k 0 ≡ (first + k) % instances
at_place instances first k inside = get_or-map-range_with_len (λ j. (first + j) % instances) 0 instances k k 0 inside (omega arith)

-- a place that does not pass is passed over
pub find-next : (p : ℕ → Bool) (instances first k : ℕ) → k < instances → p ((first + k) % instances) ≡ false
    → find p (drop k (round_from instances first)) ≡ find p (drop (k + 1) (round_from instances first))
find-next p instances first k inside fails =
    find-split p (round_from instances first) k 0 (rw (length-map-range_with_len (λ j. (first + j) % instances) 0 instances) inside)
    ∙ cond-false _ _ _ (ap p (at_place instances first k inside) ∙ fails)

-- one that passes is found
pub find-here : (p : ℕ → Bool) (instances first k : ℕ) → k < instances → p ((first + k) % instances) ≡ true
    → find p (drop k (round_from instances first)) ≡ Some ((first + k) % instances)
find-here p instances first k inside passes =
    find-split p (round_from instances first) k 0 (rw (length-map-range_with_len (λ j. (first + j) % instances) 0 instances) inside)
    ∙ cond-true _ _ _ (ap p (at_place instances first k inside) ∙ passes)
    ∙ ap Some (at_place instances first k inside)

find-nil : (p : ℕ → Bool) (xs : List ℕ) → length xs ≤ 0 → find p xs ≡ None
find-nil p [] none = refl
find-nil p (x ∷ xs) none = absurd (omega arith)

-- past the last place there is none
pub find-end : (p : ℕ → Bool) (instances first k : ℕ) → instances ≤ k → find p (drop k (round_from instances first)) ≡ None
find-end p instances first k past =
    find-nil p (drop k (round_from instances first))
    (omega (arith, length-drop k (round_from instances first), length-map-range_with_len (λ j. (first + j) % instances) 0 instances))

found-passes : (p : ℕ → Bool) (Q : ℕ → Type 0) (xs : List ℕ) (x : ℕ) → All Q xs → find p xs ≡ Some x → Q x × (p x ≡ true)
found-passes p Q [] x all e = absurd cc
found-passes p Q (y ∷ xs) x all e =
    elim (cases_Bool (p y)) [
      | inl passes ↦
          let same : y ≡ x = let found : Some y ≡ Some x = sym (cond-true (p y) (Some y) (find p xs) passes) ∙ e in cc in
          subst (λ z. Q z × (p z ≡ true)) same (All-head Q y xs all, passes)
      | inr fails ↦ found-passes p Q xs x (All-tail Q y xs all) (sym (cond-false (p y) (Some y) (find p xs) fails) ∙ e)
    ]

round_below : (instances first : ℕ) → All (λ i. i < instances) (round_from instances first)
round_below zero first = All-nil (λ i. i < zero)
round_below (suc m) first =
    All-map (λ i. i < suc m) (λ k. (first + k) % suc m) (range_with_len 0 (suc m)) (λ k d inside. mod_below (first + get_or (range_with_len 0 (suc m)) k d) (suc m) (omega arith))

pub assigned_is_living : AssignedIsLiving
assigned_is_living lines instances at first instance e =
    found-passes (λ i. living lines i at) (λ i. i < instances) (round_from instances (unwrap_or (given lines at) first)) instance
    (round_below instances (unwrap_or (given lines at) first)) e
