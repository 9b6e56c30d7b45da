-- What the draw picks has a weight above 0.
use Rattle.std.proofs.Common.{◌≡◌, ℕ, ◌+◌, ◌%◌, ◌≤◌, ◌<◌, true, ltb, List, [], ◌∷◌, refl, arith, eq-eqb}
use Rattle.std.proofs.lemmas.Bool.{cond_both, ltb-true, ltb-false, lt-ltb, and_from, or_left, or_right}
use Rattle.std.proofs.lemmas.List.Sums.{sum_by-cons}
use Rattle.weighted_pick.specs.Pick.{total_weight, first_above, picked, has_weight, PickedHasWeight}

-- among choices that weigh more than what n is above those passed
first_above_has_weight : (choices : List (ℕ × ℕ)) (n passed : ℕ) → passed ≤ n → n < passed + total_weight choices
    → has_weight choices (first_above n passed choices) ≡ true
first_above_has_weight [] n passed from below = absurd (omega arith)
first_above_has_weight (c ∷ choices) n passed from below =
    let split : total_weight (c ∷ choices) ≡ c.1 + total_weight choices = sum_by-cons (λ x. x.1) c choices in
    cond_both (ltb n (passed + c.1)) c.0 (first_above n (passed + c.1) choices) (λ s. has_weight (c ∷ choices) s ≡ true)
    (λ here.
    let heavy : 0 < c.1 = omega (arith, ltb-true n (passed + c.1) here) in
    or_left _ _ (and_from _ _ (eq-eqb c.0 c.0 refl) (lt-ltb 0 c.1 heavy)))
    (λ there.
    or_right _ _ (first_above_has_weight choices n (passed + c.1) (ltb-false n (passed + c.1) there) (omega (arith, split))))

pub picked_has_weight : PickedHasWeight
unfolding picked
picked_has_weight choices draw some =
    first_above_has_weight choices (draw % total_weight choices) 0 (omega arith) (omega arith)
