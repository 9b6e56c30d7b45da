-- The near position as a function is the one near position.
use Rattle.std.proofs.Common.{◌≡◌, ◌≤◌, ◌<◌, ◌^◌, ℕ, ◌+◌, ◌-◌, Option, Some, None, IfSome, refl, sym, ap, ◌∙◌, inl, inr, arith}
use Rattle.std.proofs.lemmas.Bool.{cases_lt}
use Rattle.std.proofs.lemmas.Grind.{common_steps}
use Rattle.seq_space.specs.Positions.{number_of, difference, IsNear}
use Rattle.tcp_end.specs.NearPosition.{near_of, near_by}

near_by-ahead : (ahead around : ℕ) → ahead < 2 ^ 31 → near_by ahead around ≡ Some (around + ahead)
near_by-ahead ahead around h = grind (arith, common_steps)

near_by-half : (ahead around : ℕ) → ahead ≡ 2 ^ 31 → near_by ahead around ≡ None
near_by-half ahead around h = grind (arith, common_steps)

near_by-early : (ahead around : ℕ) → 2 ^ 31 < ahead → around < 2 ^ 32 - ahead → near_by ahead around ≡ None
near_by-early ahead around h k = grind (arith, common_steps)

near_by-back : (ahead around : ℕ) → 2 ^ 31 < ahead → 2 ^ 32 - ahead ≤ around → near_by ahead around ≡ Some (around - (2 ^ 32 - ahead))
near_by-back ahead around h k = grind (arith, common_steps)

pub near_of-only : (n first around p : ℕ) → IsNear n first around p → near_of n first around ≡ Some p
unfolding near_of
near_of-only n first around p is =
    let ahead = difference n (number_of first around) in
    elim (cases_lt p around) [
      | inl back ↦ near_by-back ahead around (omega (arith, is.numbered, is.above)) (omega (arith, is.numbered, is.above)) ∙ ap (λ (x : ℕ). Some x) (omega (arith, is.numbered, is.above))
      | inr on ↦ near_by-ahead ahead around (omega (arith, is.numbered, is.below)) ∙ ap (λ (x : ℕ). Some x) (omega (arith, is.numbered, is.below))
    ]

some-same : (p q : ℕ) → Some p ≡ Some q → p ≡ q
some-same p q e = cc

some-none : {A : Type 0} (p : ℕ) → Some p ≡ None → A
some-none p e = absurd (cc)

-- a number is near where its position is not 2 ^ 31 away, and not before position 0
near_by-found : (n first around : ℕ) (r : Option ℕ) → n < 2 ^ 32 → near_by (difference n (number_of first around)) around ≡ r → IfSome r (IsNear n first around)
near_by-found n first around None h e = tt
near_by-found n first around (Some p) h e =
    let ahead = difference n (number_of first around) in
    elim (cases_lt ahead (2 ^ 31)) [
      | inl lt ↦
          let is : p ≡ around + ahead = some-same p (around + ahead) (sym e ∙ near_by-ahead ahead around lt) in
          record { numbered = omega arith; below = omega arith; above = omega arith }
      | inr ge ↦ elim (cases_lt (2 ^ 31) ahead) [
        | inl gt ↦ elim (cases_lt around (2 ^ 32 - ahead)) [
          | inl early ↦ some-none p (sym e ∙ near_by-early ahead around gt early)
          | inr back ↦
              let is : p ≡ around - (2 ^ 32 - ahead) = some-same p (around - (2 ^ 32 - ahead)) (sym e ∙ near_by-back ahead around gt back) in
              record { numbered = omega arith; below = omega arith; above = omega arith }
        ]
        | inr half ↦ some-none p (sym e ∙ near_by-half ahead around (omega arith))
      ]
    ]

pub near_of-found : (n first around p : ℕ) → n < 2 ^ 32 → near_of n first around ≡ Some p → IsNear n first around p
unfolding near_of
near_of-found n first around p h e = near_by-found n first around (Some p) h e

none-near : (n first around : ℕ) (r : Option ℕ) → n < 2 ^ 32 → near_of n first around ≡ r → ((p : ℕ) → IsNear n first around p → None ≡ Some p) → None ≡ r
none-near n first around None h e only = refl
none-near n first around (Some p) h e only = only p (near_of-found n first around p h e)

-- what `near` answers
pub near-answer : (n first around : ℕ) (r : Option ℕ) → n < 2 ^ 32 → IfSome r (IsNear n first around) → ((p : ℕ) → IsNear n first around p → r ≡ Some p) → r ≡ near_of n first around
near-answer n first around (Some p) h found only = sym (near_of-only n first around p found)
near-answer n first around None h found only = none-near n first around (near_of n first around) h refl only

pub ruleset near_is = (near-answer)
