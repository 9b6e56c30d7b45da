-- The number of digits, one digit at a time.
use Rattle.std.proofs.Common.{◌≡◌, ℕ, ◌+◌, ◌*◌, ◌-◌, ◌<◌, ◌≤◌, List, [], ◌∷◌, length, drop, get_or, refl, add-one, drop-cons, arith}
use Rattle.script_text.specs.Words.{number_from}

-- one digit more
pub number_step : (v : ℕ) (digits : List ℕ) (i : ℕ) → i < length digits
    → number_from (v * 10 + (get_or digits i 0 - 48)) (drop (i + 1) digits) ≡ number_from v (drop i digits)
number_step v digits i inside = rw (add-one, drop-cons digits i 0) refl

-- no digit more
pub number_end : (v : ℕ) (digits : List ℕ) → length digits ≤ 0 → number_from v digits ≡ v
number_end v [] none = refl
number_end v (d ∷ digits) none = absurd (omega arith)

-- more digits make no smaller number
pub number_least : (v : ℕ) (digits : List ℕ) → v ≤ number_from v digits
number_least v [] = omega arith
number_least v (d ∷ digits) = omega (arith, number_least (v * 10 + (d - 48)) digits)
