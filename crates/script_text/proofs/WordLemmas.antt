-- Lines and numbers, taken one step at a time.
use Rattle.std.proofs.Common.{zero, suc, map, add-one, drop-cons, get_or, ◌≡◌, ℕ, ◌+◌, ◌*◌, ◌-◌, ◌<◌, ◌≤◌, ◌^◌, Bool, true, false, eqb, ltb, ◌⊎◌, inl, inr, Some, None, take, drop, position, List, [], ◌∷◌, length, refl, sym, ap, ◌∙◌, cond, arith}
use Rattle.std.specs.List.{slice_split, position_or_len}
use Rattle.std.specs.Str.Lines.{lines, lines_of_parts, strip_carriage_return}
use Rattle.std.proofs.lemmas.List.Sums.{fails_before_first}
use Rattle.std.proofs.lemmas.Bool.{ltb-true, ltb-false, cond-false}
use Rattle.std.proofs.lemmas.List.Splits.{slice_split_first, slice_split_none, length-slice_split}
use Rattle.script_text.specs.Words.{cut, number_from, line_of}

-- which of two cases a choice was
pub cond_is : {A : Type 0} (b : Bool) (x y z : A) → cond b x y ≡ z → ((b ≡ true) × (x ≡ z)) ⊎ ((b ≡ false) × (y ≡ z))
cond_is true x y z e = inl (refl, e)
cond_is false x y z e = inr (refl, e)

-- a part that another follows had its line feed
lines_of_parts-cons : (part : List ℕ) (parts : List (List ℕ)) → 0 < length parts
    → lines_of_parts (part ∷ parts) ≡ strip_carriage_return part ∷ lines_of_parts parts
lines_of_parts-cons part [] some = absurd (omega arith)
lines_of_parts-cons part (next ∷ parts) some = refl

-- the lines by the place of the first line feed
pub lines-first : (bytes : List ℕ) (end : ℕ) → position (λ b. eqb b 10) bytes ≡ Some end
    → lines bytes ≡ strip_carriage_return (take end bytes) ∷ lines (drop (end + 1) bytes)
lines-first bytes end e =
    let n = position_or_len (λ b. eqb b 10) bytes in
    elim (cond_is (ltb n (length bytes)) (Some n) None (Some end) e) [
      | inl found ↦
          let same : n ≡ end = cc in
          let rest = slice_split (λ b. eqb b 10) (drop (n + 1) bytes) in
          let some : 0 < length rest = omega (arith, length-slice_split (λ b. eqb b 10) (drop (n + 1) bytes)) in
          ap lines_of_parts (slice_split_first (λ b. eqb b 10) bytes 0 (ltb-true n (length bytes) found.0))
          ∙ lines_of_parts-cons (take n bytes) rest some
          ∙ ap (λ k. strip_carriage_return (take k bytes) ∷ lines (drop (k + 1) bytes)) same
      | inr none ↦ absurd cc
    ]

-- without a line feed there is one line, or none
pub lines-last : (bytes : List ℕ) → position (λ b. eqb b 10) bytes ≡ None → lines bytes ≡ lines_of_parts (bytes ∷ [])
lines-last bytes e =
    let n = position_or_len (λ b. eqb b 10) bytes in
    elim (cond_is (ltb n (length bytes)) (Some n) None None e) [
      | inl found ↦ absurd cc
      | inr none ↦
          let past : length bytes ≤ n = ltb-false n (length bytes) none.0 in
          ap lines_of_parts (slice_split_none (λ b. eqb b 10) bytes (λ k d inside. fails_before_first (λ b. eqb b 10) bytes k d (omega arith)))
    ]

pub lines-whole : (bytes : List ℕ) → position (λ b. eqb b 10) bytes ≡ None → eqb (length bytes) 0 ≡ false → lines bytes ≡ bytes ∷ []
lines-whole bytes e some = lines-last bytes e ∙ cond-false (eqb (length bytes) 0) [] (bytes ∷ []) some

-- what is cut to the same goes on to the same
pub cut-number_from : (m n : ℕ) (digits : List ℕ) → cut 32 m ≡ cut 32 n → cut 32 (number_from m digits) ≡ cut 32 (number_from n digits)
cut-number_from m n [] same = same
cut-number_from m n (d ∷ digits) same = cut-number_from (m * 10 + (d - 48)) (n * 10 + (d - 48)) digits (omega arith)

-- one digit more
pub number-step : (v w : ℕ) (digits : List ℕ) (i : ℕ) → i < length digits
    → cut 32 w ≡ cut 32 (v * 10 + (get_or digits i 0 - 48))
    → cut 32 (number_from w (drop (i + 1) digits)) ≡ cut 32 (number_from v (drop i digits))
number-step v w digits i inside same =
    cut-number_from w (v * 10 + (get_or digits i 0 - 48)) (drop (i + 1) digits) same ∙ sym (split v digits i inside)
  where
    split : (v : ℕ) (digits : List ℕ) (i : ℕ) → i < length digits
        → cut 32 (number_from v (drop i digits)) ≡ cut 32 (number_from (v * 10 + (get_or digits i 0 - 48)) (drop (i + 1) digits))
    split v digits i inside = rw (add-one, drop-cons digits i 0) refl

-- no digit more
pub number-end : (v : ℕ) (digits : List ℕ) → length digits ≤ 0 → v < 2 ^ 32 → cut 32 (number_from v digits) ≡ v
number-end v [] none fits = omega arith
number-end v (d ∷ digits) none fits = absurd (omega arith)

-- five words are no line, nor are more than six
pub line_of-five : {A : Type 0} (f : A → List ℕ) (words : List A) → 5 ≤ length words → length words < 6 → line_of (map f words) ≡ None
line_of-five f [] least most = absurd (omega arith)
line_of-five f (a ∷ []) least most = absurd (omega arith)
line_of-five f (a ∷ b ∷ []) least most = absurd (omega arith)
line_of-five f (a ∷ b ∷ c ∷ []) least most = absurd (omega arith)
line_of-five f (a ∷ b ∷ c ∷ d ∷ []) least most = absurd (omega arith)
line_of-five f (a ∷ b ∷ c ∷ d ∷ e ∷ []) least most = refl
line_of-five f (a ∷ b ∷ c ∷ d ∷ e ∷ g ∷ words) least most = absurd (omega arith)

-- nothing of a list
pub take-none : (n : ℕ) (xs : List ℕ) → n ≤ 0 → take n xs ≡ []
take-none zero xs none = refl
take-none (suc n) xs none = absurd (omega arith)
