-- What is found for a cookie among those of the rules.
use Rattle.std.proofs.Common.{◌≡◌, ℕ, Bool, true, false, ◌||◌, ◌<◌, List, [], ◌∷◌, drop, get_or, set, length, refl, sym, ap, ◌∙◌, subst, eqb, Option, Some, None, inl, inr}
use Rattle.std.proofs.lemmas.Bool.{both_ways, false_from_ne_true, eqb-true, eq-eqb}
use Rattle.std.proofs.lemmas.Bool.Decides.{eqb_tells}
use Rattle.std.proofs.lemmas.Slice.Eq.{bytes_eq-Decides}
use Rattle.std.proofs.lemmas.Grind.{get_or-set_at}
use Rattle.std.proofs.lemmas.List.{get_or-set_other}
use Rattle.std.specs.List.{list_any}
use Rattle.std.specs.Str.{bytes_eq}
use Rattle.http_head.proofs.CaseLemmas.{cond_is}
use Rattle.rule_table.specs.declared.types.Rule.{Rule}
use Rattle.rule_table.specs.Hash.{hash_of, first_slot}
use Rattle.rule_table.specs.Index.{cookie_at, found_by, found_in, found_at, is_number, is_met}

same_bytes : (xs ys : List ℕ) → bytes_eq xs ys ≡ true → xs ≡ ys
same_bytes xs ys = (bytes_eq-Decides xs ys).0

-- what is found has the cookie
pub cookie_of_found : (rules : List Rule) (bytes slots : List ℕ) (number : ℕ) → found_in rules bytes slots ≡ Some number
    → cookie_at rules number ≡ Some bytes
cookie_of_found rules bytes [] number e = absurd cc
cookie_of_found rules bytes (slot ∷ slots) number e =
    by (cookie_at rules slot) refl e (λ f. cookie_of_found rules bytes slots number f)
  where
    by : (o : Option (List ℕ)) → cookie_at rules slot ≡ o → found_by o bytes slot (found_in rules bytes slots) ≡ Some number
        → (found_in rules bytes slots ≡ Some number → cookie_at rules number ≡ Some bytes) → cookie_at rules number ≡ Some bytes
    by None f e behind = absurd cc
    by (Some other) f e behind =
        elim (cond_is (bytes_eq other bytes) (Some slot) (found_in rules bytes slots) (Some number) e) [
          | inl here ↦
              let same : slot ≡ number = cc in
              subst (λ k. cookie_at rules k ≡ Some bytes) same (f ∙ ap Some (same_bytes other bytes here.0))
          | inr there ↦ behind there.1
        ]

is_number_found : (number : ℕ) (o : Option ℕ) → is_number number o ≡ true → o ≡ Some number
is_number_found number None e = absurd cc
is_number_found number (Some found) e = ap Some (eqb-true found number e)

-- a piece is found where a cookie is found exactly where it is that cookie
pub found_is_same : (rules : List Rule) (slots cookie : List ℕ) (number : ℕ) → found_at rules slots cookie ≡ Some number
    → (piece : List ℕ) → is_number number (found_at rules slots piece) ≡ bytes_eq piece cookie
found_is_same rules slots cookie number e piece = by (bytes_eq piece cookie) refl
  where
    behind : List ℕ → List ℕ
    behind bytes = drop (first_slot (hash_of bytes)) slots

    by : (b : Bool) → bytes_eq piece cookie ≡ b → is_number number (found_at rules slots piece) ≡ b
    by true same =
        ap (λ bytes. is_number number (found_at rules slots bytes)) (same_bytes piece cookie same)
        ∙ ap (is_number number) e ∙ eq-eqb number number refl
    by false other =
        false_from_ne_true _ (λ t.
        let found = is_number_found number (found_at rules slots piece) t in
        let its = cookie_of_found rules piece (behind piece) number found in
        let own = cookie_of_found rules cookie (behind cookie) number e in
        let same : piece ≡ cookie = cc in
        both_ways _ other ((bytes_eq-Decides piece cookie).1 same))

pub met_is_cookie : (rules : List Rule) (slots cookie : List ℕ) (number : ℕ) → found_at rules slots cookie ≡ Some number
    → (pieces : List (List ℕ)) → is_met rules slots pieces number ≡ list_any (λ piece. bytes_eq piece cookie) pieces
met_is_cookie rules slots cookie number e [] = refl
met_is_cookie rules slots cookie number e (piece ∷ pieces) =
    ap (λ b. b || is_met rules slots pieces number) (found_is_same rules slots cookie number e piece)
    ∙ ap (λ b. bytes_eq piece cookie || b) (met_is_cookie rules slots cookie number e pieces)

either_true : (b c : Bool) → (b || (true || c)) ≡ true
either_true true c = refl
either_true false c = refl

-- one more number is met
pub one_more_met : (rules : List Rule) (slots piece : List ℕ) (pieces left : List (List ℕ)) (met : List Bool) (found number : ℕ)
    → found_at rules slots piece ≡ Some found → found < length met
    → is_met rules slots pieces number ≡ (get_or met number false || is_met rules slots (piece ∷ left) number)
    → is_met rules slots pieces number ≡ (get_or (set met found true) number false || is_met rules slots left number)
one_more_met rules slots piece pieces left met found number e inside before =
    let rest = is_met rules slots left number in
    let now : is_met rules slots pieces number ≡ (get_or met number false || (eqb found number || rest)) =
    before ∙ ap (λ o. get_or met number false || (is_number number o || rest)) e in
    elim (eqb_tells found number) [
      | inl same ↦
          now ∙ ap (λ b. get_or met number false || (b || rest)) same.0 ∙ either_true (get_or met number false) rest
          ∙ sym (ap (λ b. b || rest) (get_or-set_at met found number true false (sym same.1) inside))
      | inr other ↦
          now ∙ ap (λ b. get_or met number false || (b || rest)) other.0
          ∙ sym (ap (λ b. b || rest) (get_or-set_other met found number true false (λ e. other.1 (sym e))))
    ]
