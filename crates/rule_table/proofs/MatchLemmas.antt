-- What holds of every match.
use Rattle.std.proofs.Common.{◌≡◌, ℕ, ◌<◌, Bool, List, length, take, drop, refl, sym, ap, subst, ◌∙◌, position, inl, inr, ltb, Some, None}
use Rattle.std.proofs.lemmas.Bool.{both_ways, ltb-true}
use Rattle.std.proofs.lemmas.List.{take-append-drop}
use Rattle.std.specs.List.{position_or_len}
use Rattle.http_head.proofs.CaseLemmas.{cond_is}
use Rattle.std.proofs.lemmas.Option.{slice_get_within, get_or_from_slice_get}
use Rattle.weighted_pick.specs.Pick.{picked}
use Rattle.weighted_pick.proofs.PickLemmas.{picked_has_weight}
use Rattle.http_head.specs.Reading.{Reading, reading, complete, bad, partial}
use Rattle.http_head.specs.Fields.{is_complete, length_of}
use Rattle.http_head.proofs.ReadingLemmas.{complete_stays, reading-take}
use Rattle.rule_table.specs.declared.types.Rule.{Rule}
use Rattle.rule_table.specs.Setups.{IsRule}
use Rattle.rule_table.specs.Matching.{applies, matched_in, gives_weight, rule_gives_weight, admits_in}
use Rattle.rule_table.specs.Laws.{HasSameHead, MatchedByHead, AdmittedByHead, MatchedIsRule, PickedIsAdmitted}

-- bytes that begin with the same head read the same
pub reading-same_head : (bytes others : List ℕ) → HasSameHead bytes others → reading others ≡ reading bytes
reading-same_head bytes others same = at (reading bytes) refl
  where
    n : ℕ
    n = length_of (reading bytes)

    front : reading (take n others) ≡ reading bytes
    front = ap reading same.front ∙ reading-take bytes n same.reads refl

    at : (r : Reading) → reading bytes ≡ r → reading others ≡ reading bytes
    at (complete head) e =
        ap reading (sym (take-append-drop n others)) ∙ complete_stays (take n others) (drop n others) head (front ∙ e) ∙ sym e
    at bad e = absurd (both_ways (is_complete (reading bytes)) (ap is_complete e) same.reads)
    at partial e = absurd (both_ways (is_complete (reading bytes)) (ap is_complete e) same.reads)

pub matched_by_head : MatchedByHead
matched_by_head setup bytes others same = ap (matched_in setup.rules) (reading-same_head bytes others same)

pub admitted_by_head : AdmittedByHead
admitted_by_head setup bytes others server same =
    ap (λ r. admits_in setup.rules r server) (reading-same_head bytes others same)

position_within : {A : Type 0} (p : A → Bool) (xs : List A) (i : ℕ) → position p xs ≡ Some i → i < length xs
position_within p xs i e =
    let n = position_or_len p xs in
    elim (cond_is (ltb n (length xs)) (Some n) None (Some i) e) [
      | inl found ↦
          let same : n ≡ i = cc in
          subst (λ k. k < length xs) same (ltb-true n (length xs) found.0)
      | inr none ↦ absurd cc
    ]

pub matched_in_is_rule : (rules : List Rule) (r : Reading) (number : ℕ) → matched_in rules r ≡ Some number → number < length rules
unfolding matched_in
matched_in_is_rule rules (complete head) number e = position_within (applies (complete head)) rules number e
matched_in_is_rule rules bad number e = absurd cc
matched_in_is_rule rules partial number e = absurd cc

pub matched_is_rule : MatchedIsRule
matched_is_rule setup bytes number = matched_in_is_rule setup.rules (reading bytes) number

pub picked_is_admitted : PickedIsAdmitted
unfolding admits_in
picked_is_admitted setup bytes number draw rule is e at =
    let server = picked rule.to draw in
    let inside = slice_get_within setup.rules number rule at in
    let here : IsRule (length setup.servers) rule =
    subst (IsRule (length setup.servers)) (get_or_from_slice_get setup.rules number rule rule at) (is.rules number rule inside) in
    ap (gives_weight setup.rules server) e
    ∙ ap (rule_gives_weight server) at
    ∙ picked_has_weight rule.to draw here.weighs
