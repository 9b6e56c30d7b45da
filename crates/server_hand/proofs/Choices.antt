-- What is chosen is admitted.
use Rattle.std.proofs.Common.{◌≡◌, ℕ, ◌<◌, ◌∙◌, true, ◌&&◌, eqb, ltb, All, List, [], length, get_or, unwrap_or, subst, ap, sym, refl, Option, Some, None, slice_get, is_some, option_map}
use Rattle.std.proofs.lemmas.Bool.{eqb-true, and_parts}
use Rattle.std.proofs.lemmas.Option.{slice_get_within, slice_get-get_or, get_or_from_slice_get}
use Rattle.std.proofs.lemmas.List.Folds.{Any-from_list_any}
use Rattle.weighted_pick.specs.Pick.{picked, total_weight}
use Rattle.weighted_pick.proofs.PickLemmas.{picked_has_weight}
use Rattle.rule_table.specs.declared.types.Rule.{Rule}
use Rattle.rule_table.specs.Setups.{SetupView, IsSetup, IsRule}
use Rattle.rule_table.specs.Matching.{matched, admits}
use Rattle.rule_table.proofs.MatchLemmas.{picked_is_admitted, matched_is_rule}
use Rattle.server_hand.specs.Choosing.{choices_of, choice_by, choice_of, IsAdmitted, ChosenIsAdmitted, ChosenWhereMatched}

-- a rule, where none is there
no_rule : Rule
no_rule = record { host = None; path = None; cookie = None; to = [] }

-- what a rule of a setup is
is_rule : (setup : SetupView) (number : ℕ) (rule : Rule) → IsSetup setup → slice_get setup.rules number ≡ Some rule
    → IsRule (length setup.servers) rule
is_rule setup number rule is at =
    let inside = slice_get_within setup.rules number rule at in
    subst (IsRule (length setup.servers)) (get_or_from_slice_get setup.rules number rule rule at) (is.rules number rule inside)

-- what is picked is one of the choices
picked_is_known : (choices : List (ℕ × ℕ)) (draw n : ℕ) → 0 < total_weight choices → All (λ c. c.0 < n) choices → picked choices draw < n
picked_is_known choices draw n weighs known =
    let server = picked choices draw in
    let found = Any-from_list_any (λ c. eqb c.0 server && ltb 0 c.1) choices (picked_has_weight choices draw weighs) in
    let here : found.1.0 < n = subst (λ c. c.0 < n) found.3 (known found.0 found.1 found.2) in
    subst (λ v. v < n) (eqb-true found.1.0 server (and_parts _ _ found.4).0) here

-- what the draw picks of a rule that matches
picked_is : (setup : SetupView) (held : List ℕ) (draw number : ℕ) (rule : Rule) → IsSetup setup → matched setup held ≡ Some number
    → slice_get setup.rules number ≡ Some rule → IsAdmitted setup held (choice_by setup draw number)
picked_is setup held draw number rule is match at =
    let here = is_rule setup number rule is at in
    let choices : choices_of setup number ≡ rule.to = ap (λ r. unwrap_or (option_map (λ x. x.to) r) []) at in
    record {
      kind = refl;
      rule = match;
      server = subst (λ c. picked c draw < length setup.servers) (sym choices) (picked_is_known rule.to draw (length setup.servers) here.weighs here.known);
      admitted = subst (λ c. admits setup held (picked c draw) ≡ true) (sym choices) (picked_is_admitted setup held number draw rule is match at);
    }

pub chosen_is_admitted : ChosenIsAdmitted
unfolding choice_of
chosen_is_admitted setup held draw choice is chosen = by (matched setup held) refl
  where
    by : (o : Option ℕ) → matched setup held ≡ o → IsAdmitted setup held choice
    by None none =
        let nothing : None ≡ Some choice = sym (ap (option_map (choice_by setup draw)) none) ∙ chosen in
        absurd cc
    by (Some number) match =
        let same : Some (choice_by setup draw number) ≡ Some choice = sym (ap (option_map (choice_by setup draw)) match) ∙ chosen in
        let is_choice : choice_by setup draw number ≡ choice = cc in
        let inside = matched_is_rule setup held number match in
        let rule = get_or setup.rules number no_rule in
        subst (IsAdmitted setup held) is_choice
        (picked_is setup held draw number rule is match (slice_get-get_or setup.rules number no_rule inside))

pub chosen_where_matched : ChosenWhereMatched
unfolding choice_of
chosen_where_matched setup held draw = by (matched setup held)
  where
    by : (o : Option ℕ) → is_some (option_map (choice_by setup draw) o) ≡ is_some o
    by None = refl
    by (Some number) = refl
