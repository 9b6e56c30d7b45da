-- How a cookie is found among those of the rules, whose numbers stand in slots.
use Rattle.std.specs.Prelude.{ℕ, Bool, false, ◌==◌, List, [], ◌∷◌, drop, Option, Some, None, slice_get, if◌then◌else◌}
use Rattle.std.specs.List.{list_any}
use Rattle.std.specs.Option.{option_and_then}
use Rattle.std.specs.Str.{bytes_eq}
use Rattle.rule_table.specs.declared.types.Rule.{Rule}
use Rattle.rule_table.specs.Hash.{hash_of, first_slot}

-- the cookie of the rule with that number
abbrev pub cookie_at : List Rule → ℕ → Option (List ℕ)
cookie_at rules number = option_and_then (λ r. r.cookie) (slice_get rules number)

abbrev pub found_by : Option (List ℕ) → List ℕ → ℕ → Option ℕ → Option ℕ
found_by None bytes number later = None
found_by (Some cookie) bytes number later = if bytes_eq cookie bytes then Some number else later

-- the first number in these slots whose rule has these bytes as its cookie, up to one whose rule has none
abbrev pub found_in : List Rule → List ℕ → List ℕ → Option ℕ
found_in rules bytes [] = None
found_in rules bytes (number ∷ slots) = found_by (cookie_at rules number) bytes number (found_in rules bytes slots)

-- the same of the slots from that on which the hash names
abbrev pub found_at : List Rule → List ℕ → List ℕ → Option ℕ
found_at rules slots bytes = found_in rules bytes (drop (first_slot (hash_of bytes)) slots)

abbrev pub is_number : ℕ → Option ℕ → Bool
is_number number None = false
is_number number (Some found) = found == number

-- one of these pieces is found at the rule with that number
abbrev pub is_met : List Rule → List ℕ → List (List ℕ) → ℕ → Bool
is_met rules slots pieces number = list_any (λ piece. is_number number (found_at rules slots piece)) pieces
