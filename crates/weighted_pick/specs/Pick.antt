-- Weighted choice: servers with weights, and a draw that picks one of them.
use Rattle.std.specs.Prelude.{◌≡◌, ℕ, ◌+◌, ◌%◌, ◌<◌, Bool, true, ◌&&◌, ◌==◌, nat_lt, sum_by, List, [], ◌∷◌, if◌then◌else◌}
use Rattle.std.specs.List.{list_any}

-- the sum of the weights; a choice is a pair of a server and its weight
abbrev pub total_weight : List (ℕ × ℕ) → ℕ
total_weight choices = sum_by (λ c. c.1) choices

-- the server of the first choice whose cumulative weight is above n, where the choices before these weigh passed
abbrev pub first_above : ℕ → ℕ → List (ℕ × ℕ) → ℕ
first_above n passed [] = 0
first_above n passed (c ∷ choices) =
    if nat_lt n (passed + c.1) then c.0 else first_above n (passed + c.1) choices

-- the server that the draw picks
unfoldable pub picked : List (ℕ × ℕ) → ℕ → ℕ
picked choices draw = first_above (draw % total_weight choices) 0 choices

-- the server is given a weight above 0
abbrev pub has_weight : List (ℕ × ℕ) → ℕ → Bool
has_weight choices server = list_any (λ c. c.0 == server && nat_lt 0 c.1) choices

-- whatever the draw, the server that it picks has a weight above 0
abbrev pub PickedHasWeight : Type 0
PickedHasWeight =
    (choices : List (ℕ × ℕ)) (draw : ℕ) → 0 < total_weight choices → has_weight choices (picked choices draw) ≡ true
