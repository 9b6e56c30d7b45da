-- What holds of every match.
use Rattle.std.specs.Prelude.{◌≡◌, ℕ, ◌<◌, true, IsTrue, List, length, take, Some, slice_get}
use Rattle.weighted_pick.specs.Pick.{picked}
use Rattle.http_head.specs.Reading.{reading}
use Rattle.http_head.specs.Fields.{is_complete, length_of}
use Rattle.rule_table.specs.declared.types.Rule.{Rule}
use Rattle.rule_table.specs.Setups.{SetupView, IsSetup}
use Rattle.rule_table.specs.Matching.{matched, admits}

-- the bytes begin with a head, and the others with the same bytes
pub record HasSameHead (bytes others : List ℕ) : Type 0 where
  pub reads : IsTrue (is_complete (reading bytes))
  pub front : take (length_of (reading bytes)) others ≡ take (length_of (reading bytes)) bytes

-- which rule matches is told by the head alone
abbrev pub MatchedByHead : Type 0
MatchedByHead =
    (setup : SetupView) (bytes others : List ℕ) → HasSameHead bytes others → matched setup others ≡ matched setup bytes

-- and so is which servers are admitted
abbrev pub AdmittedByHead : Type 0
AdmittedByHead =
    (setup : SetupView) (bytes others : List ℕ) (server : ℕ) → HasSameHead bytes others
    → admits setup others server ≡ admits setup bytes server

-- a number that matches is that of a rule
abbrev pub MatchedIsRule : Type 0
MatchedIsRule =
    (setup : SetupView) (bytes : List ℕ) (number : ℕ) → matched setup bytes ≡ Some number → number < length setup.rules

-- whatever the draw, the server that it picks of the rule that matches is admitted
abbrev pub PickedIsAdmitted : Type 0
PickedIsAdmitted =
    (setup : SetupView) (bytes : List ℕ) (number draw : ℕ) (rule : Rule) → IsSetup setup → matched setup bytes ≡ Some number
    → slice_get setup.rules number ≡ Some rule → admits setup bytes (picked rule.to draw) ≡ true
