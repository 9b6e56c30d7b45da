-- Which server a flow is given to: one of those of the first rule that its request's head matches, by the draw.
use Rattle.std.specs.Prelude.{◌≡◌, ◌<◌, ℕ, true, List, [], length, Option, Some, is_some, option_map, slice_get, unwrap_or}
use Rattle.weighted_pick.specs.Pick.{picked}
use Rattle.flow_record.specs.declared.record.Record.{Record}
use Rattle.flow_record.specs.declared.record.Record.TheVariants.{Choice}
use Rattle.flow_record.specs.Records.{is_choice, choice_server, choice_rule}
use Rattle.rule_table.specs.Setups.{SetupView, IsSetup}
use Rattle.rule_table.specs.Matching.{matched, admits}

-- the servers and weights of the rule with that number; none where no rule has it
abbrev pub choices_of : SetupView → ℕ → List (ℕ × ℕ)
choices_of setup number = unwrap_or (option_map (λ rule. rule.to) (slice_get setup.rules number)) []

-- what the draw picks of a rule
abbrev pub choice_by : SetupView → ℕ → ℕ → Record
choice_by setup draw number = Choice (picked (choices_of setup number) draw) number

-- what the draw picks of the rule that the head in these bytes matches; nothing where it matches none
unfoldable pub choice_of : SetupView → List ℕ → ℕ → Option Record
choice_of setup held draw = option_map (choice_by setup draw) (matched setup held)

-- The choice names the rule that the head in these bytes matches, and a server of the setup that this rule admits.
pub record IsAdmitted (setup : SetupView) (held : List ℕ) (choice : Record) : Type 0 where
  pub kind : is_choice choice ≡ true
  pub rule : matched setup held ≡ Some (choice_rule choice)
  pub server : choice_server choice < length setup.servers
  pub admitted : admits setup held (choice_server choice) ≡ true

-- whatever the draw, what is chosen is admitted
abbrev pub ChosenIsAdmitted : Type 0
ChosenIsAdmitted =
    (setup : SetupView) (held : List ℕ) (draw : ℕ) (choice : Record) → IsSetup setup → choice_of setup held draw ≡ Some choice
    → IsAdmitted setup held choice

-- something is chosen exactly where a rule matches
abbrev pub ChosenWhereMatched : Type 0
ChosenWhereMatched =
    (setup : SetupView) (held : List ℕ) (draw : ℕ) → is_some (choice_of setup held draw) ≡ is_some (matched setup held)
