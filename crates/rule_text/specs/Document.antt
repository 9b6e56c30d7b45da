-- What a rules file says: the setup, or the first fault in the order in which faults are looked for.
use Rattle.std.specs.Prelude.{ℕ, List, [], map, None, Result, Ok, if◌then◌else◌, codes}
use Rattle.std.specs.List.{position_or_len, zip}
use Rattle.std.specs.Option.{ok_or}
use Rattle.std.specs.Str.{bytes_eq, is_utf8}
use Rattle.toml.specs.Data.{Members, as_table}
use Rattle.toml.specs.Parse.{parse_document}
use Rattle.rule_table.specs.declared.types.Rule.{Rule as RuleType}
use Rattle.rule_table.specs.Setups.{SetupView, setup_of}
use Rattle.rule_text.specs.declared.fault.RuleFault.{RuleFault}
use Rattle.rule_text.specs.declared.fault.RuleFault.TheVariants.{Syntax, Twice}
use Rattle.rule_text.specs.declared.fault.Place.TheVariants.{Top, Service, Server, Rule}
use Rattle.rule_text.specs.Steps.{◌>>=◌, each}
use Rattle.rule_text.specs.Values.{array_at, field_at}
use Rattle.rule_text.specs.Written.{Named, Written, sizes_of, service_of, server_of, rule_of}
use Rattle.rule_text.specs.Checks.{clashes, every, first_clash, known, no_extra, once, unless_any, weighs}

-- the names of the servers
abbrev pub names_of : List Named → List (List ℕ)
names_of servers = map (λ s. s.0) servers

-- the place of a name among the names
abbrev pub place_among : List (List ℕ) → List ℕ → ℕ
place_among names name = position_or_len (λ n. bytes_eq n name) names

-- the rule with its servers by their places
abbrev pub resolved : List (List ℕ) → Written → RuleType
resolved names w = record { host = w.host; path = w.path; cookie = w.cookie; to = zip (map (place_among names) w.to) w.weights }

-- the rules with their servers by their places
abbrev pub resolved_rules : List Named → List Written → List RuleType
resolved_rules servers rules = map (resolved (names_of servers)) rules

-- what a document says. First the fields are read, in order. Then no table has a field that it may not have, the servers
-- differ, the rules name them, each at most once, and the weights of no rule sum to 0.
unfoldable pub document_setup : Members → Result SetupView RuleFault
document_setup ms = do
  sizes ← sizes_of ms
  service_table ← field_at as_table Top (codes "service") ms
  service ← service_of service_table
  server_tables ← array_at as_table 1 256 Top (codes "server") ms
  servers ← each server_of 0 server_tables
  rule_tables ← array_at as_table 1 256 Top (codes "rule") ms
  rules ← each rule_of 0 rule_tables
  plain_top ← no_extra Top ms
  plain_service ← no_extra Service service_table
  plain_servers ← every (λ n. no_extra (Server n)) 0 server_tables
  plain_rules ← every (λ n. no_extra (Rule n)) 0 rule_tables
  differ ← unless_any (λ s. Twice s.0) (first_clash (clashes service) [] servers)
  named ← every (λ n. known (names_of servers)) 0 rules
  single ← every (λ n. once) 0 rules
  heavy ← every weighs 0 (resolved_rules servers rules)
  Ok (setup_of sizes service (map (λ s. s.1) servers) (resolved_rules servers rules))

-- what the bytes of a rules file say, which is a TOML document
unfoldable pub rules_in : List ℕ → Result SetupView RuleFault
rules_in bytes = do
  ms ← ok_or (if is_utf8 bytes then parse_document bytes else None) Syntax
  document_setup ms
