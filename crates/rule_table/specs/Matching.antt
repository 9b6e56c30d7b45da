-- Which rule a request's head matches (RFC 9112, 3.2: the target and the Host field), and which servers it admits.
use Rattle.std.specs.Prelude.{ℕ, Bool, true, false, ◌&&◌, not, ◌==◌, nat_eq, List, position, Option, Some, None, slice_get, if◌then◌else◌}
use Rattle.std.specs.List.{before_first, starts_with}
use Rattle.weighted_pick.specs.Pick.{has_weight}
use Rattle.http_head.specs.Reading.{Reading, reading}
use Rattle.http_head.specs.Fields.{is_complete, target_of, host_of, same_name, has_pair}
use Rattle.rule_table.specs.declared.types.Server.{Server}
use Rattle.rule_table.specs.declared.types.Rule.{Rule}
use Rattle.rule_table.specs.Forms.{colon, question, bracket, begins_with}
use Rattle.rule_table.specs.Setups.{SetupView}

-- the Host value up to its first colon is the host, but for ASCII case; a value that begins with `[` is none
abbrev pub names_host : List ℕ → List ℕ → Bool
names_host host value = not (begins_with bracket value) && same_name (before_first (λ b. b == colon) value) host

-- the target up to its `?` begins with the path
abbrev pub has_path : List ℕ → List ℕ → Bool
has_path path target = starts_with nat_eq (before_first (λ b. b == question) target) path

-- the same of a value that may be missing
abbrev pub value_names_host : List ℕ → Option (List ℕ) → Bool
value_names_host host None = false
value_names_host host (Some value) = names_host host value

-- a condition that is not there holds of every head
abbrev pub meets_host : Option (List ℕ) → Reading → Bool
meets_host None r = true
meets_host (Some host) r = value_names_host host (host_of r)

abbrev pub meets_path : Option (List ℕ) → Reading → Bool
meets_path None r = true
meets_path (Some path) r = has_path path (target_of r)

abbrev pub meets_cookie : Option (List ℕ) → Reading → Bool
meets_cookie None r = true
meets_cookie (Some pair) r = has_pair r pair

-- all conditions of the rule hold
abbrev pub applies : Reading → Rule → Bool
applies r rule = meets_host rule.host r && meets_path rule.path r && meets_cookie rule.cookie r

-- the number of the first of these rules that a head matches; what holds no head matches none
unfoldable pub matched_in : List Rule → Reading → Option ℕ
matched_in rules r = if is_complete r then position (applies r) rules else None

-- whether the rule, if there is one, gives the server a weight above 0
abbrev pub rule_gives_weight : ℕ → Option Rule → Bool
rule_gives_weight server None = false
rule_gives_weight server (Some rule) = has_weight rule.to server

-- the same of the rule that has the number, if there is one
abbrev pub gives_weight : List Rule → ℕ → Option ℕ → Bool
gives_weight rules server None = false
gives_weight rules server (Some number) = rule_gives_weight server (slice_get rules number)

-- whether the rule that a head matches among these gives the server a weight above 0
unfoldable pub admits_in : List Rule → Reading → ℕ → Bool
admits_in rules r server = gives_weight rules server (matched_in rules r)

-- the same of a setup's rules and of bytes
abbrev pub matched : SetupView → List ℕ → Option ℕ
matched setup bytes = matched_in setup.rules (reading bytes)

abbrev pub admits : SetupView → List ℕ → ℕ → Bool
admits setup bytes server = admits_in setup.rules (reading bytes) server

-- the place of the server with that address and port
abbrev pub place_of : List Server → ℕ → ℕ → Option ℕ
place_of servers address port = position (λ s. s.address == address && s.port == port) servers
