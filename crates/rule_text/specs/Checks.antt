-- What is looked for once every field has its form: fields that a table may not have, servers that come twice, names that no
-- server has, names that come twice in one rule, and rules whose weights sum to 0.
use Rattle.std.specs.Prelude.{ℕ, ◌+◌, Bool, ◌&&◌, ◌||◌, ◌==◌, not, List, [], ◌∷◌, ◌++◌, find, Option, Some, None, Result, Ok, Err, if◌then◌else◌, codes}
use Rattle.std.specs.List.{list_any}
use Rattle.std.specs.Str.{bytes_eq}
use Rattle.toml.specs.Data.{Members, no_members, member}
use Rattle.weighted_pick.specs.Pick.{total_weight}
use Rattle.rule_table.specs.declared.types.Service.{Service as ServiceType}
use Rattle.rule_table.specs.declared.types.Rule.{Rule as RuleType}
use Rattle.rule_text.specs.declared.fault.RuleFault.{RuleFault}
use Rattle.rule_text.specs.declared.fault.RuleFault.TheVariants.{Extra, Twice, UnknownServer, ZeroTotal}
use Rattle.rule_text.specs.declared.fault.Place.{Place}
use Rattle.rule_text.specs.declared.fault.Place.TheVariants.{Top, Service, Server, Rule}
use Rattle.rule_text.specs.Names.{field_name}
use Rattle.rule_text.specs.Steps.{◌>>=◌}
use Rattle.rule_text.specs.Written.{Named, Written}

-- no fault where there is no such thing
abbrev pub unless_any : {A : Type 0} → (A → RuleFault) → Option A → Result (Unit {0}) RuleFault
unless_any fault None = Ok tt
unless_any fault (Some a) = Err (fault a)

-- the check at each member, by its place
abbrev pub every : {A : Type 0} → (ℕ → A → Result (Unit {0}) RuleFault) → ℕ → List A → Result (Unit {0}) RuleFault
every check n [] = Ok tt
every check n (x ∷ xs) = do
  passed ← check n x
  every check (n + 1) xs

-- the first member that clashes with those before it
abbrev pub first_clash : {A : Type 0} → (List A → A → Bool) → List A → List A → Option A
first_clash clashes earlier [] = None
first_clash clashes earlier (x ∷ xs) = if clashes earlier x then Some x else first_clash clashes (earlier ++ x ∷ []) xs

abbrev pub is_among : List (List ℕ) → List ℕ → Bool
is_among names name = list_any (λ n. bytes_eq n name) names

-- ---- fields

-- the fields that a table may have
abbrev pub known_keys : Place → List (List ℕ)
known_keys Top = codes "instances" ∷ codes "replicas" ∷ codes "copies" ∷ codes "shards" ∷ codes "secret" ∷ codes "service"
    ∷ codes "server" ∷ codes "rule" ∷ []
known_keys Service = codes "number" ∷ codes "address" ∷ codes "port" ∷ []
known_keys (Server n) = codes "name" ∷ codes "address" ∷ codes "port" ∷ []
known_keys (Rule n) = codes "to" ∷ codes "weights" ∷ codes "host" ∷ codes "path" ∷ codes "cookie" ∷ []

-- the keys of a table, in byte order
abbrev pub keys_of : Members → List (List ℕ)
keys_of no_members = []
keys_of (member k d ms) = k ∷ keys_of ms

-- no field that the table may not have: the first in byte order is told
unfoldable pub no_extra : Place → Members → Result (Unit {0}) RuleFault
no_extra place ms = unless_any (λ k. Extra (field_name place k)) (find (λ k. not (is_among (known_keys place) k)) (keys_of ms))

-- ---- servers

-- a server that may not come after these: one of them has its name, or its address and port, or the service has its address
abbrev pub clashes : ServiceType → List Named → Named → Bool
clashes service earlier s =
    list_any (λ t. bytes_eq t.0 s.0 || (t.1.address == s.1.address && t.1.port == s.1.port)) earlier
    || s.1.address == service.address

-- ---- rules

-- each name is that of a server
abbrev pub known : List (List ℕ) → Written → Result (Unit {0}) RuleFault
known servers rule = unless_any UnknownServer (find (λ n. not (is_among servers n)) rule.to)

-- no name stands among those before it
abbrev pub once : Written → Result (Unit {0}) RuleFault
once rule = unless_any Twice (first_clash is_among [] rule.to)

-- the weights of the rule do not sum to 0
abbrev pub weighs : ℕ → RuleType → Result (Unit {0}) RuleFault
weighs n rule = if total_weight rule.to == 0 then Err (ZeroTotal n) else Ok tt
