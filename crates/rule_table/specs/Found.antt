-- What is kept of a head while its rule is looked for.
use Rattle.std.specs.Prelude.{◌≡◌, ◌==◌, ℕ, ◌<◌, Bool, List, Option, Some, None, false, get_or}
use Rattle.std.specs.Borrow.{Bor}
use Rattle.std.specs.List.{before_first}
use Rattle.http_head.specs.Fields.{cookies_of, host_of, same_name, target_of}
use Rattle.http_head.specs.Parts.{AreFieldsOf}
use Rattle.http_head.specs.Reading.{Reading, reading}
use Rattle.rule_table.specs.declared.types.Rule.{Rule}
use Rattle.rule_table.specs.declared.cookies.Cookies.{Cookies}
use Rattle.rule_table.specs.declared.matching.Asked.{Asked}
use Rattle.rule_table.specs.Forms.{question}
use Rattle.rule_table.specs.Index.{is_met}
use Rattle.rule_table.specs.Matching.{value_names_host}

-- these are the head's fields, and the rules that are found for its cookies
pub record AreCookiesOf (rules : List Rule) (bytes : List ℕ) (c : Cookies) : Type 0 where
  pub fields : AreFieldsOf bytes c.fields
  pub met : (number : ℕ) → number < 256 → get_or c.met number false ≡ is_met rules c.slots (cookies_of (reading bytes)) number

-- whether the name, if there is one, is the host but for ASCII case
abbrev pub is_named : List ℕ → Option (Bor (List ℕ)) → Bool
is_named host None = false
is_named host (Some name) = same_name name.now host

-- these are the host that the head names and its target up to the query
pub record IsAskedOf (r : Reading) (asked : Asked) : Type 0 where
  pub host : (host : List ℕ) → value_names_host host (host_of r) ≡ is_named host asked.host
  pub path : asked.path.now ≡ before_first (λ b. b == question) (target_of r)
