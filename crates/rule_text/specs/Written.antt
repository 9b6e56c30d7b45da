-- What a rules file writes, field by field in the order in which faults are looked for.
use Rattle.std.specs.Prelude.{ℕ, pos, Bool, List, length, Option, Some, None, Result, Ok, Err, if◌then◌else◌, codes}
use Rattle.std.specs.Option.{is_some, option_and_then}
use Rattle.toml.specs.Data.{Members, get_member, as_integer, as_str}
use Rattle.rule_table.specs.Forms.{is_host, is_path, is_cookie}
use Rattle.rule_table.specs.Setups.{is_shard_count}
use Rattle.rule_table.specs.declared.types.Server.{Server as ServerType}
use Rattle.rule_table.specs.declared.types.Service.{Service as ServiceType}
use Rattle.rule_table.specs.declared.types.Sizes.{Sizes}
use Rattle.rule_text.specs.declared.fault.RuleFault.{RuleFault}
use Rattle.rule_text.specs.declared.fault.RuleFault.TheVariants.{Range}
use Rattle.rule_text.specs.declared.fault.Place.{Place}
use Rattle.rule_text.specs.declared.fault.Place.TheVariants.{Top, Service, Server, Rule}
use Rattle.rule_text.specs.Forms.{address_of, is_server_name, kept_if, secret_of}
use Rattle.rule_text.specs.Names.{field_name}
use Rattle.rule_text.specs.Steps.{◌>>=◌, each}
use Rattle.rule_text.specs.Values.{whole_at, whole_within, text_at, array_at}

-- a power of two up to 64
unfoldable pub shards_of : Members → Result ℕ RuleFault
shards_of ms = do
  n ← whole_at Top (codes "shards") 1 64 ms
  if is_shard_count n then Ok n else Err (Range (field_name Top (codes "shards")) (pos n))

unfoldable pub sizes_of : Members → Result Sizes RuleFault
sizes_of ms = do
  instances ← whole_at Top (codes "instances") 1 16 ms
  replicas ← whole_at Top (codes "replicas") 1 8 ms
  copies ← whole_at Top (codes "copies") 1 replicas ms
  shards ← shards_of ms
  secret ← text_at secret_of Top (codes "secret") ms
  Ok (record { instances = instances; replicas = replicas; copies = copies; shards = shards; secret = secret })

unfoldable pub service_of : Members → Result ServiceType RuleFault
service_of ms = do
  number ← whole_at Service (codes "number") 0 65535 ms
  address ← text_at address_of Service (codes "address") ms
  port ← whole_at Service (codes "port") 1 65535 ms
  Ok (record { number = number; address = address; port = port })

-- a server, with the name that rules give it
abbrev pub Named : Type 0
Named = List ℕ × ServerType

unfoldable pub server_of : ℕ → Members → Result Named RuleFault
server_of n ms = do
  name ← text_at (kept_if is_server_name) (Server n) (codes "name") ms
  address ← text_at address_of (Server n) (codes "address") ms
  port ← whole_at (Server n) (codes "port") 1 65535 ms
  Ok (name, record { address = address; port = port })

-- a rule as it is written
pub record Written : Type 0 where
  -- the names of servers, and a weight for each
  pub to : List (List ℕ)
  pub weights : List ℕ
  pub host : Option (List ℕ)
  pub path : Option (List ℕ)
  pub cookie : Option (List ℕ)

-- as many weights as servers
unfoldable pub weights_at : Place → ℕ → Members → Result (List ℕ) RuleFault
weights_at place count ms = do
  zs ← array_at as_integer count count place (codes "weights") ms
  each (λ k. whole_within (field_name place (codes "weights")) 0 65535) 0 zs

-- a text that the test takes, if the field is there
unfoldable pub condition_at : (List ℕ → Bool) → Place → List ℕ → Members → Result (Option (List ℕ)) RuleFault
condition_at test place key ms =
    if is_some (get_member key ms) then text_at (kept_if test) place key ms >>= (λ s. Ok (Some s)) else Ok None

unfoldable pub rule_of : ℕ → Members → Result Written RuleFault
rule_of n ms = do
  to ← array_at (λ d. option_and_then (kept_if is_server_name) (as_str d)) 1 256 (Rule n) (codes "to") ms
  weights ← weights_at (Rule n) (length to) ms
  host ← condition_at is_host (Rule n) (codes "host") ms
  path ← condition_at is_path (Rule n) (codes "path") ms
  cookie ← condition_at is_cookie (Rule n) (codes "cookie") ms
  Ok (record { to = to; weights = weights; host = host; path = path; cookie = cookie })
