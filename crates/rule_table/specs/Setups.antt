-- The setup of a balancer, as contracts see it, and what holds of every one.
use Rattle.std.specs.Prelude.{◌≡◌, ◌≢◌, ℕ, ◌≤◌, ◌<◌, Bool, ◌||◌, ◌==◌, All, AllPairs, IsTrue, IfSome, List, length, slice_get, unwrap_or}
use Rattle.weighted_pick.specs.Pick.{total_weight}
use Rattle.rule_table.specs.declared.types.Server.{Server}
use Rattle.rule_table.specs.declared.types.Service.{Service}
use Rattle.rule_table.specs.declared.types.Sizes.{Sizes}
use Rattle.rule_table.specs.declared.types.Rule.{Rule}
use Rattle.rule_table.specs.Forms.{is_host, is_path, is_cookie}

pub record SetupView : Type 0 where
  pub instances : ℕ
  pub replicas : ℕ
  -- how many replicas hold each record
  pub copies : ℕ
  pub shards : ℕ
  -- the bytes that are hashed before a flow's own
  pub secret : List ℕ
  pub service : Service
  pub servers : List Server
  pub rules : List Rule

-- the setup of these sizes, service, servers and rules
abbrev pub setup_of : Sizes → Service → List Server → List Rule → SetupView
setup_of sizes service servers rules = record {
  instances = sizes.instances;
  replicas = sizes.replicas;
  copies = sizes.copies;
  shards = sizes.shards;
  secret = sizes.secret;
  service = service;
  servers = servers;
  rules = rules;
}

-- a power of two up to 64
abbrev pub is_shard_count : ℕ → Bool
is_shard_count n = n == 1 || n == 2 || n == 4 || n == 8 || n == 16 || n == 32 || n == 64

-- the rule is one for so many servers: its conditions have their forms, and it names servers of the list, none twice, with a total weight above 0
pub record IsRule (servers : ℕ) (rule : Rule) : Type 0 where
  pub host : IfSome rule.host (λ host. IsTrue (is_host host))
  pub path : IfSome rule.path (λ path. IsTrue (is_path path))
  pub cookie : IfSome rule.cookie (λ cookie. IsTrue (is_cookie cookie))
  pub known : All (λ c. c.0 < servers) rule.to
  pub once : AllPairs (λ c d. c.0 ≢ d.0) rule.to
  pub weighs : 0 < total_weight rule.to

-- what holds of every setup
pub record IsSetup (setup : SetupView) : Type 0 where
  pub instances : (1 ≤ setup.instances) × (setup.instances ≤ 16)
  pub replicas : (1 ≤ setup.replicas) × (setup.replicas ≤ 8)
  pub copies : (1 ≤ setup.copies) × (setup.copies ≤ setup.replicas)
  pub shards : IsTrue (is_shard_count setup.shards)
  pub secret : length setup.secret ≡ 32
  pub server_count : (1 ≤ length setup.servers) × (length setup.servers ≤ 256)
  pub rule_count : (1 ≤ length setup.rules) × (length setup.rules ≤ 256)
  -- no two servers have the same address and port, and none has the service's address
  pub apart : AllPairs (λ s t. s ≢ t) setup.servers
  pub elsewhere : All (λ s. s.address ≢ setup.service.address) setup.servers
  pub rules : All (IsRule (length setup.servers)) setup.rules

-- the server with that index; of an index that no server has, the one of zeros
abbrev pub server_of : SetupView → ℕ → Server
server_of setup index = unwrap_or (slice_get setup.servers index) (record { address = 0; port = 0 })
