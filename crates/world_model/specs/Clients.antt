-- The honest clients: each follows the rules of an end, and nobody else sends under its address and port.
use Rattle.std.specs.Prelude.{◌≡◌, ℕ, Some, None, List, slice_get}
use Rattle.flow_id.specs.declared.key.Flow.{Flow}
use Rattle.job_core.specs.Aims.{flow_from}
use Rattle.rule_table.specs.Matching.{place_of}
use Rattle.rule_table.specs.Setups.{SetupView}
use Rattle.world_model.specs.declared.client.ClientSpec.{ClientSpec}

-- the flow of a client
abbrev pub flow_of : SetupView → ClientSpec → Flow
flow_of setup client = flow_from setup client.address client.port

-- the client with that index
abbrev pub IsClient : List ClientSpec → ℕ → ClientSpec → Type 0
IsClient clients k client = slice_get clients k ≡ Some client

-- Clients may be listed together: no two have the same address and port, and none those of a server or of the service.
pub record AreClients (setup : SetupView) (clients : List ClientSpec) : Type 0 where
  pub apart : (j k : ℕ) (a b : ClientSpec) → IsClient clients j a → IsClient clients k b → a.address ≡ b.address → a.port ≡ b.port → j ≡ k
  pub no_server : (k : ℕ) (a : ClientSpec) → IsClient clients k a → place_of setup.servers a.address a.port ≡ None
  pub no_service : (k : ℕ) (a : ClientSpec) → IsClient clients k a → a.address ≡ setup.service.address → a.port ≡ setup.service.port → ⊥
