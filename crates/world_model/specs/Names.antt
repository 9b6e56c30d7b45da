-- By what the ends of the servers and the clients are found.
use Rattle.std.specs.Prelude.{◌≡◌, ℕ, ◌&&◌, ◌==◌, Bool, List}
use Rattle.std.specs.List.{list_any}
use Rattle.world_model.specs.declared.client.ClientSpec.{ClientSpec}
use Rattle.world_model.specs.declared.client_list.ClientName.{ClientName}
use Rattle.world_model.specs.declared.server_end.ServerEnd.{ServerEnd}
use Rattle.world_model.specs.declared.server_ends.EndName.{EndName}

abbrev pub end_name : ServerEnd → EndName
end_name s = record { server = s.server; port = s.port }

-- the client has this address and port
abbrev pub is_at : ℕ → ℕ → ClientSpec → Bool
is_at address port client = client.address == address && client.port == port

-- the same of a name
abbrev pub names : ℕ → ℕ → ClientName → Bool
names address port name = address == name.address && port == name.port

-- these are the names of the clients
abbrev pub AreNames : List ClientName → List ClientSpec → Type 0
AreNames all clients = (address port : ℕ) → list_any (names address port) all ≡ list_any (is_at address port) clients
