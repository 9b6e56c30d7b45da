-- Who takes part in a generated run, and what its ends write: the balancer's setup, and clients whose first numbers are drawn.
use Rattle.std.specs.Prelude.{ℕ, zero, suc, ◌+◌, ◌%◌, None, List, [], ◌∷◌, ◌++◌, map}
use Rattle.std.specs.List.{range_with_len}
use Rattle.drive_plan.specs.Generator.{next_state, drawn}
use Rattle.drive_plan.specs.Streams.{client_byte_at, server_byte_at, head_text}
use Rattle.rule_table.specs.Setups.{SetupView}
use Rattle.world_model.specs.declared.client.ClientSpec.{ClientSpec}

-- ---- the balancer
-- two servers, at 10.0.0.1 and 10.0.0.2, behind the service at 198.51.100.10
unfoldable pub driven_setup : SetupView
driven_setup = record {
  instances = 4;
  replicas = 3;
  copies = 2;
  shards = 4;
  secret = range_with_len 0 32;
  service = record { number = 0; address = 0xc633640a; port = 80 };
  servers = record { address = 0x0a000001; port = 8080 } ∷ record { address = 0x0a000002; port = 8080 } ∷ [];
  rules = record { host = None; path = None; cookie = None; to = (0, 1) ∷ (1, 1) ∷ [] } ∷ [];
}

-- ---- the clients
-- the generator's state after so many draws
abbrev pub after_draws : ℕ → ℕ → ℕ
after_draws x zero = x
after_draws x (suc count) = next_state (after_draws x count)

-- client k, from 0, is at 192.0.2.(1 + k mod 200), port 20000 + k
abbrev pub client_at : ℕ → ℕ → ClientSpec
client_at k first = record { address = 0xc0000201 + k % 200; port = 20000 + k; isn = record { 0 = first } }

-- its first number is draw k of the run with this number
abbrev pub driven_client : ℕ → ℕ → ClientSpec
driven_client number k = client_at k (drawn (after_draws number (suc k)))

abbrev pub driven_clients : ℕ → ℕ → List ClientSpec
driven_clients number flows = map (driven_client number) (range_with_len 0 flows)

-- ---- what they write
unfoldable pub client_text : ℕ → ℕ → List ℕ
client_text bytes k = head_text k ++ map (client_byte_at k) (range_with_len 0 bytes)

unfoldable pub server_text : ℕ → List ℕ
server_text bytes = map server_byte_at (range_with_len 0 bytes)
