-- The connections that honest clients open, one each: the flow of each, the first number of its stream, and its end.
use Rattle.std.specs.Prelude.{◌≡◌, ℕ, Option, find}
use Rattle.flow_id.specs.Keys.{same_flow}
use Rattle.flow_id.specs.declared.key.Flow.{Flow}
use Rattle.seq_space.specs.declared.Num.{Num}
use Rattle.tcp_end.specs.EndState.{EndState}
use Rattle.world_model.specs.declared.client.ClientSpec.{ClientSpec}
use Rattle.world_model.specs.Clients.{flow_of, IsClient}
use Rattle.world_model.specs.World.{World, end_of_client}

-- the client whose connection has this flow
abbrev pub opening_of : World → Flow → Option ClientSpec
opening_of w flow = find (λ client. same_flow (flow_of w.setup client) flow) w.clients

-- client k's connection has this flow and this first number, and this is its end, once it has opened
pub record IsOpening (w : World) (k : ℕ) (flow : Flow) (first : Num) (state : Option EndState) : Type 0 where
  pub client : ClientSpec
  pub is : IsClient w.clients k client
  pub flow_is : flow ≡ flow_of w.setup client
  pub first_is : first ≡ client.isn
  pub state_is : state ≡ end_of_client w k
