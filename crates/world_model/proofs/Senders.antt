-- Who sent a segment that the balancer takes, by its aim.
use Rattle.std.proofs.Common.{◌≡◌, ℕ, Some, refl, sym, ◌∙◌, ap, subst}
use Rattle.std.specs.Prelude.{slice_get}
use Rattle.std.proofs.lemmas.Option.{none-some, same_Some}
use Rattle.flow_id.specs.declared.key.Flow.{Flow}
use Rattle.job_core.specs.Aims.{aimed}
use Rattle.rule_table.specs.Matching.{place_of}
use Rattle.rule_table.specs.Setups.{server_of}
use Rattle.world_model.specs.declared.at.At.TheVariants.{Client, Server}
use Rattle.world_model.specs.declared.client.ClientSpec.{ClientSpec}
use Rattle.world_model.specs.Clients.{flow_of, IsClient}
use Rattle.world_model.proofs.Relations.{IsIn, IsStray}
use Rattle.world_model.specs.Posted.{Posted, Sender, end, balancer, stranger}
use Rattle.job_core.specs.TableLaws.{FromClient, FromServer}
use Rattle.world_model.specs.World.{World}
use Rattle.world_model.proofs.Conclude.{client_in_is, sent_as}
use Rattle.world_model.proofs.Invariant.{Calls, IsFlow, ClientSent, Inv}
use Rattle.world_model.proofs.Places.{place_is}

module _ (w : World) (calls : Calls) (inv : Inv w calls) (m : ℕ) (y : Posted) (sent : slice_get w.sent m ≡ Some y) (in_ : IsIn y.by) where
  -- ---- by an honest client
  module _ (flow : Flow) (from : FromClient w.setup y.segment.source y.segment.target y.segment.head flow) where
    client_address : (j : ℕ) → ClientSent w.setup w.clients w calls j m y → (a : ClientSpec) → IsClient w.clients j a → (a.address ≡ y.segment.source) × (a.port ≡ y.segment.head.source_port)
    client_address j c a is =
        let same = client_in_is w.clients j a is in
        (sym (c.goes.source ∙ ap (λ (x : ClientSpec). x.address) same), sym (c.goes.source_port ∙ ap (λ (x : ClientSpec). x.port) same))

    by_client : (k : ℕ) (client : ClientSpec) → IsClient w.clients k client → flow ≡ flow_of w.setup client → (by : Sender) → y.by ≡ by → y.by ≡ end (Client k)
    by_client k client is its (end (Client j)) by =
        let c = sent_as w calls inv m y (end (Client j)) sent by in
        let at = client_address j c c.client c.is in
        let address : c.client.address ≡ client.address = at.0 ∙ sym (ap (λ (f : Flow). f.address) from.flow_is) ∙ ap (λ (f : Flow). f.address) its in
        let port_is : c.client.port ≡ client.port = at.1 ∙ sym (ap (λ (f : Flow). f.port) from.flow_is) ∙ ap (λ (f : Flow). f.port) its in
        by ∙ ap (λ i. end (Client i)) (inv.apart.apart j k c.client client c.is is address port_is)
    by_client k client is its (end (Server v p)) by =
        let s = sent_as w calls inv m y (end (Server v p)) sent by in
        absurd (none-some v (sym from.no_server
        ∙ ap (λ a. place_of w.setup.servers a y.segment.head.source_port) s.goes.source
        ∙ ap (λ q. place_of w.setup.servers (server_of w.setup v).address q) s.goes.source_port
        ∙ place_is w.setup inv.good v s.known))
    by_client k client is its (balancer f) by = absurd (subst IsIn by in_)
    by_client k client is its stranger by =
        let s : IsStray w.setup w.clients y.segment = sent_as w calls inv m y stranger sent by in
        absurd (s.no_client k client is
        (sym (ap (λ (f : Flow). f.address) its) ∙ ap (λ (f : Flow). f.address) from.flow_is)
        (sym (ap (λ (f : Flow). f.port) its) ∙ ap (λ (f : Flow). f.port) from.flow_is))

    pub of_client : (k : ℕ) (client : ClientSpec) → IsClient w.clients k client → flow ≡ flow_of w.setup client → y.by ≡ end (Client k)
    of_client k client is its = by_client k client is its y.by refl

    -- the flow is one of an address that is no server's
    pub is_flow : IsFlow w.setup w.clients flow
    is_flow =
        let address : flow.address ≡ y.segment.source = ap (λ (f : Flow). f.address) from.flow_is in
        let port_is : flow.port ≡ y.segment.head.source_port = ap (λ (f : Flow). f.port) from.flow_is in
        record {
          is = from.flow_is
              ∙ ap (λ a. Rattle.job_core.specs.Aims.flow_from w.setup a y.segment.head.source_port) (sym address)
              ∙ ap (λ p. Rattle.job_core.specs.Aims.flow_from w.setup flow.address p) (sym port_is);
          no_server = ap (λ a. place_of w.setup.servers a flow.port) address ∙ ap (λ p. place_of w.setup.servers y.segment.source p) port_is ∙ from.no_server;
        }

  -- ---- by a server
  module _ (server port : ℕ) (from : FromServer w.setup y.segment.source y.segment.target y.segment.head server port) where
    by_server : (by : Sender) → y.by ≡ by → y.by ≡ end (Server server port)
    by_server (end (Client j)) by =
        let c = sent_as w calls inv m y (end (Client j)) sent by in
        let same = client_in_is w.clients j c.client c.is in
        absurd (none-some server (sym (inv.apart.no_server j c.client c.is)
        ∙ ap (λ a. place_of w.setup.servers a c.client.port) (sym (c.goes.source ∙ ap (λ (x : ClientSpec). x.address) same))
        ∙ ap (λ q. place_of w.setup.servers y.segment.source q) (sym (c.goes.source_port ∙ ap (λ (x : ClientSpec). x.port) same))
        ∙ from.server_is))
    by_server (end (Server v p)) by =
        let s = sent_as w calls inv m y (end (Server v p)) sent by in
        let same : v ≡ server = same_Some v server (sym (place_is w.setup inv.good v s.known)
        ∙ ap (λ a. place_of w.setup.servers a (server_of w.setup v).port) (sym s.goes.source)
        ∙ ap (λ q. place_of w.setup.servers y.segment.source q) (sym s.goes.source_port)
        ∙ from.server_is) in
        let port_is : p ≡ port = sym s.goes.target_port ∙ sym from.port_is in
        by ∙ ap (λ u. end (Server u p)) same ∙ ap (λ q. end (Server server q)) port_is
    by_server (balancer f) by = absurd (subst IsIn by in_)
    by_server stranger by =
        let s : IsStray w.setup w.clients y.segment = sent_as w calls inv m y stranger sent by in
        absurd (none-some server (sym s.no_server ∙ from.server_is))

    pub of_server : y.by ≡ end (Server server port)
    of_server = by_server y.by refl
