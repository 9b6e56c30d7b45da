use Rattle.std.proofs.Common.{◌≡◌, true, ◌==◌, take, get_or, sym, ap, ◌∙◌}
use Rattle.std.specs.Prelude.{◌||◌}
use Rattle.std.specs.List.{list_any}
use Rattle.std.proofs.lemmas.Bool.{eqb-true, and_parts}
use Rattle.std.proofs.lemmas.List.Folds.{list_any_more}
use Rattle.world_model.specs.Names.{names, is_at}
use Rattle.world_model.specs.declared.client.ClientSpec.{ClientSpec}
use Rattle.world_model.specs.declared.client_list.ClientName.{ClientName}
use Rattle.world_model.specs.contracts.client_list.ClientNamePartialEq.TheImpl.{eq-value}
use Rattle.world_model.proofs.Named.{both_turned, inserted_any}
use Rattle.world_model.proofs.client_list.names_of.Goals as goal

exact : (a b : ClientName) → (eq-value).it a b ≡ true → a ≡ b
exact a b same =
    let both = and_parts (a.address == b.address) (a.port == b.port) same in
    λ i. record { address = eqb-true a.address b.address both.0 i; port = eqb-true a.port b.port both.1 i }

pub loop-client-preserved : goal.loop-client-preserved
loop-client-preserved c = λ address port.
    let clients = c.args.clients.now in
    let k = c.loop-client.client-index in
    let x : ClientSpec = get_or clients k (record { address = 0; port = 0; isn = record { 0 = 0 } }) in
    ap (list_any (names address port)) c.in_ok-insert.ensures.keys
    ∙ inserted_any (eq-value).it exact (names address port) c.loop-client.names.keys (record { address = x.address; port = x.port })
    ∙ ap (λ b. b || names address port (record { address = x.address; port = x.port })) (c.loop-client.invariant address port)
    ∙ ap (λ b. list_any (is_at address port) (take k clients) || b) (both_turned address x.address port x.port)
    ∙ sym (list_any_more (is_at address port) clients k (record { address = 0; port = 0; isn = record { 0 = 0 } }) c.loop-client-test.true)
