-- The clients of a generated run may be listed together.
use Rattle.std.proofs.Common.{◌≡◌, ℕ, zero, suc, ◌+◌, ◌%◌, false, Some, None, map, refl, sym, ◌∙◌, ap, subst, arith}
use Rattle.std.specs.Prelude.{◌==◌, slice_get}
use Rattle.std.specs.List.{range_with_len}
use Rattle.std.proofs.lemmas.Bool.{ne_eqb}
use Rattle.std.proofs.lemmas.Option.{none-some, same_Some}
use Rattle.rule_table.specs.Matching.{place_of}
use Rattle.world_model.specs.declared.client.ClientSpec.{ClientSpec}
use Rattle.world_model.specs.Clients.{AreClients}
use Rattle.world_model.specs.DrivenSetup.{driven_setup, driven_client, driven_clients}

client_is : (f : ℕ → ClientSpec) (from n k : ℕ) (a : ClientSpec) → slice_get (map f (range_with_len from n)) k ≡ Some a → f (from + k) ≡ a
client_is f from zero k a is = absurd (none-some a is)
client_is f from (suc n) zero a is = ap f (let e : from + 0 ≡ from = omega arith in e) ∙ same_Some (f from) a is
client_is f from (suc n) (suc k) a is = ap f (let e : from + suc k ≡ from + 1 + k = omega arith in e) ∙ client_is f (from + 1) n k a is

client_here : (number flows k : ℕ) (a : ClientSpec) → slice_get (driven_clients number flows) k ≡ Some a → driven_client number k ≡ a
client_here number flows k a is = ap (driven_client number) (let e : k ≡ 0 + k = omega arith in e) ∙ client_is (driven_client number) 0 flows k a is

pub driven_apart : (number flows : ℕ) → AreClients driven_setup (driven_clients number flows)
unfolding driven_setup
driven_apart number flows = record {
  apart = λ j k a b here there address port.
      let one = ap (λ (c : ClientSpec). c.port) (client_here number flows j a here) in
      let other = ap (λ (c : ClientSpec). c.port) (client_here number flows k b there) in
      let same : 20000 + j ≡ 20000 + k = one ∙ port ∙ sym other in
      omega arith;
  no_server = λ k a here.
      let address = 0xc0000201 + k % 200 in
      let first : (0x0a000001 == address) ≡ false = ne_eqb 0x0a000001 address (λ (e : 0x0a000001 ≡ address). omega arith) in
      let second : (0x0a000002 == address) ≡ false = ne_eqb 0x0a000002 address (λ (e : 0x0a000002 ≡ address). omega arith) in
      subst (λ (c : ClientSpec). place_of driven_setup.servers c.address c.port ≡ None) (client_here number flows k a here) (rw (first, second) refl);
  no_service = λ k a here address port.
      let one : 0xc0000201 + k % 200 ≡ a.address = ap (λ (c : ClientSpec). c.address) (client_here number flows k a here) in
      omega arith;
}
