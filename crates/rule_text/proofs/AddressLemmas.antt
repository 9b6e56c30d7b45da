-- The address that a text writes.
use Rattle.std.proofs.Common.{◌≡◌, ℕ, List, [], ◌∷◌, refl, sym, ap, subst, lit≤, ◌∙◌, Option, Some, None}
use Rattle.std.proofs.lemmas.List.{append-nil}
use Rattle.std.specs.Option.{option_and_then}
use Rattle.std.specs.Int.{w32, from_be_bytes}
use Rattle.std.specs.Net.Grammar.{IsDotted, IsIpv4Text}
use Rattle.std.specs.declared.net.ipv4_addr.Ipv4Addr.{Ipv4Addr}
use Rattle.std.specs.Net.Reader.{read_ipv4}
use Rattle.std.proofs.NetLemmas.Ipv4.{read_ipv4_complete, read_ipv4_sound}
use Rattle.rule_text.specs.Forms.{whole_address, address_of}

pub address_of-dotted : (text octets : List ℕ) → IsDotted text octets → address_of text ≡ Some (from_be_bytes w32 octets)
unfolding address_of
address_of-dotted text octets dotted =
    ap (λ xs. option_and_then whole_address (read_ipv4 xs)) (sym (append-nil text)) ∙ ap (option_and_then whole_address) (read_ipv4_complete text octets [] dotted (lit≤ tt))

-- an address that a text writes, from its octets
address_with : List ℕ → Ipv4Addr
address_with octets = record { octets = octets }

pub address_of-other : (text : List ℕ) → ((a : Ipv4Addr) → ¬ (IsIpv4Text text a)) → address_of text ≡ None
unfolding address_of address_with
address_of-other text none = at (read_ipv4 text) refl
  where
    at : (r : Option (List ℕ × List ℕ)) → read_ipv4 text ≡ r → option_and_then whole_address (read_ipv4 text) ≡ None
    at None e = ap (option_and_then whole_address) e
    at (Some (octets, [])) e =
        let sound = read_ipv4_sound text octets [] e in
        let dotted : IsDotted text octets =
        subst (λ xs. IsDotted xs octets) (sym (sound.1 ∙ append-nil sound.0)) sound.2 in
        absurd (none (address_with octets) dotted)
    at (Some (octets, b ∷ rest)) e = ap (option_and_then whole_address) e
