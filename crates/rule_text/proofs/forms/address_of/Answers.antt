use Rattle.std.proofs.Common.{ap, sym, ◌∙◌, Some}
use Rattle.std.specs.Net.Addr.{ipv4_bits, ipv4_octets}
use Rattle.rule_text.specs.Forms.{address_of}
use Rattle.rule_text.proofs.AddressLemmas.{address_of-dotted, address_of-other}
use Rattle.rule_text.proofs.forms.address_of.Goals as goal

pub returns-in-Ok : goal.returns-in-Ok
unfolding ipv4_bits
returns-in-Ok c =
    ap Some c.to_bits.ensures
    ∙ sym (ap address_of (sym c.as_bytes.ensures.value) ∙ address_of-dotted c.as_bytes.result.now (ipv4_octets c.in-Ok.address) c.in-Ok.ensures)

pub returns-in-Err : goal.returns-in-Err
returns-in-Err c = sym (ap address_of (sym c.as_bytes.ensures.value) ∙ address_of-other c.as_bytes.result.now c.in-Err.ensures)
