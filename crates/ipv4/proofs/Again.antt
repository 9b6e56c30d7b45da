-- A written packet is read again.
use Rattle.std.proofs.Common.{◌≡◌, ℕ, ◌+◌, ◌-◌, List, ◌++◌, length, take, drop, refl, ap, ◌∙◌, append_assoc, rules, arith}
use Rattle.std.specs.Prelude.{slice_range}
use Rattle.std.proofs.lemmas.List.{take_at, drop_at, length-append}
use Rattle.ipv4.specs.Packet.{IsReadAgain}
use Rattle.ipv4.specs.Written.{header, header_with, spelling}

pub packet-again : (source target : ℕ) (payload more : List ℕ) → IsReadAgain source target payload more
unfolding header_with
packet-again source target payload more = search (rules, length-append)

pub length-header : (source target total : ℕ) → length (header source target total) ≡ 20
unfolding header_with
length-header source target total = refl

-- the payload stands where the packet says
pub payload-again : (source target : ℕ) (payload more : List ℕ) → slice_range (spelling source target payload ++ more) 20 (20 + length payload) ≡ payload
payload-again source target payload more =
    let h = header source target (20 + length payload) in
    let behind : drop 20 (spelling source target payload ++ more) ≡ payload ++ more =
    ap (drop 20) (append_assoc h payload more) ∙ drop_at h (payload ++ more) 20 (length-header source target (20 + length payload)) in
    ap (take (20 + length payload - 20)) behind ∙ take_at payload more (20 + length payload - 20) (omega arith)
