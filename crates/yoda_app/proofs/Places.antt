-- Where in the trace the packet of a frame stands.
use Rattle.std.proofs.Common.{◌≡◌, ◌≤◌, ℕ, ◌+◌, ◌-◌, Bool, true, false, ◌||◌, not, ◌==◌, List, [], length, take, drop, refl, sym, ap, ◌∙◌, arith}
use Rattle.std.specs.Prelude.{if◌then◌else◌, nat_lt, slice_range, unwrap_or, Option, None, Some}
use Rattle.std.proofs.lemmas.Bool.{ltb-false}
use Rattle.std.proofs.lemmas.List.{length-take, length-drop, drop-take, drop-drop}
use Rattle.common.specs.Fields.{field}
use Rattle.pcap_file.specs.Ethernet.{network_of}
use Rattle.pcap_file.specs.declared.capture.Link.{Link}
use Rattle.pcap_file.specs.declared.capture.Link.TheVariants.{Ethernet, Raw}

first_false : (a b : Bool) → (a || b) ≡ false → a ≡ false
first_false true b is = absurd cc
first_false false b is = refl

module _ (trace : List ℕ) (at end : ℕ) (ordered : at ≤ end) (inside : end ≤ length trace) where
  abbrev frame : List ℕ
  frame = slice_range trace at end

  length_frame : length frame ≡ end - at
  length_frame = length-take (end - at) (drop at trace) ∙ omega (arith, length-drop at trace, inside)

  -- the bytes of a frame behind a head of 14
  behind_head : 14 ≤ length frame → drop 14 frame ≡ slice_range trace (at + 14) end
  behind_head long =
      let n : end - at ≡ 14 + (end - (at + 14)) = omega (arith, long, length_frame) in
      ap (λ (m : ℕ). drop 14 (take m (drop at trace))) n
      ∙ drop-take 14 (end - (at + 14)) (drop at trace)
      ∙ ap (take (end - (at + 14))) (drop-drop 14 at trace)

  -- bytes that end where the frame ends
  same_end : (start : ℕ) (packet : List ℕ) → at ≤ start → start ≤ end → slice_range trace start end ≡ packet → slice_range trace (end - length packet) end ≡ packet
  same_end start packet after before is =
      let size : length packet ≡ end - start = sym (ap length is) ∙ length-take (end - start) (drop start trace) ∙ omega (arith, length-drop start trace, inside) in
      let begins : end - length packet ≡ start = omega (arith, size, before) in
      ap (λ (s : ℕ). slice_range trace s end) begins ∙ is

  ethernet_place : (b : Bool) (packet : List ℕ) → (nat_lt (length frame) 14 || not (field 12 2 frame == 0x0800)) ≡ b
      → (if b then None else Some (drop 14 frame)) ≡ Some packet → slice_range trace (end - length packet) end ≡ packet
  ethernet_place true packet which is = absurd cc
  ethernet_place false packet which is =
      let long : 14 ≤ length frame = ltb-false (length frame) 14 (first_false _ _ which) in
      let same : drop 14 frame ≡ packet = cc in
      same_end (at + 14) packet (omega arith) (omega (arith, long, length_frame)) (sym (behind_head long) ∙ same)

  packet_place : (link : Link) (packet : List ℕ) → network_of link frame ≡ Some packet → slice_range trace (end - length packet) end ≡ packet
  packet_place Raw packet is =
      let same : frame ≡ packet = cc in
      same_end at packet (omega arith) ordered same
  packet_place Ethernet packet is = ethernet_place _ packet refl is

  -- a packet stands at the end of its frame
  pub some_place : (link : Link) (packet : List ℕ) → Some packet ≡ network_of link frame → slice_range trace (end - length packet) end ≡ unwrap_or (network_of link frame) []
  some_place link packet is = packet_place link packet (sym is) ∙ ap (λ (o : Option (List ℕ)). unwrap_or o []) is

  -- where there is none, there are no bytes
  pub no_place : (link : Link) → None ≡ network_of link frame → slice_range trace end end ≡ unwrap_or (network_of link frame) []
  no_place link is =
      let none : end - end ≡ 0 = omega arith in
      ap (λ (n : ℕ). take n (drop end trace)) none ∙ ap (λ (o : Option (List ℕ)). unwrap_or o []) is
