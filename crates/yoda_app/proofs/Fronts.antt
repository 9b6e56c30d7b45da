-- The record of a packet whose data stands in the trace.
use Rattle.std.proofs.Common.{◌≡◌, ◌≤◌, ℕ, ◌+◌, ◌-◌, List, ◌++◌, length, take, drop, sym, ap, ◌∙◌, append_assoc, arith}
use Rattle.std.specs.Prelude.{slice_range}
use Rattle.std.proofs.lemmas.List.{length-take, length-drop, drop-take, drop-drop, take-take}
use Rattle.yoda_app.specs.Spliced.{text_from, AreInOrder}
use Rattle.yoda_app.specs.declared.spliced.Splice.{Splice}
use Rattle.yoda_app.proofs.Splicing.{own_added, own_spliced}

-- a slice of a slice
pub range_of_range : (trace : List ℕ) (a b i j : ℕ) → a ≤ b → b ≤ length trace → i ≤ j → j ≤ length (slice_range trace a b)
    → slice_range (slice_range trace a b) i j ≡ slice_range trace (a + i) (a + j)
range_of_range trace a b i j ordered inside within far =
    let size : length (slice_range trace a b) ≡ b - a = length-take (b - a) (drop a trace) ∙ omega (arith, length-drop a trace, inside) in
    let whole : b - a ≡ i + (b - a - i) = omega (arith, size, far, within) in
    let count : j - i ≡ a + j - (a + i) = omega (arith, within) in
    ap (λ (n : ℕ). take (j - i) (drop i (take n (drop a trace)))) whole
    ∙ ap (take (j - i)) (drop-take i (b - a - i) (drop a trace))
    ∙ take-take (j - i) (b - a - i) (drop i (drop a trace)) (omega (arith, size, far, within))
    ∙ ap (take (j - i)) (drop-drop i a trace)
    ∙ ap (λ (n : ℕ). take n (drop (a + i) trace)) count

module _ (trace own between new head front : List ℕ) (splices : List Splice) (first : between ≡ own ++ head) (second : new ≡ between ++ front)
    (order : AreInOrder trace own 0 splices) where
  both : new ≡ own ++ (head ++ front)
  both = second ∙ ap (λ (x : List ℕ). x ++ front) first ∙ append_assoc own head front

  -- behind the front the splices are in order
  pub front_spliced : AreInOrder trace new 0 splices
  front_spliced = own_spliced trace own new (head ++ front) splices both order

  -- .. and with the rest of the packet the record is there
  pub packet_added : (last rest packet : List ℕ) → last ≡ text_from trace new 0 splices ++ rest → front ++ rest ≡ packet
      → last ≡ text_from trace own 0 splices ++ (head ++ packet)
  packet_added last rest packet added whole =
      let text = text_from trace own 0 splices in
      added
      ∙ ap (λ (x : List ℕ). x ++ rest) (own_added trace own new (head ++ front) splices both order)
      ∙ append_assoc text (head ++ front) rest
      ∙ ap (λ (x : List ℕ). text ++ x) (append_assoc head front rest ∙ ap (λ (x : List ℕ). head ++ x) whole)
