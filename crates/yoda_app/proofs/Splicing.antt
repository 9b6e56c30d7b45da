-- A spliced text grows at its end.
use Rattle.std.proofs.Common.{◌≡◌, ◌≤◌, ℕ, ◌+◌, ◌-◌, List, [], ◌∷◌, ◌++◌, length, take, drop, refl, sym, ap, subst, ◌∙◌, append_assoc, arith}
use Rattle.std.specs.Prelude.{slice_range, slice_index_or}
use Rattle.std.proofs.lemmas.List.{append-nil, length-append, length-drop, drop_all, drop-append-le, take-append-le}
use Rattle.std.proofs.lemmas.Slice.{between_to_end}
use Rattle.yoda_app.specs.Spliced.{text_from, AreInOrder}
use Rattle.yoda_app.specs.declared.spliced.Splice.{Splice}

-- a part of bytes is the same part where more stands behind them
range_append : (from to : ℕ) (xs ys : List ℕ) → from ≤ to → to ≤ length xs → slice_range (xs ++ ys) from to ≡ slice_range xs from to
range_append from to xs ys ordered inside =
    ap (take (to - from)) (drop-append-le from xs ys (omega (arith, ordered, inside)))
    ∙ take-append-le (to - from) (drop from xs) ys (omega (arith, length-drop from xs, ordered, inside))

module _ (trace own : List ℕ) where
  -- more own bytes
  pub grown : (more : List ℕ) (from : ℕ) (splices : List Splice) → AreInOrder trace own from splices
      → text_from trace (own ++ more) from splices ≡ text_from trace own from splices ++ more
  grown more from [] order = drop-append-le from own more order
  grown more from (s ∷ splices) order =
      let own_part = slice_range own from s.behind in
      let slice = slice_range trace s.start s.end in
      let rest = text_from trace own s.behind splices in
      ap (λ (x : List ℕ). x ++ (slice ++ text_from trace (own ++ more) s.behind splices)) (range_append from s.behind own more order.0 order.1)
      ∙ ap (λ (x : List ℕ). own_part ++ (slice ++ x)) (grown more s.behind splices order.4)
      ∙ sym (append_assoc own_part (slice ++ rest) more ∙ ap (λ (x : List ℕ). own_part ++ x) (append_assoc slice rest more))

  pub still_in_order : (more : List ℕ) (from : ℕ) (splices : List Splice) → AreInOrder trace own from splices → AreInOrder trace (own ++ more) from splices
  still_in_order more from [] order = omega (arith, order, length-append own more)
  still_in_order more from (s ∷ splices) order =
      (order.0, omega (arith, order.1, length-append own more), order.2, order.3, still_in_order more s.behind splices order.4)

  -- one more slice
  pub spliced_on : (from start end : ℕ) (splices : List Splice) → AreInOrder trace own from splices → start ≤ end → end ≤ length trace
      → AreInOrder trace own from (splices ++ record { behind = length own; start = start; end = end } ∷ [])
  spliced_on from start end [] order ordered inside = (order, omega arith, ordered, inside, omega arith)
  spliced_on from start end (s ∷ splices) order ordered inside =
      (order.0, order.1, order.2, order.3, spliced_on s.behind start end splices order.4 ordered inside)

  pub text_on : (from start end : ℕ) (splices : List Splice) → AreInOrder trace own from splices
      → text_from trace own from (splices ++ record { behind = length own; start = start; end = end } ∷ []) ≡ text_from trace own from splices ++ slice_range trace start end
  text_on from start end [] order =
      let slice = slice_range trace start end in
      ap (λ (x : List ℕ). x ++ (slice ++ drop (length own) own)) (between_to_end own from (length own) (omega arith))
      ∙ ap (λ (x : List ℕ). drop from own ++ (slice ++ x)) (drop_all (length own) own (omega arith))
      ∙ ap (λ (x : List ℕ). drop from own ++ x) (append-nil slice)
  text_on from start end (s ∷ splices) order =
      let own_part = slice_range own from s.behind in
      let slice = slice_range trace s.start s.end in
      let rest = text_from trace own s.behind splices in
      let last = slice_range trace start end in
      ap (λ (x : List ℕ). own_part ++ (slice ++ x)) (text_on s.behind start end splices order.4)
      ∙ sym (append_assoc own_part (slice ++ rest) last ∙ ap (λ (x : List ℕ). own_part ++ x) (append_assoc slice rest last))

-- ---- as the code has it
-- more own bytes
module _ (trace old new more : List ℕ) (splices : List Splice) (own : new ≡ old ++ more) (order : AreInOrder trace old 0 splices) where
  pub own_added : text_from trace new 0 splices ≡ text_from trace old 0 splices ++ more
  own_added = ap (λ (o : List ℕ). text_from trace o 0 splices) own ∙ grown trace old more 0 splices order

  pub own_spliced : AreInOrder trace new 0 splices
  own_spliced = subst (λ (o : List ℕ). AreInOrder trace o 0 splices) (sym own) (still_in_order trace old more 0 splices order)

-- one more slice
module _ (trace own : List ℕ) (old new : List Splice) (behind start end : ℕ) (all : behind ≡ length own)
    (splices : new ≡ old ++ record { behind = behind; start = start; end = end } ∷ []) (order : AreInOrder trace own 0 old) where
  at_end : new ≡ old ++ record { behind = length own; start = start; end = end } ∷ []
  at_end = splices ∙ ap (λ (n : ℕ). old ++ record { behind = n; start = start; end = end } ∷ []) all

  pub slice_added : text_from trace own 0 new ≡ text_from trace own 0 old ++ slice_range trace start end
  slice_added = ap (λ (s : List Splice). text_from trace own 0 s) at_end ∙ text_on trace own 0 start end old order

  pub slice_spliced : start ≤ end → end ≤ length trace → AreInOrder trace own 0 new
  slice_spliced ordered inside = subst (λ (s : List Splice). AreInOrder trace own 0 s) (sym at_end) (spliced_on trace own 0 start end old order ordered inside)

-- what a text begins with where a splice is left
pub first_splice : (none : Splice) (trace own : List ℕ) (from : ℕ) (splices : List Splice) → 1 ≤ length splices
    → text_from trace own from splices ≡ slice_range own from (slice_index_or splices 0 none).behind
    ++ (slice_range trace (slice_index_or splices 0 none).start (slice_index_or splices 0 none).end ++ text_from trace own (slice_index_or splices 0 none).behind (drop 1 splices))
first_splice none trace own from [] some = absurd (omega (arith, some))
first_splice none trace own from (s ∷ splices) some = refl
