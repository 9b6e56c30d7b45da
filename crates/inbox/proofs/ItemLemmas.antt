-- Lists of items and the end: their beginnings, and the items in them.
use Rattle.std.proofs.Common.{◌≡◌, ℕ, suc, true, false, true≢false, List, [], ◌∷◌, ◌++◌, length, Option, Some, None, sym, refl, ap, ◌∙◌, subst, append_assoc, arith}
use Rattle.std.proofs.lemmas.List.{append-nil}
use mathlib.Core.List.{IsPrefix}
use Rattle.inbox.specs.Inboxes.{Waiting}
use Rattle.inbox.specs.Rule.{items_of, has_end}

module _ {T : Type 0} where
  pub IsPrefix-longer : (xs ys more : List T) → IsPrefix xs ys → IsPrefix xs (ys ++ more)
  IsPrefix-longer xs ys more (rest, e) = (rest ++ more, sym (append_assoc xs rest more) ∙ ap (λ (l : List T). l ++ more) e)

  pub IsPrefix-refl : (xs : List T) → IsPrefix xs xs
  IsPrefix-refl xs = ([], append-nil xs)

  pub items-snoc : (l : List (Option T)) (x : T) → has_end l ≡ false → items_of (l ++ Some x ∷ []) ≡ items_of l ++ x ∷ []
  items-snoc [] x endless = refl
  items-snoc (Some y ∷ l) x endless = ap (λ (ys : List T). y ∷ ys) (items-snoc l x endless)
  items-snoc (None ∷ l) x endless = absurd (true≢false endless)

  pub endless-snoc : (l : List (Option T)) (x : T) → has_end l ≡ false → has_end (l ++ Some x ∷ []) ≡ false
  endless-snoc [] x endless = refl
  endless-snoc (Some y ∷ l) x endless = endless-snoc l x endless
  endless-snoc (None ∷ l) x endless = absurd (true≢false endless)

  pub items-end : (l : List (Option T)) → items_of (l ++ None ∷ []) ≡ items_of l
  items-end [] = refl
  items-end (Some y ∷ l) = ap (λ (ys : List T). y ∷ ys) (items-end l)
  items-end (None ∷ l) = refl

  pub ended-snoc : (l : List (Option T)) → has_end (l ++ None ∷ []) ≡ true
  ended-snoc [] = refl
  ended-snoc (Some y ∷ l) = ended-snoc l
  ended-snoc (None ∷ l) = refl

  items-append : (l more : List (Option T)) → IsPrefix (items_of l) (items_of (l ++ more))
  items-append [] more = (items_of more, refl)
  items-append (Some y ∷ l) more = let p = items-append l more in (p.0, ap (λ (ys : List T). y ∷ ys) p.1)
  items-append (None ∷ l) more = ([], refl)

  -- the items of a beginning are the first ones
  pub items-prefix : (l whole : List (Option T)) → IsPrefix l whole → IsPrefix (items_of l) (items_of whole)
  items-prefix l whole (more, e) = subst (λ (w : List (Option T)). IsPrefix (items_of l) (items_of w)) e (items-append l more)

  -- what stands behind the end adds no items
  pub items-whole : (l more : List (Option T)) → has_end l ≡ true → items_of l ≡ items_of (l ++ more)
  items-whole [] more ended = absurd (true≢false (sym ended))
  items-whole (Some y ∷ l) more ended = ap (λ (ys : List T). y ∷ ys) (items-whole l more ended)
  items-whole (None ∷ l) more ended = refl

  -- the end stays where more is added
  pub end-stays : (l more : List (Option T)) → has_end l ≡ true → has_end (l ++ more) ≡ true
  end-stays [] more ended = absurd (true≢false (sym ended))
  end-stays (Some y ∷ l) more ended = end-stays l more ended
  end-stays (None ∷ l) more ended = refl

  all-items : (l : List (Option T)) → has_end l ≡ false → length (items_of l) ≡ length l
  all-items [] endless = refl
  all-items (Some y ∷ l) endless = ap suc (all-items l endless)
  all-items (None ∷ l) endless = absurd (true≢false endless)

  -- what the queue holds before the end is given are the items that wait
  waiting-all : (taken l : List (Option T)) → has_end (taken ++ l) ≡ false → Waiting (items_of (taken ++ l)) (items_of taken) (length l)
  waiting-all [] l endless = record { items = items_of l; size = all-items l endless; whole = refl }
  waiting-all (Some y ∷ taken) l endless =
      let w = waiting-all taken l endless in
      record { items = w.items; size = w.size; whole = ap (λ (ys : List T). y ∷ ys) w.whole }
  waiting-all (None ∷ taken) l endless = absurd (true≢false endless)

  pub waiting-items : (n : ℕ) (given taken l : List (Option T)) → has_end given ≡ false → given ≡ taken ++ l → length l ≡ n → Waiting (items_of given) (items_of taken) n
  waiting-items n given taken l endless order size =
      let w = waiting-all taken l (ap has_end (sym order) ∙ endless) in
      record { items = w.items; size = w.size ∙ size; whole = ap items_of order ∙ w.whole }

  -- what an empty queue holds are no items
  pub waiting-none : (given taken l : List (Option T)) → given ≡ taken ++ l → length l ≡ 0 → Waiting (items_of given) (items_of taken) 0
  waiting-none given taken [] order size =
      record { items = []; size = refl; whole = ap items_of (order ∙ append-nil taken) ∙ sym (append-nil (items_of taken)) }
  waiting-none given taken (x ∷ l) order size = absurd (omega arith)

  item_or : T → Option T → T
  item_or x None = x
  item_or x (Some y) = y

  pub some-same : (x y : T) → Some x ≡ Some y → x ≡ y
  unfolding item_or
  some-same x y e = ap (item_or x) e
