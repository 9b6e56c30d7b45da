-- Each step of an inbox keeps its rule, and tells its side what it does.
use Rattle.std.proofs.Common.{◌≡◌, ◌≢◌, ℕ, zero, suc, true, false, true≢false, List, [], ◌∷◌, ◌++◌, length, set, Option, sym, refl, ap, ◌∙◌, subst, ⊎_elim, append_assoc}
use mathlib.Core.List.{IsPrefix}
use mathlib.Core.Option.{some, some-ne-none}
use lib.ListN.{get_elem?}
use Rattle.crossbeam_queue.specs.Fifo.{Pushes, Pops, Forks, Merges, Learns}
use Rattle.crossbeam_queue.proofs.Lists.{at_set, at_snoc}
use Rattle.inbox.specs.declared.rule.Known.{Known}
use Rattle.inbox.specs.Rule.{known, IsKnown, Kept, HasGiven, HasTaken, GivenByThen, TakenByThen}
use Rattle.inbox.proofs.ItemLemmas.{IsPrefix-longer, IsPrefix-refl}

module _ {T : Type 0} where
  -- ---- of each side
  abbrev Each : (ℕ → Known T → Type 0) → List (Known T) → Type 0
  Each F sides = (number : ℕ) (k : Known T) → get_elem? sides number ≡ some k → F number k

  at_end : (l : List (Known T)) (a b : Known T) (j : ℕ) → get_elem? l j ≢ some b → get_elem? (l ++ a ∷ []) j ≡ some b → j ≡ length l
  at_end [] a b zero n e = refl
  at_end [] a b (suc j) n e = absurd (some-ne-none b (sym e))
  at_end (x ∷ xs) a b zero n e = absurd (n e)
  at_end (x ∷ xs) a b (suc j) n e = ap suc (at_end xs a b j n e)

  each_set : (F : ℕ → Known T → Type 0) (sides : List (Known T)) (number : ℕ) (k : Known T) → F number k → ((j : ℕ) (u : Known T) → j ≢ number → get_elem? sides j ≡ some u → F j u) → Each F (set sides number k)
  each_set F sides number k mine others j u e =
      ⊎_elim (λ (x : (j ≡ number) × (k ≡ u)). subst (λ (y : ℕ × Known T). F y.0 y.1) (λ i. (sym x.0 i, x.1 i)) mine)
      (λ (x : (j ≢ number) × (get_elem? sides j ≡ some u)). others j u x.0 x.1) (at_set sides number j k u e)

  -- ---- the steps
  pub begins : Kept {T = T} [] (known true true [] [] ∷ [])
  begins = record {
    giver = 0;
    taker = 0;
    given = [];
    taken = [];
    order = refl;
    known = each_set (IsKnown 0 0 [] []) (known true true [] [] ∷ []) 0 (known true true [] [])
        (record { gives = λ _. (refl, refl, IsPrefix-refl []); takes = λ _. (refl, refl, IsPrefix-refl []) })
        (λ j u other e. absurd (other (at_end [] _ u j (λ x. some-ne-none u (sym x)) e)));
  }

  pub gives : (n number : ℕ) (k : Known T) (x : Option T) → k.gives ≡ true → Pushes Kept n number k x (HasGiven k x)
  gives n number k x may items sides _ kept at =
      let mine = (kept.known number k at).gives may in
      let given : List (Option T) = kept.given ++ x ∷ [] in
      let new : Known T = known k.gives k.takes (k.given ++ x ∷ []) kept.taken in
      let given_is : new.given ≡ given = ap (λ (l : List (Option T)). l ++ x ∷ []) mine.1 in (
        new,
        record {
          giver = kept.giver;
          taker = kept.taker;
          given = given;
          taken = kept.taken;
          order = ap (λ (l : List (Option T)). l ++ x ∷ []) kept.order ∙ append_assoc kept.taken items (x ∷ []);
          known = each_set (IsKnown kept.giver kept.taker given kept.taken) sides number new
              (record {
                gives = λ _. (mine.0, given_is, IsPrefix-refl kept.taken);
                takes = λ takes. (((kept.known number k at).takes takes).0, refl, subst (λ (l : List (Option T)). IsPrefix l given) (sym given_is) (IsPrefix-refl given));
              })
              (λ j u other e. record {
                gives = λ may_too. absurd (other (((kept.known j u e).gives may_too).0 ∙ sym mine.0));
                takes = λ takes. let theirs = (kept.known j u e).takes takes in (theirs.0, theirs.1, IsPrefix-longer u.given kept.given (x ∷ []) theirs.2);
              });
        },
        record { gives = refl; given = refl; known = mine.2 },
      )

  pub takes : (number : ℕ) (k : Known T) → k.takes ≡ true → Pops Kept number k (HasTaken k)
  takes number k may x items sides kept at =
      let mine = (kept.known number k at).takes may in
      let taken : List (Option T) = kept.taken ++ x ∷ [] in
      let new : Known T = known k.gives k.takes kept.given (k.taken ++ x ∷ []) in
      let taken_is : new.taken ≡ taken = ap (λ (l : List (Option T)). l ++ x ∷ []) mine.1 in
      let order : kept.given ≡ taken ++ items = kept.order ∙ sym (append_assoc kept.taken (x ∷ []) items) in (
        new,
        record {
          giver = kept.giver;
          taker = kept.taker;
          given = kept.given;
          taken = taken;
          order = order;
          known = each_set (IsKnown kept.giver kept.taker kept.given taken) sides number new
              (record {
                gives = λ gives. (((kept.known number k at).gives gives).0, refl, subst (λ (l : List (Option T)). IsPrefix l taken) (sym taken_is) (IsPrefix-refl taken));
                takes = λ _. (mine.0, taken_is, IsPrefix-refl kept.given);
              })
              (λ j u other e. record {
                gives = λ gives. let theirs = (kept.known j u e).gives gives in (theirs.0, theirs.1, IsPrefix-longer u.taken kept.taken (x ∷ []) theirs.2);
                takes = λ may_too. absurd (other (((kept.known j u e).takes may_too).0 ∙ sym mine.0));
              });
        },
        record { takes = refl; taken = refl; known = mine.2; order = (items, ap (λ (l : List (Option T)). l ++ items) taken_is ∙ sym order) },
      )

  pub splits : (number : ℕ) (k : Known T) → k.gives ≡ true → k.takes ≡ true → Forks Kept number k (known true false k.given k.taken) (known false true k.given k.taken)
  splits number k a b items sides kept at =
      let left : Known T = known true false k.given k.taken in
      let right : Known T = known false true k.given k.taken in
      let mine = kept.known number k at in
      let less : List (Known T) = set sides number left in
      let Old : ℕ → Known T → Type 0 = λ j u. (u.gives ≡ true → (j ≡ kept.giver) × (u.given ≡ kept.given) × IsPrefix u.taken kept.taken) × (u.takes ≢ true) in
      let old : Each Old less = each_set Old sides number left ((λ _. mine.gives a), λ p. true≢false (sym p)) (λ j u other e. ((kept.known j u e).gives, λ p. other (((kept.known j u e).takes p).0 ∙ sym (mine.takes b).0))) in
      record {
        giver = kept.giver;
        taker = length less;
        given = kept.given;
        taken = kept.taken;
        order = kept.order;
        known = λ j u e. ⊎_elim (λ x. record { gives = (old j u x).0; takes = λ p. absurd ((old j u x).1 p) })
            (λ (is : right ≡ u). record {
              gives = λ p. absurd (true≢false (sym (ap (λ (y : Known T). y.gives) is ∙ p)));
              takes = λ p. (at_end less right u j (λ x. (old j u x).1 p) e, ap (λ (y : Known T). y.taken) (sym is) ∙ (mine.takes b).1, subst (λ (y : Known T). IsPrefix y.given kept.given) is (mine.takes b).2);
            }) (at_snoc less right u j e);
      }

  pub merges : (number : ℕ) (k : Known T) (other : ℕ) (l : Known T) → k.takes ≡ true → l.gives ≡ true → Merges Kept number k other l (known true true l.given k.taken) (known false false [] [])
  merges number k other l a b items sides kept at two at' =
      let both : Known T = known true true l.given k.taken in
      let mine = (kept.known number k at).takes a in
      let less : List (Known T) = set sides number both in
      let was : get_elem? sides other ≡ some l = ⊎_elim (λ x. absurd (two x.0)) (λ x. x.1) (at_set sides number other both l at') in
      let theirs = (kept.known other l was).gives b in
      let Now : ℕ → Known T → Type 0 = λ j u. j ≢ other → IsKnown number kept.taker kept.given kept.taken j u in
      let now : Each Now less = each_set Now sides number both
      (λ _. record {
        gives = λ _. (refl, theirs.1, subst (λ (t : List (Option T)). IsPrefix t kept.taken) (sym mine.1) (IsPrefix-refl kept.taken));
        takes = λ _. (mine.0, mine.1, subst (λ (t : List (Option T)). IsPrefix t kept.given) (sym theirs.1) (IsPrefix-refl kept.given));
      })
      (λ j u _ e apart. record { gives = λ p. absurd (apart (((kept.known j u e).gives p).0 ∙ sym theirs.0)); takes = (kept.known j u e).takes }) in
      record {
        giver = number;
        taker = kept.taker;
        given = kept.given;
        taken = kept.taken;
        order = kept.order;
        known = each_set (IsKnown number kept.taker kept.given kept.taken) less other (known false false [] [])
            (record { gives = λ p. absurd (true≢false (sym p)); takes = λ p. absurd (true≢false (sym p)) })
            (λ j u apart e. now j u e apart);
      }

  -- ---- what a side learns
  pub given_by_then : (number : ℕ) (k : Known T) → k.gives ≡ true → Learns Kept number k (GivenByThen k)
  given_by_then number k may items sides kept at =
      let mine = (kept.known number k at).gives may in
      record { taken = kept.taken; known = mine.2; order = mine.1 ∙ kept.order }

  pub taken_by_then : (number : ℕ) (k : Known T) → k.takes ≡ true → Learns Kept number k (TakenByThen k)
  taken_by_then number k may items sides kept at =
      let mine = (kept.known number k at).takes may in
      record { given = kept.given; known = mine.2; order = kept.order ∙ ap (λ (l : List (Option T)). l ++ items) (sym mine.1) }

  pub both_known : (number : ℕ) (k : Known T) → k.gives ≡ true → k.takes ≡ true → Learns Kept number k (λ items. k.given ≡ k.taken ++ items)
  both_known number k a b items sides kept at =
      let mine = kept.known number k at in
      (mine.gives a).1 ∙ kept.order ∙ ap (λ (l : List (Option T)). l ++ items) (sym (mine.takes b).1)
