-- What another segment's line was told, life by life.
use Rattle.std.proofs.Common.{◌≡◌, ℕ, ◌+◌, ◌≤◌, Bool, true, false, cond, List, [], ◌∷◌, Option, Some, None, refl, ap, subst, inl, inr, arith}
use Rattle.std.specs.Prelude.{nat_le}
use Rattle.std.proofs.lemmas.Bool.{leb-true, leb-false, cases_eq}
use Rattle.flow_id.specs.declared.key.Flow.{Flow}
use Rattle.flow_id.specs.declared.key.Key.TheVariants as key
use Rattle.flow_record.specs.declared.record.Record.{Record}
use Rattle.flow_record.specs.declared.record.Ask.TheVariants.{Get}
use Rattle.life_chain.specs.declared.answer.Answer.{Answer}
use Rattle.life_chain.specs.declared.answer.Answer.TheVariants.{Decided, Absent, Down}
use Rattle.life_chain.specs.Lives.{Stand, asks, settled, other, unknown, spent, flow_at, continuing}
use Rattle.life_chain.specs.Laws.{Told, ToldSome, IsLast, eighth, before_none, Passed, FindsAt, FoundAt, ToldBarred, no_first, barred, Continues}
use Rattle.life_chain.proofs.OpenLemmas.{lift, lift_some, lift_barred, down_barred}

-- a life is settled behind another: it is that one, where the next has no Syn, or a later one
data Behind (at : List Answer → Stand) (answers : List Answer) (flow : Flow) (before first : ℕ) (syn : Record) (life : ℕ) (s : Record) : Type 0 where
  ends_here : life ≡ before → s ≡ syn → Told at answers (Get (key.Syn (flow_at flow first))) Absent → Behind at answers flow before first syn life s
  goes_on : FoundAt at answers flow first life s → Behind at answers flow before first syn life s

-- what is known where a life before is decided
abbrev Goes : (List Answer → Stand) → List Answer → Flow → ℕ → ℕ → Record → Stand → Type 0
Goes at answers flow before first syn (asks ask) = FindsAt at answers flow first ask
Goes at answers flow before first syn (settled life s rest) = Behind at answers flow before first syn life s
Goes at answers flow before first syn unknown = ToldBarred at answers
Goes at answers flow before first syn (other n) = ⊥
Goes at answers flow before first syn spent = ⊥

-- what is known where the first life is decided
abbrev Later : (List Answer → Stand) → List Answer → Flow → ℕ → Stand → Type 0
Later at answers flow first (asks ask) = FindsAt at answers flow first ask
Later at answers flow first (settled life s rest) = FoundAt at answers flow first life s
Later at answers flow first unknown = ToldBarred at answers
Later at answers flow first (other n) = ⊥
Later at answers flow first spent = ⊥

goes_later : (at : List Answer → Stand) (answers : List Answer) (flow : Flow) (before first : ℕ) (syn : Record) (s : Stand)
    → Later at answers flow first s → Goes at answers flow before first syn s
goes_later at answers flow before first syn (asks ask) l = l
goes_later at answers flow before first syn (settled life s rest) l = goes_on l
goes_later at answers flow before first syn unknown l = l
goes_later at answers flow before first syn (other n) l = l
goes_later at answers flow before first syn spent l = l

continues_later : (at : List Answer → Stand) (answers : List Answer) (flow : Flow) (first : ℕ) (s : Stand)
    → Later at answers flow first s → Continues at answers flow first s
continues_later at answers flow first (asks ask) l = l
continues_later at answers flow first (settled life s rest) l = l
continues_later at answers flow first unknown l = barred l
continues_later at answers flow first (other n) l = l
continues_later at answers flow first spent l = l

module _ (flow : Flow) where
  here : (at : List Answer → Stand) (answers : List Answer) (first : ℕ) → first ≤ 7 → Passed at answers flow first first
  here at answers first few = record {
    above = omega arith;
    below = few;
    decided = λ l low high. absurd (omega arith);
  }

  told_here : (before : Option (ℕ × Record)) (first : ℕ) (got : Answer) (xs : List Answer)
      → Told (continuing flow before first) (got ∷ xs) (Get (key.Syn (flow_at flow first))) got
  told_here before first got xs = record { before = []; after = xs; parts = refl; asked = refl }

module _ (flow : Flow) (at later : List Answer → Stand) (syn : Record) (same : (xs : List Answer) → at (Decided syn ∷ xs) ≡ later xs) where
  lift_passed : (xs : List Answer) (first life : ℕ) → Told at (Decided syn ∷ xs) (Get (key.Syn (flow_at flow first))) (Decided syn)
      → Passed later xs flow (first + 1) life → Passed at (Decided syn ∷ xs) flow first life
  lift_passed xs first life t p = record {
    above = let more = p.above in omega arith;
    below = p.below;
    decided = λ l low high.
        elim (cases_eq first l) [
          | inl e ↦ subst (λ k. ToldSome at (Decided syn ∷ xs) (Get (key.Syn (flow_at flow k)))) e (record { decided = syn; told = t })
          | inr ne ↦ lift_some at later (Decided syn ∷ []) xs _ same (p.decided l (omega (arith, ne)) high)
        ];
  }

  lift_last : (xs : List Answer) (life : ℕ) → IsLast later xs flow life → IsLast at (Decided syn ∷ xs) flow life
  lift_last xs life (eighth e) = eighth e
  lift_last xs life (before_none t) = before_none (lift at later (Decided syn ∷ []) xs _ Absent same t)

  lift_found : (xs : List Answer) (first life : ℕ) (s : Record) → first ≤ 7 → Told at (Decided syn ∷ xs) (Get (key.Syn (flow_at flow first))) (Decided syn)
      → Behind later xs flow first (first + 1) syn life s → FoundAt at (Decided syn ∷ xs) flow first life s
  lift_found xs first life s few t (ends_here e f u) =
      rw (e, f) (record {
        passed = here flow at (Decided syn ∷ xs) first few;
        told = t;
        is_last = before_none (lift at later (Decided syn ∷ []) xs _ Absent same u);
      })
  lift_found xs first life s few t (goes_on o) = record {
    passed = lift_passed xs first life t o.passed;
    told = lift at later (Decided syn ∷ []) xs _ (Decided s) same o.told;
    is_last = lift_last xs life o.is_last;
  }

  lift_later : (xs : List Answer) (first : ℕ) (s : Stand) → first ≤ 7 → Told at (Decided syn ∷ xs) (Get (key.Syn (flow_at flow first))) (Decided syn)
      → Goes later xs flow first (first + 1) syn s → Later at (Decided syn ∷ xs) flow first s
  lift_later xs first (asks ask) few t o = record {
    life = o.life;
    passed = lift_passed xs first o.life t o.passed;
    is_ask = o.is_ask;
  }
  lift_later xs first (settled life s rest) few t o = lift_found xs first life s few t o
  lift_later xs first unknown few t o = lift_barred at later (Decided syn ∷ []) xs same o
  lift_later xs first (other n) few t o = o
  lift_later xs first spent few t o = o

module _ (flow : Flow) where
  -- behind a first life that is decided
  decided_first : (before : Option (ℕ × Record)) (first : ℕ) (syn : Record) (xs : List Answer) → first ≤ 7
      → (first + 1 ≤ 7 → Goes (continuing flow (Some (first, syn)) (first + 1)) xs flow first (first + 1) syn (continuing flow (Some (first, syn)) (first + 1) xs))
      → Later (continuing flow before first) (Decided syn ∷ xs) flow first (continuing flow before first (Decided syn ∷ xs))
  decided_first before first syn xs few rest = go (nat_le 7 first) refl
    where
      go : (b : Bool) → nat_le 7 first ≡ b
          → Later (continuing flow before first) (Decided syn ∷ xs) flow first (cond b (settled first syn xs) (continuing flow (Some (first, syn)) (first + 1) xs))
      go true e = record {
        passed = here flow (continuing flow before first) (Decided syn ∷ xs) first few;
        told = told_here flow before first (Decided syn) xs;
        is_last = eighth (let last = leb-true 7 first e in omega arith);
      }
      go false e =
          lift_later flow (continuing flow before first) (continuing flow (Some (first, syn)) (first + 1)) syn
          (λ more. ap (λ b. cond b (settled first syn more) (continuing flow (Some (first, syn)) (first + 1) more)) e)
          xs first (continuing flow (Some (first, syn)) (first + 1) xs) few (told_here flow before first (Decided syn) xs)
          (rest (let more = leb-false 7 first e in omega arith))

  goes_from : (before first : ℕ) (syn : Record) (answers : List Answer) → first ≤ 7
      → Goes (continuing flow (Some (before, syn)) first) answers flow before first syn (continuing flow (Some (before, syn)) first answers)
  goes_from before first syn [] few = record { life = first; passed = here flow _ [] first few; is_ask = refl }
  goes_from before first syn (Decided next ∷ xs) few =
      goes_later _ _ flow before first syn _ (decided_first (Some (before, syn)) first next xs few (goes_from first (first + 1) next xs))
  goes_from before first syn (Absent ∷ xs) few = ends_here refl refl (told_here flow (Some (before, syn)) first Absent xs)
  goes_from before first syn (Down ∷ xs) few =
      down_barred _ _ _ (told_here flow (Some (before, syn)) first Down xs)

  pub continues_from : (first : ℕ) (answers : List Answer) → first ≤ 7
      → Continues (continuing flow None first) answers flow first (continuing flow None first answers)
  continues_from first [] few = record { life = first; passed = here flow _ [] first few; is_ask = refl }
  continues_from first (Decided syn ∷ xs) few =
      continues_later _ _ flow first _ (decided_first None first syn xs few (goes_from first (first + 1) syn xs))
  continues_from first (Absent ∷ xs) few = no_first (told_here flow None first Absent xs)
  continues_from first (Down ∷ xs) few =
      barred (down_barred _ _ _ (told_here flow None first Down xs))
