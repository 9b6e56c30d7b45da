-- Steps that may find a fault, one after another: the first fault is the answer.
use Rattle.std.specs.Prelude.{◌≡◌, ◌≢◌, ℕ, ◌+◌, List, [], ◌∷◌, Result, Ok, Err, MatchResult}
use Rattle.rule_text.specs.declared.fault.RuleFault.{RuleFault}
use Rattle.rule_text.specs.declared.fault.RuleFault.TheVariants.{Memory}

-- one step and the next
infixl 10 ◌>>=◌
abbrev pub ◌>>=◌ : {A B : Type 0} → Result A RuleFault → (A → Result B RuleFault) → Result B RuleFault
Ok x >>= next = next x
Err fault >>= next = Err fault

-- the answer, changed so
abbrev pub answered : {A B : Type 0} → (A → B) → Result A RuleFault → Result B RuleFault
answered f (Ok a) = Ok (f a)
answered f (Err fault) = Err fault

-- the step at each member, by its place, and what they all answer
abbrev pub each : {A B : Type 0} → (ℕ → A → Result B RuleFault) → ℕ → List A → Result (List B) RuleFault
each step n [] = Ok []
each step n (x ∷ xs) = do
  y ← step n x
  ys ← each step (n + 1) xs
  Ok (y ∷ ys)

-- the answer is the one that is expected, seen through the view, unless memory ran out
abbrev pub Gives : {A B : Type 0} → (A → B) → Result A RuleFault → Result B RuleFault → Type 0
Gives view r expected = MatchResult r (λ a. expected ≡ Ok (view a)) (λ fault. fault ≢ Memory → expected ≡ Err fault)

-- the fault is this one, unless memory ran out
abbrev pub IsFault : RuleFault → RuleFault → Type 0
IsFault fault expected = fault ≢ Memory → expected ≡ fault
