-- What is told of records, one record more.
use Rattle.std.proofs.Common.{◌≡◌, ℕ, suc, ◌+◌, List, [], ◌∷◌, ◌++◌, length, Option, Some, None, ◌∙◌, ap, arith}
use Rattle.run_threads.specs.Work.{numbered}
use Rattle.run_threads.specs.Outcomes.{OutcomeView}

pub numbered_more : (n : ℕ) (outcomes : List (Option OutcomeView)) (o : Option OutcomeView) → numbered n (outcomes ++ o ∷ []) ≡ numbered n outcomes ++ numbered (n + length outcomes) (o ∷ [])
numbered_more n [] o = ap (λ m. numbered m (o ∷ [])) (let e : n ≡ n + 0 = omega arith in e)
numbered_more n (None ∷ outcomes) o = numbered_more (n + 1) outcomes o ∙ ap (λ m. numbered (n + 1) outcomes ++ numbered m (o ∷ [])) (let e : n + 1 + length outcomes ≡ n + suc (length outcomes) = omega arith in e)
numbered_more n (Some p ∷ outcomes) o = ap (λ l. (n, p) ∷ l) (numbered_more (n + 1) outcomes o ∙ ap (λ m. numbered (n + 1) outcomes ++ numbered m (o ∷ [])) (let e : n + 1 + length outcomes ≡ n + suc (length outcomes) = omega arith in e))
