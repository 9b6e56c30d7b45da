-- The outputs of the command `run`.
use Rattle.std.proofs.Common.{◌≡◌, ◌≢◌, ℕ, Bool, true, ◌&&◌, List, [], ◌∷◌, sym, arith, length}
use Rattle.std.specs.Prelude.{codes, ◌==◌, Contains}
use Rattle.std.specs.Str.{bytes_eq}
use Rattle.std.proofs.lemmas.Grind.{common_steps}
use Rattle.shelf.specs.Shelf.{Contents}
use Rattle.yoda_app.specs.Commands.{error_name}
use Rattle.yoda_app.specs.RunWords.{name_files, are_run}
use Rattle.yoda_app.specs.Words.{word, is_file_name, is_report_name, all_differ}
use Rattle.yoda_app.proofs.Named.{bytes_eq-same, not_error, not_error_report}

last_four : (a b c d e f : Bool) → (a && (b && (c && (d && (e && f))))) ≡ true → (c ≡ true) × (d ≡ true) × (e ≡ true) × (f ≡ true)
last_four a b c d e f all =
    let x : c ≡ true = grind arith in
    let y : d ≡ true = grind arith in
    let z : e ≡ true = grind arith in
    let w : f ≡ true = grind arith in
    (x, y, z, w)

fourth : (a b c d : Bool) → (a && (b && (c && d))) ≡ true → d ≡ true
fourth a b c d all = grind arith

-- the outputs are three names, and none is standard error
pub record AreThreeOutputs (first second third : List ℕ) : Type 0 where
  pub differ : first ≢ second
  pub journal : (first ≢ third) × (second ≢ third)
  pub out : first ≢ codes "!"
  pub report : second ≢ codes "!"
  pub last : third ≢ codes "!"

fifth_differs : (r t s o p j : List ℕ) → all_differ (r ∷ t ∷ s ∷ o ∷ p ∷ j ∷ []) ≡ true → o ≢ p
fifth_differs r t s o p j h same =
    let self = bytes_eq-same p in
    grind (arith, common_steps)

sixth_differs : (r t s o p j : List ℕ) → all_differ (r ∷ t ∷ s ∷ o ∷ p ∷ j ∷ []) ≡ true → o ≢ j
sixth_differs r t s o p j h same =
    let self = bytes_eq-same j in
    grind (arith, common_steps)

last_differs : (r t s o p j : List ℕ) → all_differ (r ∷ t ∷ s ∷ o ∷ p ∷ j ∷ []) ≡ true → p ≢ j
last_differs r t s o p j h same =
    let self = bytes_eq-same j in
    grind (arith, common_steps)

pub run_outputs : (ws : List (List ℕ)) → are_run ws ≡ true → AreThreeOutputs (word 4 ws) (word 5 ws) (word 6 ws)
run_outputs (c ∷ r ∷ t ∷ s ∷ o ∷ p ∷ j ∷ []) h =
    let facts = last_four (length (c ∷ r ∷ t ∷ s ∷ o ∷ p ∷ j ∷ []) == 7) (bytes_eq c (codes "run")) (name_files (c ∷ r ∷ t ∷ s ∷ o ∷ p ∷ j ∷ [])) (is_report_name p) (is_file_name j) (all_differ (r ∷ t ∷ s ∷ o ∷ p ∷ j ∷ [])) h in
    record {
      differ = fifth_differs r t s o p j facts.3;
      journal = (sixth_differs r t s o p j facts.3, last_differs r t s o p j facts.3);
      out = not_error o (fourth (is_file_name r) (is_file_name t) (is_file_name s) (is_file_name o) facts.0);
      report = not_error_report p facts.1;
      last = not_error j facts.2;
    }
run_outputs ws h = absurd (grind (arith, common_steps))

-- where only these names were changed
pub outside_three : (a b c : List ℕ) (old new : Contents) → ((n : List ℕ) → n ≢ a → n ≢ b → n ≢ c → new n ≡ old n) → (n : List ℕ) → n ≢ error_name → (Contains (a ∷ b ∷ c ∷ []) n → ⊥) → new n ≡ old n
outside_three a b c old new others n other out =
    others n (λ same. out (0, omega arith, sym same)) (λ same. out (1, omega arith, sym same)) (λ same. out (2, omega arith, sym same))
