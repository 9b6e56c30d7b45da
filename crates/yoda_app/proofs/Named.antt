-- Lists of words.
use Rattle.std.proofs.Common.{◌≡◌, ◌≢◌, ℕ, Bool, true, ◌||◌, ◌&&◌, List, [], ◌∷◌, refl, sym, ◌∙◌, ap, arith, length}
use Rattle.std.specs.Prelude.{String, codes, ◌==◌}
use Rattle.std.specs.List.{list_any}
use Rattle.std.specs.Str.{bytes_eq}
use Rattle.std.specs.String.{string_bytes}
use Rattle.std.specs.declared.alloc.Global.{Global}
use Rattle.std.proofs.lemmas.Grind.{common_steps}
use Rattle.std.proofs.lemmas.Slice.Eq.{bytes_eq-Decides}
use Rattle.yoda_app.specs.Words.{texts, word, is_file_name, is_report_name, all_differ, are_plain}

pub list_any-texts : (p : List ℕ → Bool) (words : List (String Global)) → list_any (λ w. p (string_bytes w)) words ≡ list_any p (texts words)
list_any-texts p [] = refl
list_any-texts p (w ∷ ws) = ap (λ b. p (string_bytes w) || b) (list_any-texts p ws)

-- a name is its own
pub bytes_eq-same : (n : List ℕ) → bytes_eq n n ≡ true
bytes_eq-same n = (bytes_eq-Decides n n).1 refl

last_three : (a b c d e f g h : Bool) → (a && (b && (c && (d && (e && (f && (g && h))))))) ≡ true → (f ≡ true) × (g ≡ true) × (h ≡ true)
last_three a b c d e f g h all = let x : f ≡ true = grind arith in let y : g ≡ true = grind arith in let z : h ≡ true = grind arith in (x, y, z)

-- the outputs are two names, and neither is standard error
pub record AreOutputs (first second : List ℕ) : Type 0 where
  pub differ : first ≢ second
  pub out : first ≢ codes "!"
  pub report : second ≢ codes "!"

pub not_error : (n : List ℕ) → is_file_name n ≡ true → n ≢ codes "!"
not_error n h same = let f : is_file_name (codes "!") ≡ true = ap is_file_name (sym same) ∙ h in cc

pub not_error_report : (n : List ℕ) → is_report_name n ≡ true → n ≢ codes "!"
not_error_report n h same = let f : is_report_name (codes "!") ≡ true = ap is_report_name (sym same) ∙ h in cc

last_differ : (r t s o p : List ℕ) → all_differ (r ∷ t ∷ s ∷ o ∷ p ∷ []) ≡ true → o ≢ p
last_differ r t s o p h same =
    let self = bytes_eq-same p in
    grind (arith, common_steps)

pub plain_outputs : (ws : List (List ℕ)) → are_plain ws ≡ true → AreOutputs (word 4 ws) (word 5 ws)
plain_outputs (c ∷ r ∷ t ∷ s ∷ o ∷ p ∷ []) h =
    let facts = last_three (length (c ∷ r ∷ t ∷ s ∷ o ∷ p ∷ []) == 6) (bytes_eq c (codes "plain")) (is_file_name r) (is_file_name t) (is_file_name s) (is_file_name o) (is_report_name p) (all_differ (r ∷ t ∷ s ∷ o ∷ p ∷ [])) h in
    record { differ = last_differ r t s o p facts.2; out = not_error o facts.0; report = not_error_report p facts.1 }
plain_outputs ws h = absurd (grind (arith, common_steps))
