-- Steps one after another.
use Rattle.std.proofs.Common.{◌≡◌, ℕ, ◌+◌, ◌<◌, Bor, length, drop, get_or, List, [], ◌∷◌, ◌++◌, map, refl, sym, ap, ◌∙◌, append_assoc, ◌⊎◌, inl, inr, Result, Ok, Err}
use Rattle.std.specs.List.{zip}
use Rattle.rule_text.specs.Document.{place_among}
use Rattle.std.proofs.lemmas.List.{append-nil, drop_more, map-append}
use Rattle.rule_text.specs.declared.fault.RuleFault.{RuleFault}
use Rattle.rule_text.specs.Steps.{◌>>=◌, answered, each}

-- one more answer is made, and one member fewer is left
pub each_more : {A B X : Type 0} (step : ℕ → A → Result B RuleFault) (view : X → B) (all : Result (List B) RuleFault)
    (done made : List X) (value : X) (n : ℕ) (x : A) (xs rest : List A)
    → all ≡ answered (λ more. map view done ++ more) (each step n xs) → xs ≡ x ∷ rest → step n x ≡ Ok (view value)
    → made ≡ done ++ value ∷ [] → all ≡ answered (λ more. map view made ++ more) (each step (n + 1) rest)
each_more {A} {B} {X} step view all done made value n x xs rest so_far first answer pushed =
    so_far
    ∙ ap (λ ys. answered (λ more. map view done ++ more) (each step n ys)) first
    ∙ ap (λ (r : Result B RuleFault). answered (λ more. map view done ++ more) (r >>= λ y. each step (n + 1) rest >>= λ ys. Ok (y ∷ ys))) answer
    ∙ moved (each step (n + 1) rest)
    ∙ ap (λ ys. answered (λ more. map view ys ++ more) (each step (n + 1) rest)) (sym pushed)
  where
    moved : (r : Result (List B) RuleFault) → answered (λ more. map view done ++ more) (r >>= λ ys. Ok (view value ∷ ys))
        ≡ answered (λ more. map view (done ++ value ∷ []) ++ more) r
    moved (Ok ys) = ap Ok (simp (map-append, append_assoc))
    moved (Err fault) = refl

-- the servers that a rule names, by their places, with their weights
abbrev pub choices_of : List (List ℕ) → List (List ℕ) → List ℕ → List (ℕ × ℕ)
choices_of names to weights = zip (map (place_among names) to) weights

-- one more pair is made, and one name and one weight fewer are left
pub choices_more : (names : List (List ℕ)) (to : List (Bor (List ℕ))) (weights : List ℕ) (d : Bor (List ℕ)) (n w place : ℕ)
    (all done made : List (ℕ × ℕ)) → all ≡ done ++ choices_of names (map (λ s. s.now) (drop n to)) (drop n weights)
    → n < length to → n < length weights → w ≡ get_or weights n 0 → place ≡ place_among names (get_or to n d).now
    → made ≡ done ++ (place, w) ∷ []
    → all ≡ made ++ choices_of names (map (λ s. s.now) (drop (n + 1) to)) (drop (n + 1) weights)
choices_more names to weights d n w place all done made so_far named weighed weight here pushed =
    let rest = map (λ (s : Bor (List ℕ)). s.now) (drop (n + 1) to) in
    let left = drop (n + 1) weights in
    so_far
    ∙ ap (λ ys. done ++ choices_of names (map (λ (s : Bor (List ℕ)). s.now) ys) (drop n weights)) (drop_more to n d named)
    ∙ ap (λ vs. done ++ choices_of names ((get_or to n d).now ∷ rest) vs) (drop_more weights n 0 weighed)
    ∙ ap (λ p. done ++ (p, get_or weights n 0) ∷ choices_of names rest left) (sym here)
    ∙ ap (λ v. done ++ (place, v) ∷ choices_of names rest left) (sym weight)
    ∙ sym (append_assoc done ((place, w) ∷ []) (choices_of names rest left))
    ∙ ap (λ ps. ps ++ choices_of names rest left) (sym pushed)

zip-nil : (xs ws : List ℕ) → (xs ≡ []) ⊎ (ws ≡ []) → zip xs ws ≡ []
zip-nil [] ws none = refl
zip-nil (x ∷ xs) [] none = refl
zip-nil (x ∷ xs) (w ∷ ws) none = elim none [ inl e ↦ absurd cc | inr e ↦ absurd cc ]

-- no pair is left
pub zip_end : (all done : List (ℕ × ℕ)) (xs ws : List ℕ) → all ≡ done ++ zip xs ws → (xs ≡ []) ⊎ (ws ≡ []) → done ≡ all
zip_end all done xs ws so_far none =
    sym (so_far ∙ ap (λ ps. done ++ ps) (zip-nil xs ws none) ∙ append-nil done)
