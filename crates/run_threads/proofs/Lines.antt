-- The lines of a script that do something at a record.
use Rattle.std.proofs.Common.{◌≡◌, ℕ, zero, suc, ◌+◌, ◌<◌, ◌≤◌, List, [], ◌∷◌, ◌++◌, length, take, get_or, false, refl, sym, ◌∙◌, ap, arith, inl, inr, ◌⊎◌, ⊎_elim}
use Rattle.std.specs.Prelude.{cond, slice_get}
use Rattle.std.specs.List.{filter}
use Rattle.std.specs.Option.{option_map_or}
use Rattle.std.proofs.lemmas.List.{take_more}
use Rattle.std.proofs.lemmas.List.Elements.{filter-append}
use Rattle.script_text.specs.declared.line.Line.{Line}
use Rattle.run_threads.specs.Due.{due_at, is_due}
use Rattle.run_threads.specs.declared.due.Due.{Due}

-- one line more that does nothing there
pub none_more : (item : ℕ) (lines : List Line) (n : ℕ) (l : Line) → n < length lines → filter (is_due item) (take n lines) ≡ [] → is_due item (get_or lines n l) ≡ false → filter (is_due item) (take (n + 1) lines) ≡ []
none_more item lines n l within before idle =
    let one = get_or lines n l in
    let none : filter (is_due item) (one ∷ []) ≡ [] = ap (λ t. cond t (one ∷ []) []) idle in
    ap (filter (is_due item)) (take_more lines n l within)
    ∙ (filter-append (is_due item) (take n lines) (one ∷ []) ∙ (ap (λ xs. xs ++ filter (is_due item) (one ∷ [])) before ∙ none))

get_beyond : {X Y : Type 0} (f : X → Y) (d : Y) (xs : List X) (n : ℕ) → length xs ≤ n → option_map_or f (slice_get xs n) d ≡ d
get_beyond f d [] n beyond = refl
get_beyond f d (x ∷ xs) zero beyond = absurd (omega (arith, beyond))
get_beyond f d (x ∷ xs) (suc n) beyond = get_beyond f d xs n (omega (arith, beyond))

due_beyond : (due : Due) (item : ℕ) → length due.lines.items ≤ item → due_at due item ≡ []
due_beyond due item beyond = get_beyond (λ lines. lines.items) [] due.lines.items item beyond

below_or_not : (n m : ℕ) → (n < m) ⊎ (m ≤ n)
below_or_not n zero = inr (omega arith)
below_or_not zero (suc m) = inl (omega arith)
below_or_not (suc n) (suc m) = ⊎_elim (λ less. inl (omega (arith, less))) (λ more. inr (omega (arith, more))) (below_or_not n m)

-- all that is due at a record, where the lists have room for the last one
pub all_due : (due : Due) (lines : List Line) (room item : ℕ) → length due.lines.items ≡ room → (item < room → due_at due item ≡ filter (is_due item) lines) → (room ≤ item → filter (is_due item) lines ≡ []) → due_at due item ≡ filter (is_due item) lines
all_due due lines room item long here none = ⊎_elim here (λ beyond. due_beyond due item (omega (arith, long, beyond)) ∙ sym (none beyond)) (below_or_not item room)
