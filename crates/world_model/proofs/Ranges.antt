-- What is made of the numbers from one on, made of one number more.
use Rattle.std.proofs.Common.{◌≡◌, ℕ, zero, suc, ◌+◌, ◌<◌, Bool, true, false, cond, List, [], ◌∷◌, ◌++◌, map, refl, sym, ◌∙◌, ap, append_assoc, arith}
use Rattle.std.specs.Prelude.{◌&&◌, count_by}
use Rattle.std.specs.List.{fold, list_all, range_with_len, sum_by}
use Rattle.std.proofs.lemmas.List.Folds.{list_all-append}
use Rattle.std.proofs.lemmas.List.FromFn.{map-range_with_len_more}
use Rattle.std.proofs.lemmas.List.Sums.{fold-append, sum_by_push}
use Rattle.drive_plan.specs.Generator.{next_state}
use Rattle.world_model.specs.DrivenSetup.{after_draws}

range_suc : (from n : ℕ) → range_with_len from (suc n) ≡ range_with_len from n ++ (from + n) ∷ []
range_suc from zero = ap (λ (k : ℕ). k ∷ []) (let e : from ≡ from + 0 = omega arith in e)
range_suc from (suc n) = ap (λ (ks : List ℕ). from ∷ ks) (range_suc (from + 1) n ∙ ap (λ (k : ℕ). range_with_len (from + 1) n ++ k ∷ []) (let e : from + 1 + n ≡ from + suc n = omega arith in e))

range_from : (from n : ℕ) → range_with_len from (n + 1) ≡ range_with_len from n ++ (from + n) ∷ []
range_from from n = ap (range_with_len from) (let e : n + 1 ≡ suc n = omega arith in e) ∙ range_suc from n

range_next : (n : ℕ) → range_with_len 0 (n + 1) ≡ range_with_len 0 n ++ n ∷ []
range_next n = range_from 0 n ∙ ap (λ (k : ℕ). range_with_len 0 n ++ k ∷ []) (let e : 0 + n ≡ n = omega arith in e)

-- ---- folds
pub fold_from : {A : Type 0} (f : A → ℕ → A) (a : A) (from n : ℕ) → fold f a (range_with_len from (n + 1)) ≡ f (fold f a (range_with_len from n)) (from + n)
fold_from f a from n = ap (fold f a) (range_from from n) ∙ fold-append f a (range_with_len from n) ((from + n) ∷ [])

pub fold_next : {A : Type 0} (f : A → ℕ → A) (a : A) (n : ℕ) → fold f a (range_with_len 0 (n + 1)) ≡ f (fold f a (range_with_len 0 n)) n
fold_next f a n = ap (fold f a) (range_next n) ∙ fold-append f a (range_with_len 0 n) (n ∷ [])

-- ---- lists, sums, tests
pub map_next : {A : Type 0} (f : ℕ → A) (n : ℕ) → map f (range_with_len 0 (n + 1)) ≡ map f (range_with_len 0 n) ++ f n ∷ []
map_next f n = map-range_with_len_more f 0 n n (omega arith)

pub added_next : {A : Type 0} (f : ℕ → A) (xs : List A) (n : ℕ) → xs ++ map f (range_with_len 0 (n + 1)) ≡ (xs ++ map f (range_with_len 0 n)) ++ f n ∷ []
added_next f xs n = ap (λ ys. xs ++ ys) (map_next f n) ∙ sym (append_assoc xs (map f (range_with_len 0 n)) (f n ∷ []))

pub sum_next : (f : ℕ → ℕ) (n : ℕ) → sum_by f (range_with_len 0 (n + 1)) ≡ sum_by f (range_with_len 0 n) + f n
sum_next f n = ap (sum_by f) (range_next n) ∙ sum_by_push f (range_with_len 0 n) n

pub count_next : (p : ℕ → Bool) (n : ℕ) → count_by p (range_with_len 0 (n + 1)) ≡ count_by p (range_with_len 0 n) + cond (p n) 1 0
count_next p n = sum_next (λ k. cond (p k) 1 0) n

pub all_next : (p : ℕ → Bool) (n : ℕ) → list_all p (range_with_len 0 n) ≡ true → p n ≡ true → list_all p (range_with_len 0 (n + 1)) ≡ true
all_next p n all here = ap (list_all p) (range_next n) ∙ list_all-append p (range_with_len 0 n) (n ∷ []) ∙ ap (λ b. b && list_all p (n ∷ [])) all ∙ ap (λ b. true && (b && true)) here

-- one that fails, of the numbers from one on
fails_from : (p : ℕ → Bool) (from n k : ℕ) → k < n → p (from + k) ≡ false → list_all p (range_with_len from n) ≡ false
fails_from p from zero k within fails = absurd (omega arith)
fails_from p from (suc n) zero within fails =
    let here : from + 0 ≡ from = omega arith in
    ap (λ b. b && list_all p (range_with_len (from + 1) n)) (ap p (sym here) ∙ fails)
fails_from p from (suc n) (suc k) within fails =
    let there : from + 1 + k ≡ from + suc k = omega arith in
    let rest = fails_from p (from + 1) n k (omega arith) (ap p there ∙ fails) in
    ap (λ b. p from && b) rest ∙ and_false (p from)
  where
    and_false : (b : Bool) → (b && false) ≡ false
    and_false true = refl
    and_false false = refl

pub one_fails : (p : ℕ → Bool) (n k : ℕ) → k < n → p k ≡ false → list_all p (range_with_len 0 n) ≡ false
one_fails p n k within fails = let e : 0 + k ≡ k = omega arith in fails_from p 0 n k within (ap p e ∙ fails)

-- ---- draws
pub draws_next : (x count : ℕ) → after_draws x (count + 1) ≡ next_state (after_draws x count)
draws_next x count = ap (after_draws x) (let e : count + 1 ≡ suc count = omega arith in e)
