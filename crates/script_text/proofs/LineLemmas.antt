-- Lists of lines, with one line more at the end.
use Rattle.std.proofs.Common.{◌≡◌, ℕ, Bool, true, false, eqb, ltb, leb, ◌&&◌, ◌||◌, not, List, [], ◌∷◌, ◌++◌, Option, Some, None, is_some, refl, ap, ◌∙◌, cond}
use Rattle.std.specs.List.{list_any}
use Rattle.std.proofs.lemmas.Bool.{cond-true, cond-false, or_right, or_left, or_parts, eq-eqb, or_from, and_left, and_right, not_from_true}
use Rattle.std.proofs.lemmas.List.Sums.{fold-append}
use Rattle.script_text.specs.declared.line.Line.{Line}
use Rattle.script_text.specs.declared.line.Line.TheVariants.{Give, Crash, Back, Fail}
use Rattle.script_text.specs.Faults.{turns, last_turn}
use Rattle.script_text.specs.Lives.{crashes_below, is_back_by, is_down, given}

-- a `give` of the record with this number
abbrev pub gives : ℕ → Line → Bool
gives number (Give item instance) = eqb item number
gives number _ = false

or-false : (a : Bool) → (a || false) ≡ a
or-false true = refl
or-false false = refl

-- the last line passes, or the others decide
pub any-last_yes : {A : Type 0} (p : A → Bool) (xs : List A) (x : A) → p x ≡ true → list_any p (xs ++ x ∷ []) ≡ true
any-last_yes p [] x e = or_left (p x) false e
any-last_yes p (y ∷ xs) x e = or_right (p y) (list_any p (xs ++ x ∷ [])) (any-last_yes p xs x e)

pub any-last_no : {A : Type 0} (p : A → Bool) (xs : List A) (x : A) → p x ≡ false → list_any p (xs ++ x ∷ []) ≡ list_any p xs
any-last_no p [] x e = or-false (p x) ∙ e
any-last_no p (y ∷ xs) x e = ap (λ b. p y || b) (any-last_no p xs x e)

-- an instance that crashes by the last line is down
pub is_down-crash : (lines : List Line) (x : Line) (n at : ℕ) → crashes_below n at x ≡ true → is_down (lines ++ x ∷ []) n at ≡ true
is_down-crash [] x n at e = or_left (crashes_below n at x && true) false (rw e refl)
is_down-crash (line ∷ lines) x n at e =
    or_right (crashes_below n at line && not (list_any (is_back_by n at) (lines ++ x ∷ []))) (is_down (lines ++ x ∷ []) n at) (is_down-crash lines x n at e)

-- one that is back by the last line is not
pub is_down-back : (lines : List Line) (x : Line) (n at : ℕ) → crashes_below n at x ≡ false → is_back_by n at x ≡ true
    → is_down (lines ++ x ∷ []) n at ≡ false
is_down-back [] x n at c e = or_from (crashes_below n at x && true) false (and_left (crashes_below n at x) true c) refl
is_down-back (line ∷ lines) x n at c e =
    or_from (crashes_below n at line && not (list_any (is_back_by n at) (lines ++ x ∷ []))) (is_down (lines ++ x ∷ []) n at)
    (and_right (crashes_below n at line) (not (list_any (is_back_by n at) (lines ++ x ∷ [])))
    (not_from_true (list_any (is_back_by n at) (lines ++ x ∷ [])) (any-last_yes (is_back_by n at) lines x e)))
    (is_down-back lines x n at c e)

-- any other line changes nothing
pub is_down-other : (lines : List Line) (x : Line) (n at : ℕ) → crashes_below n at x ≡ false → is_back_by n at x ≡ false
    → is_down (lines ++ x ∷ []) n at ≡ is_down lines n at
is_down-other [] x n at c e = or_from (crashes_below n at x && true) false (and_left (crashes_below n at x) true c) refl
is_down-other (line ∷ lines) x n at c e =
    ap (λ b. (crashes_below n at line && not b) || is_down (lines ++ x ∷ []) n at) (any-last_no (is_back_by n at) lines x e)
    ∙ ap (λ b. (crashes_below n at line && not (list_any (is_back_by n at) lines)) || b) (is_down-other lines x n at c e)

pub last_turn-yes : (n : ℕ) (lines : List Line) (x : Line) → turns n x ≡ true → last_turn n (lines ++ x ∷ []) ≡ Some x
last_turn-yes n lines x e = fold-append _ None lines (x ∷ []) ∙ cond-true (turns n x) (Some x) (last_turn n lines) e

pub last_turn-no : (n : ℕ) (lines : List Line) (x : Line) → turns n x ≡ false → last_turn n (lines ++ x ∷ []) ≡ last_turn n lines
last_turn-no n lines x e = fold-append _ None lines (x ∷ []) ∙ cond-false (turns n x) (Some x) (last_turn n lines) e

-- a record is given by a line where one gives it
pub given-any : (lines : List Line) (at : ℕ) → is_some (given lines at) ≡ list_any (gives at) lines
given-any [] at = refl
given-any (Give item instance ∷ lines) at = choice (eqb item at) instance (given lines at) ∙ ap (λ b. eqb item at || b) (given-any lines at)
  where
    choice : (b : Bool) (i : ℕ) (o : Option ℕ) → is_some (cond b (Some i) o) ≡ (b || is_some o)
    choice true i o = refl
    choice false i o = refl
given-any (Crash instance item after ∷ lines) at = given-any lines at
given-any (Back instance item ∷ lines) at = given-any lines at
given-any (Fail replica item ∷ lines) at = given-any lines at

-- the first give of a record
pub given-first : (lines : List Line) (item instance : ℕ) → list_any (gives item) lines ≡ false
    → given (lines ++ Give item instance ∷ []) item ≡ Some instance
given-first [] item instance none = cond-true (eqb item item) (Some instance) None (eq-eqb item item refl)
given-first (Give other taker ∷ lines) item instance none =
    let parts = or_parts (eqb other item) (list_any (gives item) lines) none in
    cond-false (eqb other item) (Some taker) (given (lines ++ Give item instance ∷ []) item) parts.0
    ∙ given-first lines item instance parts.1
given-first (Crash other crashed after ∷ lines) item instance none = given-first lines item instance none
given-first (Back other from ∷ lines) item instance none = given-first lines item instance none
given-first (Fail replica failed ∷ lines) item instance none = given-first lines item instance none

pub given-other : (lines : List Line) (x : Line) (at : ℕ) → gives at x ≡ false → given (lines ++ x ∷ []) at ≡ given lines at
given-other [] (Give item instance) at e = cond-false (eqb item at) (Some instance) None e
given-other [] (Crash instance item after) at e = refl
given-other [] (Back instance item) at e = refl
given-other [] (Fail replica item) at e = refl
given-other (Give item instance ∷ lines) x at e = ap (λ o. cond (eqb item at) (Some instance) o) (given-other lines x at e)
given-other (Crash instance item after ∷ lines) x at e = given-other lines x at e
given-other (Back instance item ∷ lines) x at e = given-other lines x at e
given-other (Fail replica item ∷ lines) x at e = given-other lines x at e

-- what is no turn of an instance leaves its life as it was
pub crashes-no_turn : (n at : ℕ) (x : Line) → turns n x ≡ false → crashes_below n at x ≡ false
crashes-no_turn n at (Give item instance) e = refl
crashes-no_turn n at (Crash instance item after) e = and_left (eqb instance n) (ltb item at) e
crashes-no_turn n at (Back instance item) e = refl
crashes-no_turn n at (Fail replica item) e = refl

pub back-no_turn : (n at : ℕ) (x : Line) → turns n x ≡ false → is_back_by n at x ≡ false
back-no_turn n at (Give item instance) e = refl
back-no_turn n at (Crash instance item after) e = refl
back-no_turn n at (Back instance item) e = and_left (eqb instance n) (leb item at) e
back-no_turn n at (Fail replica item) e = refl
