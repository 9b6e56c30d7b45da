-- How an instance's changes grow with the lines.
use Rattle.std.proofs.Common.{◌≡◌, ℕ, zero, suc, ◌+◌, ◌-◌, ◌%◌, ◌<◌, ◌≤◌, true, false, eqb, ltb, leb, ◌&&◌, not, inl, inr, List, [], ◌∷◌, ◌++◌, length, slice_get, unwrap_or, Bool, Some, take, get_or, refl, sym, ap, ◌∙◌, cond, arith, All, length-append}
use Rattle.std.specs.List.{count_by}
use Rattle.std.specs.List.Sorted.{IsNonDecreasing, IsPartitionPoint}
use Rattle.std.proofs.Math.Seq.{take-length}
use Rattle.std.proofs.lemmas.Bool.{cond-true, cond-false, and_from, and_parts, and_right, cases_lt, cases_Bool, eqb-false, eq-eqb, ne_eqb, eqb-true, lt-ltb, le-ltb, le-leb, lt-leb, leb-true, not_from_true, not_from_false}
use Rattle.std.proofs.lemmas.List.Sums.{sum_by-append, count_by_more_yes, count_by_more_no}
use Rattle.std.proofs.lemmas.List.Sorted.{IsNonDecreasingBy-push}
use Rattle.std.proofs.lemmas.List.Elements.{All-push, All-from_get_or, All-head, All-tail}
use Rattle.std.proofs.lemmas.Option.{unwrap_or-slice_get, slice_get-get_or}
use Rattle.script_text.specs.declared.line.Line.{Line}
use Rattle.script_text.specs.declared.line.Line.TheVariants.{Crash, Back}
use Rattle.script_text.specs.Faults.{turns, last_turn, may_crash, may_back}
use Rattle.script_text.specs.Lives.{is_down, living}
use Rattle.script_text.specs.Changes.{is_even, last_change}
use Rattle.script_text.specs.Index.{IsLife}
use Rattle.script_text.proofs.LineLemmas.{is_down-crash, is_down-back, is_down-other, last_turn-yes, last_turn-no, crashes-no_turn, back-no_turn}

-- one more turns even to odd
pub is_even-more : (n : ℕ) → is_even (n + 1) ≡ not (is_even n)
is_even-more n =
    elim (cases_Bool (is_even n)) [
      | inl even ↦ ne_eqb ((n + 1) % 2) 0 (λ e. let r : n % 2 ≡ 0 = eqb-true (n % 2) 0 even in omega arith) ∙ sym (not_from_true (is_even n) even)
      | inr odd ↦ eq-eqb ((n + 1) % 2) 0 (let r : n % 2 ≡ 0 → ⊥ = eqb-false (n % 2) 0 odd in omega arith) ∙ sym (not_from_false (is_even n) odd)
    ]

pub length-last : (cs : List ℕ) (y : ℕ) → length (cs ++ y ∷ []) ≡ length cs + 1
length-last cs y = length-append cs (y ∷ [])

pub last_change-last : (cs : List ℕ) (y : ℕ) → last_change (cs ++ y ∷ []) ≡ y
last_change-last cs y =
    let whole : length (cs ++ y ∷ []) - 1 ≡ length cs = omega (arith, length-last cs y) in
    ap (λ i. unwrap_or (slice_get (cs ++ y ∷ []) i) 0) whole ∙ ap (λ o. unwrap_or o 0) (at_end cs y)
  where
    at_end : (cs : List ℕ) (y : ℕ) → slice_get (cs ++ y ∷ []) (length cs) ≡ Some y
    at_end [] y = refl
    at_end (c ∷ cs) y = at_end cs y

-- the changes up to a record, with one change more
pub count-last_no : (cs : List ℕ) (y at : ℕ) → at < y
    → count_by (λ c. leb c at) (cs ++ y ∷ []) ≡ count_by (λ c. leb c at) cs
count-last_no cs y at above =
    let none : ◌≡◌ {A = ℕ} (cond (leb y at) 1 0) 0 = cond-false (leb y at) 1 0 (lt-leb y at above) in
    sum_by-append (λ c. cond (leb c at) 1 0) cs (y ∷ []) ∙ omega (arith, none)

pub count-all : (cs : List ℕ) (at : ℕ) → All (λ c. c ≤ at) cs → count_by (λ c. leb c at) cs ≡ length cs
count-all [] at all = refl
count-all (c ∷ cs) at all =
    let one : ◌≡◌ {A = ℕ} (cond (leb c at) 1 0) 1 = cond-true (leb c at) 1 0 (le-leb c at (All-head (λ c. c ≤ at) c cs all)) in
    let rest : count_by (λ c. leb c at) cs ≡ length cs = count-all cs at (All-tail (λ c. c ≤ at) c cs all) in
    let whole : count_by (λ c. leb c at) (c ∷ cs) ≡ (0 + cond (leb c at) 1 0) + count_by (λ c. leb c at) cs = sum_by-append (λ c. cond (leb c at) 1 0) (c ∷ []) cs in
    omega (arith, whole, one, rest)

-- what is no turn of the instance leaves its changes as they are
pub life-other : (lines : List Line) (n : ℕ) (cs : List ℕ) (x : Line) → turns n x ≡ false → IsLife lines n cs → IsLife (lines ++ x ∷ []) n cs
life-other lines n cs x e life = record {
  lives = λ at. ap not (is_down-other lines x n at (crashes-no_turn n at x e) (back-no_turn n at x e)) ∙ life.lives at;
  crash = λ item. ap (λ t. may_crash t item) (last_turn-no n lines x e) ∙ life.crash item;
  back = λ item. ap (λ t. may_back t item) (last_turn-no n lines x e) ∙ life.back item;
  sorted = life.sorted;
}

-- the last one, by its place
last-at : (cs : List ℕ) (d : ℕ) → 0 < length cs → get_or cs (length cs - 1) d ≡ last_change cs
last-at cs d some =
    sym (unwrap_or-slice_get cs (length cs - 1) d)
    ∙ ap (λ o. unwrap_or o d) (slice_get-get_or cs (length cs - 1) 0 (omega arith))
    ∙ sym (unwrap_or-slice_get cs (length cs - 1) 0)

-- none is above what the last is not above
below-last : (cs : List ℕ) (y : ℕ) → last_change cs ≤ y → IsNonDecreasing cs → All (λ c. c ≤ y) cs
below-last cs y up sorted =
    All-from_get_or (λ c. c ≤ y) cs 0 (λ i inside.
    let rises : get_or cs i 0 ≤ get_or cs (length cs - 1) 0 = sorted i (length cs - 1) 0 (omega arith) (omega arith) in
    let last : get_or cs (length cs - 1) 0 ≡ last_change cs = last-at cs 0 (omega arith) in
    omega arith)

-- the changes do not fall, with one more
sorted-last : (cs : List ℕ) (y : ℕ) → last_change cs ≤ y → IsNonDecreasing cs → IsNonDecreasing (cs ++ y ∷ [])
sorted-last cs y up sorted =
    IsNonDecreasingBy-push (λ x. x) cs y sorted (λ d some. let last : get_or cs (length cs - 1) d ≡ last_change cs = last-at cs d some in omega arith)

count-whole : (cs : List ℕ) (y at : ℕ) → last_change cs ≤ y → IsNonDecreasing cs → y ≤ at
    → count_by (λ c. leb c at) (cs ++ y ∷ []) ≡ length cs + 1
count-whole cs y at up sorted inside =
    count-all (cs ++ y ∷ []) at (All-push (λ c. c ≤ at) cs y (below-last cs at (omega arith) sorted) inside) ∙ length-last cs y

-- so many pass a test as stand before the first that does not
pub count-point : (p : ℕ → Bool) (xs : List ℕ) (i : ℕ) → i ≤ length xs → IsPartitionPoint (λ c. p c ≡ true) (λ c. p c ≡ false) xs i
    → count_by p xs ≡ i
count-point p xs i inside point =
    let whole = behind (length xs - i) (omega arith) in
    let all : i + (length xs - i) ≡ length xs = omega arith in
    ap (count_by p) (sym (take-length xs)) ∙ ap (λ n. count_by p (take n xs)) (sym all) ∙ whole
  where
    before : (k : ℕ) → k ≤ i → count_by p (take k xs) ≡ k
    before zero within = refl
    before (suc k) within =
        let here : p (get_or xs k 0) ≡ true = point.0 k 0 (omega arith) (omega arith) in
        let rest : count_by p (take k xs) ≡ k = before k (omega arith) in
        let more : count_by p (take (k + 1) xs) ≡ count_by p (take k xs) + 1 = count_by_more_yes p xs k 0 (omega arith) here in
        let place : suc k ≡ k + 1 = omega arith in
        ap (λ n. count_by p (take n xs)) place ∙ more ∙ omega arith

    behind : (m : ℕ) → i + m ≤ length xs → count_by p (take (i + m) xs) ≡ i
    behind zero within = let place : i + 0 ≡ i = omega arith in ap (λ n. count_by p (take n xs)) place ∙ before i (omega arith)
    behind (suc m) within =
        let here : p (get_or xs (i + m) 0) ≡ false = point.1 (i + m) 0 (omega arith) (omega arith) in
        let rest : count_by p (take (i + m) xs) ≡ i = behind m (omega arith) in
        let more : count_by p (take (i + m + 1) xs) ≡ count_by p (take (i + m) xs) = count_by_more_no p xs (i + m) 0 (omega arith) here in
        let place : i + suc m ≡ i + m + 1 = omega arith in
        ap (λ n. count_by p (take n xs)) place ∙ more ∙ rest

pub life-crash : (lines : List Line) (n item after : ℕ) (cs : List ℕ) → may_crash (last_turn n lines) item ≡ true
    → IsLife lines n cs → IsLife (lines ++ Crash n item after ∷ []) n (cs ++ (item + 1) ∷ [])
life-crash lines n item after cs may life = record {
  lives = λ at. elim (cases_lt item at) [ inl below ↦ down at below | inr above ↦ same at above ];
  crash = λ it. ap (λ t. may_crash t it) turn ∙ sym (ap (λ b. b && leb (last_change new) it) odd);
  back = λ it. ap (λ t. may_back t it) turn ∙ follows it ∙ sym (ap (λ b. not b && leb (last_change new) it) odd);
  sorted = sorted-last cs y up life.sorted;
}
  where
    x : Line
    x = Crash n item after

    y : ℕ
    y = item + 1

    new : List ℕ
    new = cs ++ y ∷ []

    parts : (is_even (length cs) ≡ true) × (leb (last_change cs) item ≡ true)
    parts = and_parts (is_even (length cs)) (leb (last_change cs) item) (sym (life.crash item) ∙ may)

    up : last_change cs ≤ y
    up = let below : last_change cs ≤ item = leb-true (last_change cs) item parts.1 in omega arith

    odd_count : is_even (length cs + 1) ≡ false
    odd_count = is_even-more (length cs) ∙ not_from_true (is_even (length cs)) parts.0

    odd : is_even (length new) ≡ false
    odd = ap is_even (length-last cs y) ∙ odd_count

    itself : eqb n n ≡ true
    itself = eq-eqb n n refl

    turn : last_turn n (lines ++ x ∷ []) ≡ Some x
    turn = last_turn-yes n lines x itself

    follows : (it : ℕ) → ltb item it ≡ leb (last_change new) it
    follows it =
        elim (cases_lt item it) [
          | inl below ↦ lt-ltb item it below ∙ sym (le-leb (last_change new) it (omega (arith, last_change-last cs y)))
          | inr above ↦ le-ltb item it above ∙ sym (lt-leb (last_change new) it (omega (arith, last_change-last cs y)))
        ]

    down : (at : ℕ) → item < at → living (lines ++ x ∷ []) n at ≡ is_even (count_by (λ c. leb c at) new)
    down at below =
        not_from_true (is_down (lines ++ x ∷ []) n at) (is_down-crash lines x n at (and_from (eqb n n) (ltb item at) itself (lt-ltb item at below)))
        ∙ sym (ap is_even (count-whole cs y at up life.sorted (omega arith)) ∙ odd_count)

    same : (at : ℕ) → at ≤ item → living (lines ++ x ∷ []) n at ≡ is_even (count_by (λ c. leb c at) new)
    same at above =
        ap not (is_down-other lines x n at (and_right (eqb n n) (ltb item at) (le-ltb item at above)) refl)
        ∙ life.lives at
        ∙ sym (ap is_even (count-last_no cs y at (omega arith)))

pub life-back : (lines : List Line) (n item : ℕ) (cs : List ℕ) → may_back (last_turn n lines) item ≡ true
    → IsLife lines n cs → IsLife (lines ++ Back n item ∷ []) n (cs ++ item ∷ [])
life-back lines n item cs may life = record {
  lives = λ at. elim (cases_lt at item) [ inl above ↦ same at above | inr inside ↦ up_again at inside ];
  crash = λ it. ap (λ t. may_crash t it) turn ∙ ap (λ y. leb y it) (sym (last_change-last cs item)) ∙ sym (ap (λ b. b && leb (last_change new) it) even);
  back = λ it. ap (λ t. may_back t it) turn ∙ sym (ap (λ b. not b && leb (last_change new) it) even);
  sorted = sorted-last cs item up life.sorted;
}
  where
    x : Line
    x = Back n item

    new : List ℕ
    new = cs ++ item ∷ []

    parts : (not (is_even (length cs)) ≡ true) × (leb (last_change cs) item ≡ true)
    parts = and_parts (not (is_even (length cs))) (leb (last_change cs) item) (sym (life.back item) ∙ may)

    up : last_change cs ≤ item
    up = leb-true (last_change cs) item parts.1

    even_count : is_even (length cs + 1) ≡ true
    even_count = is_even-more (length cs) ∙ parts.0

    even : is_even (length new) ≡ true
    even = ap is_even (length-last cs item) ∙ even_count

    itself : eqb n n ≡ true
    itself = eq-eqb n n refl

    turn : last_turn n (lines ++ x ∷ []) ≡ Some x
    turn = last_turn-yes n lines x itself

    up_again : (at : ℕ) → item ≤ at → living (lines ++ x ∷ []) n at ≡ is_even (count_by (λ c. leb c at) new)
    up_again at inside =
        not_from_false (is_down (lines ++ x ∷ []) n at) (is_down-back lines x n at refl (and_from (eqb n n) (leb item at) itself (le-leb item at inside)))
        ∙ sym (ap is_even (count-whole cs item at up life.sorted inside) ∙ even_count)

    same : (at : ℕ) → at < item → living (lines ++ x ∷ []) n at ≡ is_even (count_by (λ c. leb c at) new)
    same at above =
        ap not (is_down-other lines x n at refl (and_right (eqb n n) (leb item at) (lt-leb item at above)))
        ∙ life.lives at
        ∙ sym (ap is_even (count-last_no cs item at above))
