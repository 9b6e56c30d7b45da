-- Sums that are carried on.
use Rattle.std.proofs.Common.{◌≡◌, ◌≤◌, ℕ, ◌+◌, ◌-◌, ◌*◌, ◌/◌, ◌%◌, List, [], ◌∷◌, ◌++◌, length, take, drop, sum, sym, ap, arith}
use Rattle.std.proofs.lemmas.List.{length-take, length-drop, take-append-drop, drop-drop}
use Rattle.std.proofs.lemmas.List.Sums.{sum_by-cons}
use Rattle.byteorder.specs.Endian.{big_number}
use Rattle.common.specs.Fields.{field}
use Rattle.ipv4.specs.Checksum.{words, ones, blanked}
use Rattle.ipv4.proofs.Ones.{ones-ones, sum-words-append}
use Rattle.inplace.specs.Headers.{carried_on}

-- a total above 0 is counted from 1 to 65535
ones-low : (t : ℕ) → 1 ≤ t → 1 ≤ ones t
ones-low t some = grind arith

ones-high : (t : ℕ) → ones t ≤ 65535
ones-high t = grind arith

ones-rest : (t : ℕ) → ones t % 65535 ≡ t % 65535
ones-rest t = grind arith

ones-same : (a b : ℕ) → 1 ≤ a → 1 ≤ b → a % 65535 ≡ b % 65535 → ones a ≡ ones b
ones-same a b low low2 same = grind arith

same-rest : (p h d p2 h2 whole old new : ℕ) → whole ≤ 65535 → old ≤ 65535 → whole % 65535 ≡ (p + h + d) % 65535 → old % 65535 ≡ (p + (h + (65535 - whole))) % 65535 → new % 65535 ≡ (p2 + h2) % 65535
    → ((65535 - old) + new) % 65535 ≡ (p2 + h2 + d) % 65535
same-rest p h d p2 h2 whole old new high high2 e f g = omega arith

-- what is summed is carried on from the words that go to those that come: p and h go, with the checksum of them and d
pub carries-on : (p h d p2 h2 : ℕ) → 1 ≤ p → 1 ≤ p2 → carried_on (ones (p + (h + (65535 - ones (p + h + d))))) (ones (p2 + h2)) ≡ 65535 - ones (p2 + h2 + d)
carries-on p h d p2 h2 some some2 =
    let whole = ones (p + h + d) in
    let old = ones (p + (h + (65535 - whole))) in
    let new = ones (p2 + h2) in
    let one : 1 ≤ new = ones-low (p2 + h2) (omega (arith, some2)) in
    ap (λ (m : ℕ). 65535 - m) (ones-same ((65535 - old) + new) (p2 + h2 + d) (omega (arith, one)) (omega (arith, some2))
    (same-rest p h d p2 h2 whole old new (ones-high (p + h + d)) (ones-high (p + (h + (65535 - whole)))) (ones-rest (p + h + d)) (ones-rest (p + (h + (65535 - whole)))) (ones-rest (p2 + h2))))

first-word : (bytes : List ℕ) → 2 ≤ length bytes → sum (words bytes) ≡ big_number 2 bytes + sum (words (drop 2 bytes))
first-word [] two = absurd (omega (arith, two))
first-word (a ∷ []) two = absurd (omega (arith, two))
first-word (a ∷ b ∷ bytes) two = omega (arith, sum_by-cons (λ w. w) (256 * a + b) (words bytes))

-- the word at an even place is missing where it is blanked
pub sum-blanked : (i : ℕ) (bytes : List ℕ) → i % 2 ≡ 0 → i + 2 ≤ length bytes → sum (words bytes) ≡ sum (words (blanked i bytes)) + field i 2 bytes
sum-blanked i bytes even inside =
    let front = take i bytes in
    let back = drop i bytes in
    let half : length front ≡ 2 * (i / 2) = omega (arith, length-take i bytes) in
    let whole : sum (words bytes) ≡ sum (words (front ++ back)) = ap (λ (b : List ℕ). sum (words b)) (sym (take-append-drop i bytes)) in
    let word = first-word back (omega (arith, length-drop i bytes)) in
    let behind : sum (words (drop 2 back)) ≡ sum (words (drop (i + 2) bytes)) = ap (λ (b : List ℕ). sum (words b)) (drop-drop 2 i bytes) in
    omega (arith, whole, word, behind, sum-words-append (i / 2) front back half, sum-words-append (i / 2) front (0 ∷ 0 ∷ drop (i + 2) bytes) half, sum_by-cons (λ w. w) 0 (words (drop (i + 2) bytes)))

pub ruleset sums = (ones-ones)
