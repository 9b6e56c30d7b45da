-- The text of a journal is read back: each line up to its end, and each number up to what ends it.
use Rattle.std.proofs.Common.{◌≡◌, ◌≢◌, ℕ, ◌+◌, ◌%◌, ◌<◌, ◌^◌, List, [], ◌∷◌, ◌++◌, map, refl, sym, ◌∙◌, ap, arith}
use Rattle.std.specs.List.{AllByRecursion, flat_map}
use Rattle.std.specs.Fmt.{decimal}
use mathlib.Core.List.{append_assoc, append_cancel_left}
use Rattle.std.proofs.lemmas.Fmt.{decimal_by_steps, decimal_injective}
use Rattle.bench.specs.declared.call.Call.{Call}
use Rattle.bench.specs.declared.call.Call.TheVariants.{Take, Step, Crash, Fail}
use Rattle.seen_lock.specs.declared.object.Entry.{Entry}
use Rattle.journal_text.specs.Journals.{call_text, entry_text, shard_text, shards_text}
use Rattle.journal_text.specs.Laws.{shown_call, shown, FitsWords, AllFitWords}
use Rattle.journal_text.specs.Laws.Shown.{take, step, crash, fail}

abbrev head_or : ℕ → List ℕ → ℕ
head_or d [] = d
head_or d (x ∷ xs) = x

abbrev tail_of : List ℕ → List ℕ
tail_of [] = []
tail_of (x ∷ xs) = xs

abbrev second_or : ℕ → List ℕ → ℕ
second_or d xs = head_or d (tail_of xs)

-- the byte is not in the list
abbrev Lacks : ℕ → List ℕ → Type 0
Lacks stop xs = AllByRecursion (λ x. x ≢ stop) xs

-- up to the first such byte two equal texts are the same, and behind it
cut : (stop : ℕ) (xs ys xs' ys' : List ℕ) → Lacks stop xs → Lacks stop ys → xs ++ stop ∷ xs' ≡ ys ++ stop ∷ ys' → (xs ≡ ys) × (xs' ≡ ys')
cut stop [] [] xs' ys' none none' is = (refl, ap tail_of is)
cut stop [] (y ∷ ys) xs' ys' none none' is = absurd (none'.0 (sym (ap (head_or 0) is)))
cut stop (x ∷ xs) [] xs' ys' none none' is = absurd (none.0 (ap (head_or 0) is))
cut stop (x ∷ xs) (y ∷ ys) xs' ys' none none' is =
    let rest = cut stop xs ys xs' ys' none.1 none'.1 (ap tail_of is) in
    (ap (λ z. z ∷ xs) (ap (head_or 0) is) ∙ ap (λ l. y ∷ l) rest.0, rest.1)

lacks_push : (stop x : ℕ) (xs : List ℕ) → Lacks stop xs → x ≢ stop → Lacks stop (xs ++ x ∷ [])
lacks_push stop x [] none other = (other, tt)
lacks_push stop x (y ∷ ys) none other = (none.0, lacks_push stop x ys none.1 other)

decimal_lacks : (stop n : ℕ) → stop < 48 → n < 2 ^ 64 → Lacks stop (decimal n)
decimal_lacks stop n low short = decimal_by_steps (λ m ds. Lacks stop ds) (λ m l. ((λ e. absurd (omega (arith, e, low))), tt)) (λ m ds l h. lacks_push stop (48 + m % 10) ds h (λ e. absurd (omega (arith, e, low)))) n short

-- one number, up to its stop
number_same : (stop m n : ℕ) (xs ys : List ℕ) → stop < 48 → m < 2 ^ 64 → n < 2 ^ 64 → decimal m ++ stop ∷ xs ≡ decimal n ++ stop ∷ ys → (m ≡ n) × (xs ≡ ys)
number_same stop m n xs ys low short short' is =
    let c = cut stop (decimal m) (decimal n) xs ys (decimal_lacks stop m low short) (decimal_lacks stop n low short') is in
    (decimal_injective m n short short' c.0, c.1)

-- ---- one line
-- what follows a call's word, with the rest of the text
abbrev numbers_of : Call → List ℕ → List ℕ
numbers_of (Take i n a s) rest = decimal i ++ 32 ∷ (decimal n ++ 10 ∷ rest)
numbers_of (Step i) rest = decimal i ++ 10 ∷ rest
numbers_of (Crash i) rest = decimal i ++ 10 ∷ rest
numbers_of (Fail p) rest = decimal p ++ 10 ∷ rest

abbrev line_of : Call → List ℕ → List ℕ
line_of (Take i n a s) rest = 116 ∷ 97 ∷ 107 ∷ 101 ∷ 32 ∷ numbers_of (Take i n a s) rest
line_of (Step i) rest = 115 ∷ 116 ∷ 101 ∷ 112 ∷ 32 ∷ numbers_of (Step i) rest
line_of (Crash i) rest = 99 ∷ 114 ∷ 97 ∷ 115 ∷ 104 ∷ 32 ∷ numbers_of (Crash i) rest
line_of (Fail p) rest = 102 ∷ 97 ∷ 105 ∷ 108 ∷ 32 ∷ numbers_of (Fail p) rest

line_is : (c : Call) (rest : List ℕ) → call_text c ++ rest ≡ line_of c rest
line_is (Take i n a s) rest = ap (λ l. 116 ∷ 97 ∷ 107 ∷ 101 ∷ 32 ∷ l) (append_assoc ((decimal i ++ 32 ∷ []) ++ decimal n) (10 ∷ []) rest ∙ (append_assoc (decimal i ++ 32 ∷ []) (decimal n) (10 ∷ rest) ∙ append_assoc (decimal i) (32 ∷ []) (decimal n ++ 10 ∷ rest)))
line_is (Step i) rest = ap (λ l. 115 ∷ 116 ∷ 101 ∷ 112 ∷ 32 ∷ l) (append_assoc (decimal i) (10 ∷ []) rest)
line_is (Crash i) rest = ap (λ l. 99 ∷ 114 ∷ 97 ∷ 115 ∷ 104 ∷ 32 ∷ l) (append_assoc (decimal i) (10 ∷ []) rest)
line_is (Fail p) rest = ap (λ l. 102 ∷ 97 ∷ 105 ∷ 108 ∷ 32 ∷ l) (append_assoc (decimal p) (10 ∷ []) rest)

after_five : List ℕ → List ℕ
after_five xs = tail_of (tail_of (tail_of (tail_of (tail_of xs))))

line_same : (c d : Call) (xs ys : List ℕ) → FitsWords c → FitsWords d → line_of c xs ≡ line_of d ys → (shown_call c ≡ shown_call d) × (xs ≡ ys)
unfolding after_five
line_same (Take i n a s) (Take j m b t) xs ys short short' is =
    let one = number_same 32 i j (decimal n ++ 10 ∷ xs) (decimal m ++ 10 ∷ ys) (omega arith) short.0 short'.0 (ap after_five is) in
    let two = number_same 10 n m xs ys (omega arith) short.1 short'.1 one.1 in
    (ap (λ k. take k n) one.0 ∙ ap (λ k. take j k) two.0, two.1)
line_same (Step i) (Step j) xs ys short short' is = let one = number_same 10 i j xs ys (omega arith) short short' (ap after_five is) in (ap (λ k. step k) one.0, one.1)
line_same (Crash i) (Crash j) xs ys short short' is = let one = number_same 10 i j xs ys (omega arith) short short' (ap (λ l. tail_of (after_five l)) is) in (ap (λ k. crash k) one.0, one.1)
line_same (Fail p) (Fail q) xs ys short short' is = let one = number_same 10 p q xs ys (omega arith) short short' (ap after_five is) in (ap (λ k. fail k) one.0, one.1)
line_same (Take i n a s) (Step j) xs ys short short' is = let e = ap (head_or 0) is in absurd (omega (arith, e))
line_same (Take i n a s) (Crash j) xs ys short short' is = let e = ap (head_or 0) is in absurd (omega (arith, e))
line_same (Take i n a s) (Fail q) xs ys short short' is = let e = ap (head_or 0) is in absurd (omega (arith, e))
line_same (Step i) (Take j m b t) xs ys short short' is = let e = ap (head_or 0) is in absurd (omega (arith, e))
line_same (Step i) (Crash j) xs ys short short' is = let e = ap (head_or 0) is in absurd (omega (arith, e))
line_same (Step i) (Fail q) xs ys short short' is = let e = ap (head_or 0) is in absurd (omega (arith, e))
line_same (Crash i) (Take j m b t) xs ys short short' is = let e = ap (head_or 0) is in absurd (omega (arith, e))
line_same (Crash i) (Step j) xs ys short short' is = let e = ap (head_or 0) is in absurd (omega (arith, e))
line_same (Crash i) (Fail q) xs ys short short' is = let e = ap (head_or 0) is in absurd (omega (arith, e))
line_same (Fail p) (Take j m b t) xs ys short short' is = let e = ap (head_or 0) is in absurd (omega (arith, e))
line_same (Fail p) (Step j) xs ys short short' is = let e = ap (head_or 0) is in absurd (omega (arith, e))
line_same (Fail p) (Crash j) xs ys short short' is = let e = ap (head_or 0) is in absurd (omega (arith, e))

-- ---- the lines of one shard
-- the text is at its end, or goes on with the head of a shard
abbrev IsEnd : List ℕ → Type 0
IsEnd [] = Unit {0}
IsEnd (x ∷ xs) = (x ≡ 115) × (head_or 0 xs ≡ 104)

not_end : (c : Call) (xs rest : List ℕ) → IsEnd rest → rest ≡ line_of c xs → ⊥
not_end c xs [] end is = no_line c is
  where
    no_line : (c : Call) → [] ≡ line_of c xs → ⊥
    no_line (Take i n a s) is = let e = ap (head_or 0) is in omega (arith, e)
    no_line (Step i) is = let e = ap (head_or 0) is in omega (arith, e)
    no_line (Crash i) is = let e = ap (head_or 0) is in omega (arith, e)
    no_line (Fail p) is = let e = ap (head_or 0) is in omega (arith, e)
not_end c xs (r ∷ rest) end is = other_line c is
  where
    other_line : (c : Call) → r ∷ rest ≡ line_of c xs → ⊥
    other_line (Take i n a s) is = let e = ap (head_or 0) is in omega (arith, e, end.0)
    other_line (Step i) is = let e = ap (second_or 0) is in omega (arith, e, end.1)
    other_line (Crash i) is = let e = ap (head_or 0) is in omega (arith, e, end.0)
    other_line (Fail p) is = let e = ap (head_or 0) is in omega (arith, e, end.0)

lines_is : (e : Entry Call) (h : List (Entry Call)) (rest : List ℕ) → flat_map entry_text (e ∷ h) ++ rest ≡ line_of e.call (flat_map entry_text h ++ rest)
lines_is e h rest = append_assoc (entry_text e) (flat_map entry_text h) rest ∙ line_is e.call (flat_map entry_text h ++ rest)

entries_same : (h k : List (Entry Call)) (rest rest' : List ℕ) → AllByRecursion (λ e. FitsWords e.call) h → AllByRecursion (λ e. FitsWords e.call) k → IsEnd rest → IsEnd rest'
    → flat_map entry_text h ++ rest ≡ flat_map entry_text k ++ rest' → (map shown h ≡ map shown k) × (rest ≡ rest')
entries_same [] [] rest rest' short short' end end' is = (refl, is)
entries_same [] (f ∷ k) rest rest' short short' end end' is = absurd (not_end f.call (flat_map entry_text k ++ rest') rest end (is ∙ lines_is f k rest'))
entries_same (e ∷ h) [] rest rest' short short' end end' is = absurd (not_end e.call (flat_map entry_text h ++ rest) rest' end' (sym is ∙ lines_is e h rest))
entries_same (e ∷ h) (f ∷ k) rest rest' short short' end end' is =
    let one = line_same e.call f.call (flat_map entry_text h ++ rest) (flat_map entry_text k ++ rest') short.0 short'.0 (sym (lines_is e h rest) ∙ (is ∙ lines_is f k rest')) in
    let more = entries_same h k rest rest' short.1 short'.1 end end' one.1 in
    (ap (λ z. z ∷ map shown h) one.0 ∙ ap (λ l. shown f ∷ l) more.0, more.1)

-- ---- all shards
shard_is : (g : ℕ) (h : List (Entry Call)) (rest : List ℕ) → shard_text g h ++ rest ≡ 115 ∷ 104 ∷ 97 ∷ 114 ∷ 100 ∷ 32 ∷ (decimal g ++ 10 ∷ (flat_map entry_text h ++ rest))
shard_is g h rest = ap (λ l. 115 ∷ 104 ∷ 97 ∷ 114 ∷ 100 ∷ 32 ∷ l) (append_assoc (decimal g ++ 10 ∷ []) (flat_map entry_text h) rest ∙ append_assoc (decimal g) (10 ∷ []) (flat_map entry_text h ++ rest))

shards_end : (g : ℕ) (h : List (List (Entry Call))) → IsEnd (shards_text g h)
shards_end g [] = tt
shards_end g (h ∷ hs) = (refl, refl)

pub shards_same : (g : ℕ) (h k : List (List (Entry Call))) → AllFitWords h → AllFitWords k → shards_text g h ≡ shards_text g k → map (map shown) h ≡ map (map shown) k
shards_same g [] [] short short' is = refl
shards_same g [] (k ∷ ks) short short' is = let e = ap (head_or 0) is in absurd (omega (arith, e))
shards_same g (h ∷ hs) [] short short' is = let e = ap (head_or 0) is in absurd (omega (arith, e))
shards_same g (h ∷ hs) (k ∷ ks) short short' is =
    let behind = ap (λ l. tail_of (tail_of (tail_of (tail_of (tail_of (tail_of l)))))) (sym (shard_is g h (shards_text (g + 1) hs)) ∙ (is ∙ shard_is g k (shards_text (g + 1) ks))) in
    let same = ap tail_of (append_cancel_left (decimal g) (10 ∷ (flat_map entry_text h ++ shards_text (g + 1) hs)) (10 ∷ (flat_map entry_text k ++ shards_text (g + 1) ks)) behind) in
    let one = entries_same h k (shards_text (g + 1) hs) (shards_text (g + 1) ks) short.0 short'.0 (shards_end (g + 1) hs) (shards_end (g + 1) ks) same in
    let more = shards_same (g + 1) hs ks short.1 short'.1 one.1 in
    ap (λ z. z ∷ map (map shown) hs) one.0 ∙ ap (λ l. map shown k ∷ l) more
