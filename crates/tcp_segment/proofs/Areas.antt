-- The option area of a written segment, as it is scanned.
use Rattle.std.proofs.Common.{◌≡◌, ◌≤◌, ◌<◌, ℕ, suc, ◌+◌, ◌/◌, ◌%◌, ◌^◌, ◌==◌, ◌&&◌, cond, min, Bool, true, false, List, [], ◌∷◌, ◌++◌, length, Option, Some, None, Ok, refl, sym, ap, ◌∙◌, arith}
use Rattle.std.specs.Prelude.{nat_lt, IfSome}
use Rattle.std.specs.List.{flat_map, AllByRecursion}
use Rattle.std.proofs.lemmas.Grind.{common_steps}
use Rattle.std.proofs.lemmas.List.{append-nil}
use Rattle.std.proofs.lemmas.List.Concat.{flat_map-cons}
use Rattle.byteorder.specs.Endian.{big_number, big_bytes}
use Rattle.common.specs.Fields.{field}
use Rattle.seq_space.specs.declared.Num.{Num}
use Rattle.tcp_segment.specs.declared.options.Options.{Options}
use Rattle.tcp_segment.specs.OptionArea.{no_options, with_option, scan, shift_of, blocks_of, blocks_in}
use Rattle.tcp_segment.specs.Written.{mss_bytes, permitted_bytes, scale_bytes, block_bytes, sack_bytes, area_bytes}
use Rattle.seq_space.specs.Blocks.{FitsBlock, FitsBlocks}
use Rattle.tcp_segment.proofs.Lists.{same-options, option_or-none, or-false}
use Rattle.tcp_segment.proofs.Scans.{scan-option}
use Rattle.tcp_segment.proofs.Sums.{length-edges}

abbrev options_with : Option ℕ → Option ℕ → Bool → List (Num × Num) → Options
options_with mss scale permitted sack = record { mss = mss; scale = scale; sack_permitted = permitted; sack = sack }

-- ---- blocks

again : (l r : ℕ) (bytes : List ℕ) → l < 2 ^ 32 → r < 2 ^ 32 → (field 0 4 (big_bytes 4 l ++ big_bytes 4 r ++ bytes) ≡ l) × (field 4 4 (big_bytes 4 l ++ big_bytes 4 r ++ bytes) ≡ r)
again l r bytes small small2 = (omega (arith, small), omega (arith, small2))

blocks_of-again : (blocks : List (Num × Num)) → AllByRecursion FitsBlock blocks → blocks_of (length blocks) (flat_map block_bytes blocks) ≡ blocks
blocks_of-again [] fits = refl
blocks_of-again ((l, r) ∷ blocks) fits =
    let rest = flat_map block_bytes blocks in
    let edges = again l.0 r.0 rest fits.0.0 fits.0.1 in
    ap (blocks_of (suc (length blocks))) (flat_map-cons block_bytes (l, r) blocks)
    ∙ ap (λ (n : ℕ). (record { 0 = n }, record { 0 = field 4 4 (big_bytes 4 l.0 ++ big_bytes 4 r.0 ++ rest) }) ∷ blocks_of (length blocks) rest) edges.0
    ∙ ap (λ (n : ℕ). (l, record { 0 = n }) ∷ blocks_of (length blocks) rest) edges.1
    ∙ ap (λ (bs : List (Num × Num)). (l, r) ∷ bs) (blocks_of-again blocks fits.1)

blocks-again : (blocks : List (Num × Num)) → AllByRecursion FitsBlock blocks → length blocks ≤ 4 → blocks_in 5 (flat_map block_bytes blocks) ≡ blocks
blocks-again blocks fits few =
    let bytes = flat_map block_bytes blocks in
    let long = length-edges blocks in
    let tests : (length bytes % 8 == 0 && nat_lt (length bytes) 40) ≡ true = grind (arith, common_steps, long, few) in
    let count : length bytes / 8 ≡ length blocks = omega (arith, long) in
    ap (λ (b : Bool). cond b (blocks_of (length bytes / 8) bytes) []) tests
    ∙ ap (λ (n : ℕ). blocks_of n bytes) count
    ∙ blocks_of-again blocks fits

-- ---- options one after the other

scan-mss : (at : ℕ) (mss : Option ℕ) (rest : List ℕ) → IfSome mss (λ m. m < 2 ^ 16) → scan 0 at no_options (mss_bytes mss ++ rest) ≡ scan 0 (at + length (mss_bytes mss)) (options_with mss None false []) rest
unfolding mss_bytes
scan-mss at None rest small = ap (λ (n : ℕ). scan 0 n no_options rest) (omega arith)
scan-mss at (Some m) rest small =
    scan-option at 2 no_options (big_bytes 2 m) rest (omega arith)
    ∙ ap (λ (k : ℕ). scan 0 (at + 4) (options_with (Some k) None false []) rest) (omega (arith, small))

scan-permitted : (at : ℕ) (mss : Option ℕ) (permitted : Bool) (rest : List ℕ) → scan 0 at (options_with mss None false []) (permitted_bytes permitted ++ rest) ≡ scan 0 (at + length (permitted_bytes permitted)) (options_with mss None permitted []) rest
unfolding permitted_bytes scan
scan-permitted at mss false rest = ap (λ (n : ℕ). scan 0 n (options_with mss None false []) rest) (omega arith)
scan-permitted at mss true rest =
    scan-option (at + 1 + 1) 4 (options_with mss None false []) [] rest (omega arith)
    ∙ ap (λ (m : Option ℕ). scan 0 (at + 1 + 1 + 2) (options_with m None true []) rest) (option_or-none mss)
    ∙ ap (λ (n : ℕ). scan 0 n (options_with mss None true []) rest) (omega arith)

scan-scale : (at : ℕ) (mss : Option ℕ) (permitted : Bool) (scale : Option ℕ) (rest : List ℕ) → scan 0 at (options_with mss None permitted []) (scale_bytes scale ++ rest) ≡ scan 0 (at + length (scale_bytes scale)) (options_with mss (shift_of scale) permitted []) rest
unfolding scale_bytes scan
scan-scale at mss permitted None rest = ap (λ (n : ℕ). scan 0 n (options_with mss None permitted []) rest) (omega arith)
scan-scale at mss permitted (Some s) rest =
    let before = options_with mss None permitted [] in
    let after = options_with mss (Some (min s 14)) permitted [] in
    let shift : big_number 1 (s ∷ []) ≡ s = omega arith in
    let found : with_option before 3 (s ∷ []) ≡ after = same-options (with_option before 3 (s ∷ [])) after (option_or-none mss) (ap (λ (k : ℕ). Some (min k 14)) shift) (or-false permitted) refl in
    scan-option (at + 1) 3 before (s ∷ []) rest (omega arith)
    ∙ ap (λ (o : Options). scan 0 (at + 1 + 3) o rest) found
    ∙ ap (λ (n : ℕ). scan 0 n after rest) (omega arith)

scan-sack : (at : ℕ) (mss scale : Option ℕ) (permitted : Bool) (blocks : List (Num × Num)) → AllByRecursion FitsBlock blocks → length blocks ≤ 4 → scan 0 at (options_with mss scale permitted []) (sack_bytes blocks) ≡ Ok (options_with mss scale permitted blocks)
unfolding sack_bytes scan
scan-sack at mss scale permitted [] fits few = refl
scan-sack at mss scale permitted (b ∷ bs) fits few =
    let before = options_with mss scale permitted [] in
    let after = options_with mss scale permitted (b ∷ bs) in
    let bytes = flat_map block_bytes (b ∷ bs) in
    let found : with_option before 5 bytes ≡ after = same-options (with_option before 5 bytes) after (option_or-none mss) (option_or-none scale) (or-false permitted) (blocks-again (b ∷ bs) fits few) in
    ap (λ (n : ℕ). scan 0 (at + 1 + 1) before (5 ∷ (2 + n) ∷ bytes)) (sym (length-edges (b ∷ bs)))
    ∙ ap (λ (l : List ℕ). scan 0 (at + 1 + 1) before (5 ∷ (2 + length bytes) ∷ l)) (sym (append-nil bytes))
    ∙ scan-option (at + 1 + 1) 5 before bytes [] (omega arith)
    ∙ ap (λ (o : Options). Ok o) found

-- all of them
pub scan-area : (o : Options) → IfSome o.mss (λ m. m < 2 ^ 16) → FitsBlocks o.sack → scan 0 0 no_options (area_bytes o) ≡ Ok (options_with o.mss (shift_of o.scale) o.sack_permitted o.sack)
scan-area o small fits =
    let one = length (mss_bytes o.mss) in
    let two = length (permitted_bytes o.sack_permitted) in
    let three = length (scale_bytes o.scale) in
    scan-mss 0 o.mss (permitted_bytes o.sack_permitted ++ (scale_bytes o.scale ++ sack_bytes o.sack)) small
    ∙ scan-permitted (0 + one) o.mss o.sack_permitted (scale_bytes o.scale ++ sack_bytes o.sack)
    ∙ scan-scale (0 + one + two) o.mss o.sack_permitted o.scale (sack_bytes o.sack)
    ∙ scan-sack (0 + one + two + three) o.mss (shift_of o.scale) o.sack_permitted o.sack fits.each fits.few
