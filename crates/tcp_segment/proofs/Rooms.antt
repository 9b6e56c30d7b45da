-- The room that selective acknowledgments take in the option area that they were read from.
use Rattle.std.proofs.Common.{◌≡◌, ◌≤◌, ℕ, zero, suc, ◌+◌, ◌/◌, List, [], ◌∷◌, length, drop, refl, sym, ap, subst, ◌∙◌, arith}
use Rattle.std.specs.List.{flat_map}
use Rattle.std.proofs.lemmas.Grind.{common_steps}
use Rattle.std.proofs.lemmas.List.{length-append}
use Rattle.std.proofs.lemmas.List.Concat.{flat_map-cons}
use Rattle.seq_space.specs.declared.Num.{Num}
use Rattle.tcp_segment.specs.declared.options.Options.{Options}
use Rattle.tcp_segment.specs.OptionArea.{blocks_of, blocks_in, blocks_or}
use Rattle.tcp_segment.specs.OptionList.{Item, padding, option, item_bytes, first_blocks, HasOptions}
use Rattle.tcp_segment.specs.Written.{sack_length}

length-blocks : (n : ℕ) (bytes : List ℕ) → length (blocks_of n bytes) ≡ n
length-blocks zero bytes = refl
length-blocks (suc n) bytes = ap suc (length-blocks n (drop 8 bytes))

-- an option's blocks as they are written take at most two bytes more than the option
block-room : (kind : ℕ) (body : List ℕ) → sack_length (blocks_in kind body) ≤ 4 + length body
block-room kind body = grind (arith, common_steps, length-blocks (length body / 8) body)

or-room : (found other : List (Num × Num)) (n : ℕ) → sack_length found ≤ n → sack_length other ≤ n → sack_length (blocks_or found other) ≤ n
or-room [] other n one two = two
or-room (b ∷ found) other n one two = grind (arith, common_steps, one)

list-room : (items : List Item) → sack_length (first_blocks items) ≤ length (flat_map item_bytes items) + 2
list-room [] = omega arith
list-room (padding ∷ items) =
    omega (arith, list-room items, ap length (flat_map-cons item_bytes padding items), length-append (item_bytes padding) (flat_map item_bytes items))
list-room (option kind body ∷ items) =
    let long = ap length (flat_map-cons item_bytes (option kind body) items) ∙ length-append (item_bytes (option kind body)) (flat_map item_bytes items) in
    or-room (blocks_in kind body) (first_blocks items) (length (flat_map item_bytes (option kind body ∷ items)) + 2)
    (omega (arith, block-room kind body, long))
    (omega (arith, list-room items, long))

-- so do the blocks of a whole area
pub area-room : (area : List ℕ) (o : Options) → HasOptions area o → sack_length o.sack ≤ length area + 2
area-room area o (items, tail, splits, end, is) =
    subst (λ (blocks : List (Num × Num)). sack_length blocks ≤ length area + 2) (sym (ap (λ (options : Options). options.sack) is))
    (omega (arith, list-room items, ap length splits.parts, length-append (flat_map item_bytes items) tail))
