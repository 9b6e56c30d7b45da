-- The pieces of cookies against the pairs that a head has.
use Rattle.std.proofs.Common.{◌≡◌, ℕ, Bool, true, false, ◌||◌, ◌&&◌, List, [], ◌∷◌, ◌++◌, map, refl, sym, ap, ◌∙◌, ◌+◌, eqb, cond, position, take, drop, Some, None}
use Rattle.std.specs.List.{list_any, slice_split}
use Rattle.std.specs.Str.{bytes_eq}
use Rattle.std.proofs.lemmas.List.Folds.{list_any-append}
use Rattle.httparse.specs.Grammar.{trim_ows}
use Rattle.std.specs.Prelude.{codes}
use Rattle.http_head.proofs.LineLemmas.{parts-first, parts-last}
use Rattle.http_head.specs.Fields.{same_name, has_piece, is_pair_field, pieces_of, cookies_in}

any_map : (pair : List ℕ) (xs : List (List ℕ))
    → list_any (λ piece. bytes_eq (trim_ows piece) pair) xs ≡ list_any (λ piece. bytes_eq piece pair) (map trim_ows xs)
any_map pair [] = refl
any_map pair (x ∷ xs) = ap (λ b. bytes_eq (trim_ows x) pair || b) (any_map pair xs)

-- a pair is a cookie exactly where it is one of the pieces
pub pair_is_piece : (pair : List ℕ) (fields : List (List ℕ × List ℕ))
    → list_any (is_pair_field pair) fields ≡ list_any (λ piece. bytes_eq piece pair) (cookies_in fields)
pair_is_piece pair [] = refl
pair_is_piece pair (f ∷ fields) = by (same_name f.0 (codes "cookie")) (pair_is_piece pair fields)
  where
    rest : List (List ℕ)
    rest = cookies_in fields

    here : has_piece pair f.1 ≡ list_any (λ piece. bytes_eq piece pair) (pieces_of f.1)
    here = any_map pair (slice_split (λ b. eqb b 59) f.1)

    by : (b : Bool) → list_any (is_pair_field pair) fields ≡ list_any (λ piece. bytes_eq piece pair) rest
        → ((b && has_piece pair f.1) || list_any (is_pair_field pair) fields)
        ≡ list_any (λ piece. bytes_eq piece pair) (cond b (pieces_of f.1 ++ rest) rest)
    by true behind =
        ap (λ x. x || list_any (is_pair_field pair) fields) here
        ∙ ap (λ x. list_any (λ piece. bytes_eq piece pair) (pieces_of f.1) || x) behind
        ∙ sym (list_any-append (λ piece. bytes_eq piece pair) (pieces_of f.1) rest)
    by false behind = behind

-- the pieces by the place of the first semicolon
pub pieces_of-first : (value : List ℕ) (end : ℕ) → position (λ b. eqb b 59) value ≡ Some end
    → pieces_of value ≡ trim_ows (take end value) ∷ pieces_of (drop (end + 1) value)
pieces_of-first value end e = ap (map trim_ows) (parts-first 59 value end e)

pub pieces_of-last : (value : List ℕ) → position (λ b. eqb b 59) value ≡ None → pieces_of value ≡ trim_ows value ∷ []
pieces_of-last value e = ap (map trim_ows) (parts-last 59 value e)
