-- The members of an array and the keys of a table as lists.
use Rattle.std.proofs.Common.{◌≡◌, List, [], ◌∷◌, map, refl, sym, ap, ◌∙◌, Option, Some, None, option_map, string_bytes, Bor, String, Vec, Global}
use Rattle.toml.specs.Data.{Items}
use Rattle.toml.specs.View.{view, items_view, array_view, members_view}
use Rattle.toml.specs.declared.value.Value.{Value}
use Rattle.rule_text.specs.Values.{list_of}
use Rattle.rule_text.specs.Checks.{keys_of}

pub list_of-items_view : (values : List Value) → list_of (items_view values) ≡ map view values
list_of-items_view [] = refl
list_of-items_view (v ∷ values) = ap (λ ds. view v ∷ ds) (list_of-items_view values)

pub array_of-view : (r : Option (Bor (Vec Value Global))) (d : Option Items) → option_map (λ a. array_view a.now) r ≡ d
    → option_map (λ a. map view a.now.items) r ≡ option_map list_of d
array_of-view None d e = ap (option_map list_of) e
array_of-view (Some a) d e = ap Some (sym (list_of-items_view a.now.items)) ∙ ap (option_map list_of) e

pub keys_of-view : (entries : List (String Global × Value)) → keys_of (members_view entries) ≡ map string_bytes (map (λ e. e.0) entries)
keys_of-view [] = refl
keys_of-view (e ∷ entries) = ap (λ ks. string_bytes e.0 ∷ ks) (keys_of-view entries)
