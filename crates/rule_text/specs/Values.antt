-- What the values of a rules file may be (TOML 1.1): each is judged under the name of its field.
use Rattle.std.specs.Prelude.{ℕ, ℤ, pos, int_le, nat_abs, nat_le, ◌&&◌, List, [], ◌∷◌, length, Option, Some, None, option_map, Result, Ok, Err, if◌then◌else◌}
use Rattle.std.specs.Option.{ok_or, option_and_then}
use Rattle.toml.specs.Data.{Data, as_array, as_integer, as_str, Items, no_items, item, Members, get_member}
use Rattle.rule_text.specs.declared.fault.RuleFault.{RuleFault}
use Rattle.rule_text.specs.declared.fault.RuleFault.TheVariants.{Missing, Form, Range}
use Rattle.rule_text.specs.declared.fault.Place.{Place}
use Rattle.rule_text.specs.Names.{field_name}
use Rattle.rule_text.specs.Steps.{◌>>=◌}

-- what has the form that the field asks for
abbrev pub or_form : {A : Type 0} → Place → List ℕ → Option A → Result A RuleFault
or_form place key o = ok_or o (Form (field_name place key))

-- the value of a field that has to be there, as what this form makes of it
abbrev pub field_at : {A : Type 0} → (Data → Option A) → Place → List ℕ → Members → Result A RuleFault
field_at form place key ms = do
  d ← ok_or (get_member key ms) (Missing (field_name place key))
  or_form place key (form d)

-- a whole number between the limits
abbrev pub whole_within : List ℕ → ℕ → ℕ → ℤ → Result ℕ RuleFault
whole_within name low high z =
    if int_le (pos low) z && int_le z (pos high) then Ok (nat_abs z) else Err (Range name z)

-- the whole number of a field
unfoldable pub whole_at : Place → List ℕ → ℕ → ℕ → Members → Result ℕ RuleFault
whole_at place key low high ms = do
  z ← field_at as_integer place key ms
  whole_within (field_name place key) low high z

-- what the text of a field says
unfoldable pub text_at : {A : Type 0} → (List ℕ → Option A) → Place → List ℕ → Members → Result A RuleFault
text_at reading place key ms = do
  s ← field_at as_str place key ms
  or_form place key (reading s)

abbrev pub list_of : Items → List Data
list_of no_items = []
list_of (item d ds) = d ∷ list_of ds

-- the members of an array, whose number is between the limits
abbrev pub list_within : ℕ → ℕ → Data → Option (List Data)
list_within low high d =
    option_and_then (λ ds. if nat_le low (length ds) && nat_le (length ds) high then Some ds else None) (option_map list_of (as_array d))

-- what all members are in this form, where each has it
abbrev pub all_of : {A B : Type 0} → (A → Option B) → List A → Option (List B)
all_of f [] = Some []
all_of f (x ∷ xs) = option_and_then (λ y. option_map (λ ys. y ∷ ys) (all_of f xs)) (f x)

-- the array of a field, whose members all have this form
unfoldable pub array_at : {A : Type 0} → (Data → Option A) → ℕ → ℕ → Place → List ℕ → Members → Result (List A) RuleFault
array_at form low high place key ms = do
  ds ← field_at (list_within low high) place key ms
  or_form place key (all_of form ds)
