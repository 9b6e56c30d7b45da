-- What each entry of a desk has, it keeps where an entry is used or added; how many entries there are; and an entry that is
-- used is still there.
use Rattle.std.proofs.Common.{◌≡◌, ◌≤◌, suc, Bool, true, false, [], ◌∷◌, length, Option, Some, None, refl, sym, ap, subst}
use Rattle.std.specs.Prelude.{take, if◌then◌else◌}
use Rattle.std.specs.List.{AllByRecursion}
use Rattle.std.specs.Map.{lookup_entry, remove_entry}
use Rattle.std.specs.Option.{is_some, option_map_or}
use Rattle.std.proofs.lemmas.Option.{none-some, same_Some}
use Rattle.flow_id.specs.Keys.{same_flow}
use Rattle.flow_id.specs.declared.key.Flow.{Flow}
use Rattle.kept_records.specs.Entries.{Entries, kept_of, in_front, without}
use Rattle.kept_records.specs.declared.entry.Kept.{Kept}
use Rattle.kept_records.proofs.Lists.{all_take, all_promoted, taken_few}
use Rattle.bench.specs.Bench.{entry_limit, with_entry}

-- ---- what each has
module _ (P : Flow × Kept → Type 0) where
  pub all_in_front : (es : Entries) (flow : Flow) → AllByRecursion P es → AllByRecursion P (in_front es flow)
  all_in_front es flow all = all_promoted P (same_flow flow) es all

  pub all_with_entry : (es : Entries) (flow : Flow) (kept : Kept) → AllByRecursion P es → P (flow, kept) → AllByRecursion P (with_entry es flow kept)
  all_with_entry es flow kept all new = by (is_some (kept_of es flow))
    where
      by : (b : Bool) → AllByRecursion P (if b then es else take entry_limit ((flow, kept) ∷ es))
      by true = all
      by false = all_take P entry_limit ((flow, kept) ∷ es) (new, all)

module _ (flow : Flow) where
  -- the flow's entry in front of the others
  abbrev front : Option (Flow × Kept) → Entries → Entries
  front o es = option_map_or (λ e. e ∷ without es flow) o es

  -- ---- how many there are
  without_length : (es : Entries) (e : Flow × Kept) → lookup_entry (same_flow flow) es ≡ Some e → suc (length (without es flow)) ≡ length es
  without_length [] e is = absurd (none-some e is)
  without_length (f ∷ es) e is = by (same_flow flow f.0) is (without_length es e)
    where
      by : (b : Bool) → (if b then Some f else lookup_entry (same_flow flow) es) ≡ Some e → (lookup_entry (same_flow flow) es ≡ Some e → suc (length (without es flow)) ≡ length es)
          → suc (length (if b then es else f ∷ remove_entry (same_flow flow) es)) ≡ suc (length es)
      by true is rest = refl
      by false is rest = ap suc (rest is)

  in_front_length : (es : Entries) → length (in_front es flow) ≡ length es
  in_front_length es = by (lookup_entry (same_flow flow) es) refl
    where
      by : (o : Option (Flow × Kept)) → lookup_entry (same_flow flow) es ≡ o → length (front o es) ≡ length es
      by None is = refl
      by (Some e) is = without_length es e is

  -- ---- an entry that goes to the front is still there
  is_flows : (es : Entries) (e : Flow × Kept) → lookup_entry (same_flow flow) es ≡ Some e → same_flow flow e.0 ≡ true
  is_flows [] e is = absurd (none-some e is)
  is_flows (f ∷ es) e is = by (same_flow flow f.0) refl is (is_flows es e)
    where
      by : (b : Bool) → same_flow flow f.0 ≡ b → (if b then Some f else lookup_entry (same_flow flow) es) ≡ Some e
          → (lookup_entry (same_flow flow) es ≡ Some e → same_flow flow e.0 ≡ true) → same_flow flow e.0 ≡ true
      by true same is rest = subst (λ (g : Flow × Kept). same_flow flow g.0 ≡ true) (same_Some _ _ is) same
      by false other is rest = rest is

  found : (es : Entries) (kept : Kept) → kept_of es flow ≡ Some kept → is_some (kept_of (in_front es flow) flow) ≡ true
  found es kept has = by (lookup_entry (same_flow flow) es) refl
    where
      by : (o : Option (Flow × Kept)) → lookup_entry (same_flow flow) es ≡ o → is_some (kept_of (front o es) flow) ≡ true
      by None none = ap is_some has
      by (Some e) is = ap (λ b. is_some (if b then Some e.1 else kept_of (without es flow) flow)) (is_flows es e is)

pub found_in_front : (es : Entries) (flow : Flow) (kept : Kept) → kept_of es flow ≡ Some kept → is_some (kept_of (in_front es flow) flow) ≡ true
found_in_front es flow kept has = found flow es kept has

-- ---- no more than at most
pub few_in_front : (es : Entries) (flow : Flow) → length es ≤ entry_limit → length (in_front es flow) ≤ entry_limit
few_in_front es flow few = subst (λ n. n ≤ entry_limit) (sym (in_front_length flow es)) few

pub few_with_entry : (es : Entries) (flow : Flow) (kept : Kept) → length es ≤ entry_limit → length (with_entry es flow kept) ≤ entry_limit
few_with_entry es flow kept few = by (is_some (kept_of es flow))
  where
    by : (b : Bool) → length (if b then es else take entry_limit ((flow, kept) ∷ es)) ≤ entry_limit
    by true = few
    by false = taken_few entry_limit ((flow, kept) ∷ es)
