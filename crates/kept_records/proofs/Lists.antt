-- What each entry of a list has, it keeps where entries are moved, dropped or added.
use Rattle.std.proofs.Common.{◌≤◌, length, lit≤, arith, ℕ, zero, suc, Bool, true, false, List, [], ◌∷◌, Option, Some, None}
use Rattle.std.specs.Prelude.{take, if◌then◌else◌}
use Rattle.std.specs.List.{AllByRecursion}
use Rattle.std.specs.Map.{lookup_entry, remove_entry}
use Rattle.std.specs.Option.{option_map_or}
use Rattle.lru.specs.LruCache.{promoted}

module _ {X : Type 0} where
  -- no more are taken than asked for
  pub taken_few : (n : ℕ) (xs : List X) → length (take n xs) ≤ n
  taken_few zero xs = lit≤ tt
  taken_few (suc n) [] = omega arith
  taken_few (suc n) (x ∷ xs) = let few = taken_few n xs in omega (arith, few)

  pub all_take : (P : X → Type 0) (n : ℕ) (xs : List X) → AllByRecursion P xs → AllByRecursion P (take n xs)
  all_take P zero xs all = tt
  all_take P (suc n) [] all = tt
  all_take P (suc n) (x ∷ xs) all = (all.0, all_take P n xs all.1)

module _ {K V : Type 0} (P : K × V → Type 0) (test : K → Bool) where
  pub all_removed : (es : List (K × V)) → AllByRecursion P es → AllByRecursion P (remove_entry test es)
  all_removed [] all = tt
  all_removed (e ∷ es) all = by (test e.0) (all_removed es all.1)
    where
      by : (b : Bool) → AllByRecursion P (remove_entry test es) → AllByRecursion P (if b then es else e ∷ remove_entry test es)
      by true rest = all.1
      by false rest = (all.0, rest)

  abbrev pub IfAny : Option (K × V) → Type 0
  IfAny None = Unit {0}
  IfAny (Some e) = P e

  pub all_looked_up : (es : List (K × V)) → AllByRecursion P es → IfAny (lookup_entry test es)
  all_looked_up [] all = tt
  all_looked_up (e ∷ es) all = by (test e.0) (all_looked_up es all.1)
    where
      by : (b : Bool) → IfAny (lookup_entry test es) → IfAny (if b then Some e else lookup_entry test es)
      by true rest = all.0
      by false rest = rest

  pub all_promoted : (es : List (K × V)) → AllByRecursion P es → AllByRecursion P (promoted test es)
  all_promoted es all = by (lookup_entry test es) (all_looked_up es all)
    where
      by : (o : Option (K × V)) → IfAny o → AllByRecursion P (option_map_or (λ e. e ∷ remove_entry test es) o es)
      by None any = all
      by (Some e) any = (any, all_removed es all)
