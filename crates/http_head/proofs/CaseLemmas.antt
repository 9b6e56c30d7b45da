-- What an answer that is there says of how it was made.
use Rattle.std.proofs.Common.{◌≡◌, Bool, true, false, refl, ◌⊎◌, inl, inr, cond, Option, Some, None, option_map}
use Rattle.std.specs.Option.{option_and_then}

-- which of two cases a choice was
pub cond_is : {A : Type 0} (b : Bool) (x y z : A) → cond b x y ≡ z → ((b ≡ true) × (x ≡ z)) ⊎ ((b ≡ false) × (y ≡ z))
cond_is true x y z e = inl (refl, e)
cond_is false x y z e = inr (refl, e)

pub some_is : {A : Type 0} (b : Bool) (o : Option A) (a : A) → cond b o None ≡ Some a → (b ≡ true) × (o ≡ Some a)
some_is true o a e = (refl, e)
some_is false o a e = absurd cc

pub and_then_is : {A B : Type 0} (k : A → Option B) (o : Option A) (b : B) → option_and_then k o ≡ Some b
    → (a : A) × (o ≡ Some a) × (k a ≡ Some b)
and_then_is k None b e = absurd cc
and_then_is k (Some a) b e = (a, refl, e)

pub map_is : {A B : Type 0} (k : A → B) (o : Option A) (b : B) → option_map k o ≡ Some b → (a : A) × (o ≡ Some a) × (k a ≡ b)
map_is k None b e = absurd cc
map_is k (Some a) b e = (a, refl, cc)
