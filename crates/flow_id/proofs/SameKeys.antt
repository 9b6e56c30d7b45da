-- Flows and keys that agree in each field are the same, and the derived `==` is that test.
use Rattle.std.proofs.Common.{◌≡◌, ℕ, true, List, [], ◌∷◌, Some, cond, ◌&&◌, refl, ap, ◌∙◌}
use Rattle.std.specs.Prelude.{◌==◌}
use Rattle.std.specs.Map.{lookup, remove_entry}
use Rattle.std.proofs.lemmas.Bool.{eqb-true, eq-eqb, and_parts, and_from}
use Rattle.flow_id.specs.Keys.{same_flow, same_side, same_key}
use Rattle.flow_id.specs.declared.key.Flow.{Flow}
use Rattle.flow_id.specs.declared.key.Side.{Side}
use Rattle.flow_id.specs.declared.key.Side.TheVariants.{Client, Server}
use Rattle.flow_id.specs.declared.key.Key.{Key}
use Rattle.flow_id.specs.declared.key.Key.TheVariants.{Syn, Choice, Port, Open, Fin, Gone}
use Rattle.flow_id.specs.contracts.key.KeyPartialEq.TheImpl.{eq-value}

flow_by_fields : (a b : Flow) → a.service ≡ b.service → a.address ≡ b.address → a.port ≡ b.port → a.life ≡ b.life → a ≡ b
flow_by_fields a b service address port life = λ i. record { service = service i; address = address i; port = port i; life = life i }

pub exact_flow : (a b : Flow) → same_flow a b ≡ true → a ≡ b
exact_flow a b same =
    let one = and_parts (a.service == b.service) (a.address == b.address && (a.port == b.port && a.life == b.life)) same in
    let two = and_parts (a.address == b.address) (a.port == b.port && a.life == b.life) one.1 in
    let three = and_parts (a.port == b.port) (a.life == b.life) two.1 in
    flow_by_fields a b (eqb-true _ _ one.0) (eqb-true _ _ two.0) (eqb-true _ _ three.0) (eqb-true _ _ three.1)

same_number : (n : ℕ) → (n == n) ≡ true
same_number n = eq-eqb n n refl

pub same_flow_itself : (a : Flow) → same_flow a a ≡ true
same_flow_itself a =
    and_from _ _ (same_number a.service) (and_from _ _ (same_number a.address) (and_from _ _ (same_number a.port) (same_number a.life)))

exact_side : (a b : Side) → same_side a b ≡ true → a ≡ b
exact_side Client Client same = refl
exact_side Server Server same = refl
exact_side Client Server same = absurd (cc)
exact_side Server Client same = absurd (cc)

same_side_itself : (a : Side) → same_side a a ≡ true
same_side_itself Client = refl
same_side_itself Server = refl

pub exact_key : (a b : Key) → same_key a b ≡ true → a ≡ b
exact_key (Syn f) (Syn g) same = ap Syn (exact_flow f g same)
exact_key (Choice f) (Choice g) same = ap Choice (exact_flow f g same)
exact_key (Port v s p) (Port w t q) same =
    let one = and_parts (v == w) (s == t && p == q) same in
    let two = and_parts (s == t) (p == q) one.1 in
    let service : v ≡ w = eqb-true _ _ one.0 in
    let server : s ≡ t = eqb-true _ _ two.0 in
    let port : p ≡ q = eqb-true _ _ two.1 in
    cc
exact_key (Open f) (Open g) same = ap Open (exact_flow f g same)
exact_key (Fin f s) (Fin g t) same =
    let both = and_parts (same_flow f g) (same_side s t) same in
    let flow : f ≡ g = exact_flow f g both.0 in
    let side : s ≡ t = exact_side s t both.1 in
    cc
exact_key (Gone f) (Gone g) same = ap Gone (exact_flow f g same)
exact_key _ _ same = absurd (cc)

pub same_key_itself : (a : Key) → same_key a a ≡ true
same_key_itself (Syn f) = same_flow_itself f
same_key_itself (Choice f) = same_flow_itself f
same_key_itself (Port v s p) = and_from _ _ (same_number v) (and_from _ _ (same_number s) (same_number p))
same_key_itself (Open f) = same_flow_itself f
same_key_itself (Fin f s) = and_from _ _ (same_flow_itself f) (same_side_itself s)
same_key_itself (Gone f) = same_flow_itself f

derived_fin : (f g : Flow) (s t : Side) → (eq-value).it (Fin f s) (Fin g t) ≡ same_key (Fin f s) (Fin g t)
derived_fin f g Client Client = refl
derived_fin f g Client Server = refl
derived_fin f g Server Client = refl
derived_fin f g Server Server = refl

-- the derived `==`
pub derived_key : (a b : Key) → (eq-value).it a b ≡ same_key a b
derived_key (Syn f) (Syn g) = refl
derived_key (Choice f) (Choice g) = refl
derived_key (Port v s p) (Port w t q) = refl
derived_key (Open f) (Open g) = refl
derived_key (Fin f s) (Fin g t) = derived_fin f g s t
derived_key (Gone f) (Gone g) = refl
derived_key _ _ = refl

-- so a look-up by `==` is one by the test, and so is a removal
pub lookup_derived : {X : Type 0} (k : Key) (ps : List (Key × X)) → lookup ((eq-value).it k) ps ≡ lookup (same_key k) ps
lookup_derived k [] = refl
lookup_derived k (p ∷ ps) =
    ap (λ b. cond b (Some p.1) (lookup ((eq-value).it k) ps)) (derived_key k p.0) ∙ ap (cond (same_key k p.0) (Some p.1)) (lookup_derived k ps)

pub remove_derived : {X : Type 0} (k : Key) (ps : List (Key × X)) → remove_entry ((eq-value).it k) ps ≡ remove_entry (same_key k) ps
remove_derived k [] = refl
remove_derived k (p ∷ ps) =
    ap (λ b. cond b ps (p ∷ remove_entry ((eq-value).it k) ps)) (derived_key k p.0) ∙ ap (λ rest. cond (same_key k p.0) ps (p ∷ rest)) (remove_derived k ps)
