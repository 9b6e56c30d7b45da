-- What the steps through a rules file answer is a setup.
use Rattle.std.proofs.Common.{◌≡◌, ℕ, ℤ, pos, nat_abs, codes, suc, ◌+◌, ◌≤◌, Bool, true, false, ◌&&◌, leb, List, [], ◌∷◌, length, refl, sym, ap, subst, ◌∙◌, inl, inr, cond, arith, All, find, IfSome, IsTrue, Option, Some, None, option_map, Result, Ok, Err}
use Rattle.std.specs.List.{list_any}
use Rattle.std.specs.Option.{is_some, ok_or, option_and_then}
use Rattle.std.specs.Result.{result_ok}
use Rattle.std.specs.Prelude.{int_le, negsuc}
use Rattle.std.proofs.lemmas.Bool.{and_parts, or_parts, leb-true, false≢true}
use Rattle.std.proofs.lemmas.List.Elements.{All-nil, All-cons}
use Rattle.http_head.proofs.CaseLemmas.{cond_is, and_then_is, map_is}
use Rattle.toml.specs.Data.{Data, Members, get_member, as_array, as_integer, as_str, as_table}
use Rattle.hex.specs.Hex.{decode_sized}
use Rattle.hex.specs.declared.error.FromHexError.{FromHexError}
use Rattle.hex.proofs.HexLemmas.{decode_sized-ok, decode_sized-twice, decode_of-ok}
use Rattle.rule_table.specs.Setups.{is_shard_count}
use Rattle.rule_table.specs.declared.types.Sizes.{Sizes}
use Rattle.rule_text.specs.declared.fault.RuleFault.{RuleFault}
use Rattle.rule_text.specs.declared.fault.RuleFault.TheVariants.{Missing}
use Rattle.rule_text.specs.declared.fault.Place.{Place}
use Rattle.rule_text.specs.declared.fault.Place.TheVariants.{Top, Rule}
use Rattle.rule_table.specs.Forms.{is_host, is_path, is_cookie}
use Rattle.rule_text.specs.Names.{field_name}
use Rattle.rule_text.specs.Checks.{unless_any, every}
use Rattle.rule_text.specs.Forms.{is_server_name, kept_if, secret_of}
use Rattle.rule_text.specs.Steps.{◌>>=◌, each}
use Rattle.rule_text.specs.Values.{field_at, whole_within, whole_at, list_of, list_within, array_at, all_of, text_at}
use Rattle.rule_text.specs.Written.{Written, condition_at, weights_at, rule_of, shards_of, sizes_of}

-- ---- what an answer that is there says of how it was made

pub bind_is : {A B : Type 0} (r : Result A RuleFault) (next : A → Result B RuleFault) (b : B) → (r >>= next) ≡ Ok b
    → (a : A) × (r ≡ Ok a) × (next a ≡ Ok b)
bind_is (Ok a) next b e = (a, refl, e)
bind_is (Err fault) next b e = absurd cc

pub ok_is : {A : Type 0} {x y : A} → ◌≡◌ {A = Result A RuleFault} (Ok x) (Ok y) → x ≡ y
ok_is e = cc

test_is : {A : Type 0} (test : Bool) (x y : A) (fault : RuleFault) → cond test (Ok x) (Err fault) ≡ Ok y → (test ≡ true) × (x ≡ y)
test_is true x y fault e = (refl, cc)
test_is false x y fault e = absurd cc

or_is : {A : Type 0} (o : Option A) (fault : RuleFault) (a : A) → ok_or o fault ≡ Ok a → o ≡ Some a
or_is None fault a e = absurd cc
or_is (Some x) fault a e = cc

-- ---- numbers

limits_from_tests : (low high : ℕ) (z : ℤ) → (int_le (pos low) z && int_le z (pos high)) ≡ true
    → (low ≤ nat_abs z) × (nat_abs z ≤ high)
limits_from_tests low high (pos k) both =
    let parts = and_parts (int_le (pos low) (pos k)) (int_le (pos k) (pos high)) both in
    (leb-true low k parts.0, leb-true k high parts.1)
limits_from_tests low high (negsuc k) both = absurd (false≢true (and_parts (int_le (pos low) (negsuc k)) (int_le (negsuc k) (pos high)) both).0)

whole_within_limits : (name : List ℕ) (low high : ℕ) (z : ℤ) (n : ℕ) → whole_within name low high z ≡ Ok n → (low ≤ n) × (n ≤ high)
whole_within_limits name low high z n e =
    let test = test_is (int_le (pos low) z && int_le z (pos high)) (nat_abs z) n _ e in
    subst (λ m. (low ≤ m) × (m ≤ high)) test.1 (limits_from_tests low high z test.0)

whole_at_limits : (place : Place) (key : List ℕ) (low high : ℕ) (ms : Members) (n : ℕ) → whole_at place key low high ms ≡ Ok n
    → (low ≤ n) × (n ≤ high)
unfolding whole_at
whole_at_limits place key low high ms n e =
    let value = bind_is (field_at as_integer place key ms) _ n e in
    whole_within_limits _ low high value.0 n value.2

-- ---- sizes

-- what holds of the sizes
pub record AreSizes (sizes : Sizes) : Type 0 where
  pub instances : (1 ≤ sizes.instances) × (sizes.instances ≤ 16)
  pub replicas : (1 ≤ sizes.replicas) × (sizes.replicas ≤ 8)
  pub copies : (1 ≤ sizes.copies) × (sizes.copies ≤ sizes.replicas)
  pub shards : IsTrue (is_shard_count sizes.shards)
  pub secret : length sizes.secret ≡ 32

shards_hold : (ms : Members) (n : ℕ) → shards_of ms ≡ Ok n → IsTrue (is_shard_count n)
unfolding shards_of
shards_hold ms n e =
    let number = bind_is (whole_at Top (codes "shards") 1 64 ms) _ n e in
    let test = test_is (is_shard_count number.0) number.0 n _ number.2 in
    ap is_shard_count (sym test.1) ∙ test.0

decoded_is : (r : Result (List ℕ) FromHexError) (bytes : List ℕ) → result_ok r ≡ Some bytes → r ≡ Ok bytes
decoded_is (Ok bytes) other e = cc
decoded_is (Err fault) other e = absurd cc

secret_holds : (ms : Members) (secret : List ℕ) → text_at secret_of Top (codes "secret") ms ≡ Ok secret → length secret ≡ 32
unfolding text_at secret_of
secret_holds ms secret e =
    let text = bind_is (field_at as_str Top (codes "secret") ms) _ secret e in
    let some = or_is (secret_of text.0) _ secret text.2 in
    let decodes = decoded_is (decode_sized text.0 32) secret some in
    let long = decode_sized-ok text.0 32 secret decodes in
    let twice = decode_of-ok text.0 secret (sym (decode_sized-twice text.0 32 long) ∙ decodes) in
    omega (arith, long, twice.2)

pub sizes_hold : (ms : Members) (sizes : Sizes) → sizes_of ms ≡ Ok sizes → AreSizes sizes
unfolding sizes_of
sizes_hold ms sizes e =
    let instances = bind_is (whole_at Top (codes "instances") 1 16 ms) _ sizes e in
    let replicas = bind_is (whole_at Top (codes "replicas") 1 8 ms) _ sizes instances.2 in
    let copies = bind_is (whole_at Top (codes "copies") 1 replicas.0 ms) _ sizes replicas.2 in
    let shards = bind_is (shards_of ms) _ sizes copies.2 in
    let secret = bind_is (text_at secret_of Top (codes "secret") ms) _ sizes shards.2 in
    subst AreSizes (ok_is secret.2) (record {
      instances = whole_at_limits Top _ 1 16 ms instances.0 instances.1;
      replicas = whole_at_limits Top _ 1 8 ms replicas.0 replicas.1;
      copies = whole_at_limits Top _ 1 replicas.0 ms copies.0 copies.1;
      shards = shards_hold ms shards.0 shards.1;
      secret = secret_holds ms secret.0 secret.1;
    })

-- ---- arrays

list_within_limits : (low high : ℕ) (d : Data) (ds : List Data) → list_within low high d ≡ Some ds → (low ≤ length ds) × (length ds ≤ high)
list_within_limits low high d ds e =
    let found = and_then_is _ (option_map list_of (as_array d)) ds e in
    elim (cond_is (leb low (length found.0) && leb (length found.0) high) (Some found.0) None (Some ds) found.2) [
      | inl fits ↦
          let parts = and_parts (leb low (length found.0)) (leb (length found.0) high) fits.0 in
          let same : found.0 ≡ ds = let some = fits.1 in cc in
          subst (λ xs. (low ≤ length xs) × (length xs ≤ high)) same (leb-true _ _ parts.0, leb-true _ _ parts.1)
      | inr other ↦ absurd (let none = other.1 in cc)
    ]

length-all_of : {A B : Type 0} (f : A → Option B) (xs : List A) (ys : List B) → all_of f xs ≡ Some ys → length ys ≡ length xs
length-all_of f [] ys e = let same : [] ≡ ys = cc in sym (ap length same)
length-all_of f (x ∷ xs) ys e =
    let first = and_then_is _ (f x) ys e in
    let rest = map_is (λ zs. first.0 ∷ zs) (all_of f xs) ys first.2 in
    let more = length-all_of f xs rest.0 rest.1 in
    sym (ap length rest.2) ∙ ap suc more

pub tables_at_limits : (key : List ℕ) (ms : Members) (tables : List Members) → array_at as_table 1 256 Top key ms ≡ Ok tables
    → (1 ≤ length tables) × (length tables ≤ 256)
unfolding array_at
tables_at_limits key ms tables e =
    let found = bind_is (field_at (list_within 1 256) Top key ms) _ tables e in
    let same = length-all_of as_table found.0 tables (or_is (all_of as_table found.0) _ tables found.2) in
    let value = bind_is (ok_or (get_member key ms) (Missing (field_name Top key))) _ found.0 found.1 in
    let limits = list_within_limits 1 256 value.0 found.0 (or_is (list_within 1 256 value.0) _ found.0 value.2) in
    (omega arith, omega arith)

-- ---- each member

-- what holds of every answer of a step holds of all of them
pub each_all : {A B : Type 0} (P : B → Type 0) (step : ℕ → A → Result B RuleFault)
    → ((n : ℕ) (x : A) (y : B) → step n x ≡ Ok y → P y)
    → (n : ℕ) (xs : List A) (ys : List B) → each step n xs ≡ Ok ys → All P ys
each_all P step holds n [] ys e = subst (All P) (ok_is e) (All-nil P)
each_all P step holds n (x ∷ xs) ys e =
    let first = bind_is (step n x) _ ys e in
    let rest = bind_is (each step (n + 1) xs) _ ys first.2 in
    subst (All P) (ok_is rest.2)
    (All-cons P first.0 rest.0 (holds n x first.0 first.1) (each_all P step holds (n + 1) xs rest.0 rest.1))

pub length-each : {A B : Type 0} (step : ℕ → A → Result B RuleFault) (n : ℕ) (xs : List A) (ys : List B) → each step n xs ≡ Ok ys
    → length ys ≡ length xs
length-each step n [] ys e = sym (ap length (ok_is e))
length-each step n (x ∷ xs) ys e =
    let first = bind_is (step n x) _ ys e in
    let rest = bind_is (each step (n + 1) xs) _ ys first.2 in
    sym (ap length (ok_is rest.2)) ∙ ap suc (length-each step (n + 1) xs rest.0 rest.1)

-- ---- conditions

kept_is : (test : List ℕ → Bool) (s t : List ℕ) → kept_if test s ≡ Some t → IsTrue (test t)
kept_is test s t e =
    elim (cond_is (test s) (Some s) None (Some t) e) [
      | inl holds ↦ let same : s ≡ t = let some = holds.1 in cc in subst (λ x. IsTrue (test x)) same holds.0
      | inr other ↦ absurd (let none = other.1 in cc)
    ]

condition_holds : (test : List ℕ → Bool) (place : Place) (key : List ℕ) (ms : Members) (o : Option (List ℕ))
    → condition_at test place key ms ≡ Ok o → IfSome o (λ t. IsTrue (test t))
unfolding condition_at text_at
condition_holds test place key ms o e =
    elim (cond_is (is_some (get_member key ms)) (text_at (kept_if test) place key ms >>= λ s. Ok (Some s)) (Ok None) (Ok o) e) [
      | inl there ↦
          let text = bind_is (text_at (kept_if test) place key ms) _ o there.1 in
          let s = bind_is (field_at as_str place key ms) _ text.0 text.1 in
          let kept = kept_is test s.0 text.0 (or_is (kept_if test s.0) _ text.0 s.2) in
          subst (λ p. IfSome p (λ t. IsTrue (test t))) (ok_is text.2) kept
      | inr absent ↦ subst (λ p. IfSome p (λ t. IsTrue (test t))) (ok_is absent.1) tt
    ]

-- the conditions of a written rule have their forms
pub record HasForms (w : Written) : Type 0 where
  pub host : IfSome w.host (λ t. IsTrue (is_host t))
  pub path : IfSome w.path (λ t. IsTrue (is_path t))
  pub cookie : IfSome w.cookie (λ t. IsTrue (is_cookie t))

pub rule_has_forms : (n : ℕ) (ms : Members) (w : Written) → rule_of n ms ≡ Ok w → HasForms w
unfolding rule_of
rule_has_forms n ms w e =
    let to = bind_is (array_at (λ d. option_and_then (kept_if is_server_name) (as_str d)) 1 256 (Rule n) (codes "to") ms) _ w e in
    let weights = bind_is (weights_at (Rule n) (length to.0) ms) _ w to.2 in
    let host = bind_is (condition_at is_host (Rule n) (codes "host") ms) _ w weights.2 in
    let path = bind_is (condition_at is_path (Rule n) (codes "path") ms) _ w host.2 in
    let cookie = bind_is (condition_at is_cookie (Rule n) (codes "cookie") ms) _ w path.2 in
    subst HasForms (ok_is cookie.2) (record {
      host = condition_holds is_host (Rule n) (codes "host") ms host.0 host.1;
      path = condition_holds is_path (Rule n) (codes "path") ms path.0 path.1;
      cookie = condition_holds is_cookie (Rule n) (codes "cookie") ms cookie.0 cookie.1;
    })

-- ---- checks that passed

pub unless_any_is : {A : Type 0} (fault : A → RuleFault) (o : Option A) → unless_any fault o ≡ Ok tt → o ≡ None
unless_any_is fault None e = refl
unless_any_is fault (Some a) e = absurd cc

pub every_all : {A : Type 0} (P : A → Type 0) (check : ℕ → A → Result (Unit {0}) RuleFault)
    → ((n : ℕ) (x : A) → check n x ≡ Ok tt → P x) → (n : ℕ) (xs : List A) → every check n xs ≡ Ok tt → All P xs
every_all P check holds n [] e = All-nil P
every_all P check holds n (x ∷ xs) e =
    let first = bind_is (check n x) _ tt e in
    All-cons P x xs (holds n x first.1) (every_all P check holds (n + 1) xs first.2)

pub find_none : {A : Type 0} (p : A → Bool) (xs : List A) → find p xs ≡ None → All (λ x. p x ≡ false) xs
find_none p [] e = All-nil (λ x. p x ≡ false)
find_none p (x ∷ xs) e =
    elim (cond_is (p x) (Some x) (find p xs) None e) [
      | inl found ↦ absurd cc
      | inr other ↦ All-cons (λ x. p x ≡ false) x xs other.0 (find_none p xs other.1)
    ]

pub list_any_false : {A : Type 0} (p : A → Bool) (xs : List A) → list_any p xs ≡ false → All (λ x. p x ≡ false) xs
list_any_false p [] e = All-nil (λ x. p x ≡ false)
list_any_false p (x ∷ xs) e =
    let parts = or_parts (p x) (list_any p xs) e in
    All-cons (λ x. p x ≡ false) x xs parts.0 (list_any_false p xs parts.1)
