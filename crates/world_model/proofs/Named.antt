-- What is found by the names beside a list is what a search of the list finds.
use Rattle.std.proofs.Common.{◌≡◌, ℕ, zero, suc, ◌+◌, ◌<◌, Bool, true, false, Option, Some, None, List, [], ◌∷◌, ◌++◌, length, map, refl, sym, ◌∙◌, ap, subst}
use Rattle.std.specs.Prelude.{Result, Ok, Err, OnOk, OnErr, ◌==◌, ◌&&◌, ◌||◌, not, cond, find, position, slice_get, slice_set, nat_lt, IfSome, is_some, if◌then◌else◌}
use Rattle.std.specs.List.{list_any, position_or_len}
use Rattle.std.proofs.lemmas.Bool.{eqb-true, eq-eqb, false≢true, ltb-true, ltb-false}
use Rattle.std.proofs.lemmas.List.{map-append}
use Rattle.flow_id.specs.declared.key.Flow.{Flow}
use Rattle.indexmap.specs.IndexSet.{insert_key}
use Rattle.tcp_end.specs.EndState.{EndState}
use Rattle.world_model.specs.Names.{end_name, is_at}
use Rattle.world_model.specs.Placed.{is_of}
use Rattle.world_model.specs.World.{AreApart}
use Rattle.world_model.specs.World.{ServerEnd, is_end, with_server_end}
use Rattle.world_model.specs.declared.client.ClientSpec.{ClientSpec}
use Rattle.world_model.specs.declared.server_ends.EndName.{EndName}
use Rattle.world_model.proofs.Ends.{found_passes}
use Rattle.world_model.proofs.Swaps.{set_named}
use Rattle.world_model.proofs.Writing.{got_within}
use Rattle.std.proofs.lemmas.List.Folds.{find_at, list_any-append}
use Rattle.std.proofs.lemmas.Option.{none-some, same_Some, slice_get_past}

-- ---- equal the other way round
pub turned : (a b : ℕ) → (a == b) ≡ (b == a)
turned a b = by (a == b) (b == a) refl refl
  where
    by : (x y : Bool) → (a == b) ≡ x → (b == a) ≡ y → x ≡ y
    by true true one two = refl
    by false false one two = refl
    by true false one two = absurd (false≢true (sym two ∙ eq-eqb b a (sym (eqb-true a b one))))
    by false true one two = absurd (false≢true (sym one ∙ eq-eqb a b (sym (eqb-true b a two))))

pub both_turned : (a b c d : ℕ) → (a == b && c == d) ≡ (b == a && d == c)
both_turned a b c d = ap (λ x. x && c == d) (turned a b) ∙ ap (λ y. b == a && y) (turned c d)

-- ---- the names of a list's members, at the same places
module _ {X N : Type 0} (name : X → N) (has : N → Bool) (own : X → Bool) (same : (x : X) → has (name x) ≡ own x) where
  first_same : (xs : List X) → position_or_len has (map name xs) ≡ position_or_len own xs
  first_same [] = refl
  first_same (x ∷ xs) = ap (λ b. cond (not b) (1 + position_or_len has (map name xs)) 0) (same x) ∙ ap (λ n. cond (not (own x)) (1 + n) 0) (first_same xs)

  lengths : (xs : List X) → length (map name xs) ≡ length xs
  lengths [] = refl
  lengths (x ∷ xs) = ap (λ (n : ℕ). suc n) (lengths xs)

  place_same : (xs : List X) → position has (map name xs) ≡ position own xs
  place_same xs = ap (λ n. cond (nat_lt n (length (map name xs))) (Some n) None) (first_same xs) ∙ ap (λ m. cond (nat_lt (position_or_len own xs) m) (Some (position_or_len own xs)) None) (lengths xs)

  pub any_same : (xs : List X) → list_any has (map name xs) ≡ list_any own xs
  any_same [] = refl
  any_same (x ∷ xs) = ap (λ b. b || list_any has (map name xs)) (same x) ∙ ap (λ b. own x || b) (any_same xs)

  pub found_there : (xs : List X) (names : List N) (o : Option ℕ) → names ≡ map name xs → o ≡ position has names → IfSome o (λ i. slice_get xs i ≡ find own xs)
  found_there xs names o are is = by (nat_lt (position_or_len own xs) (length xs)) o (is ∙ ap (position has) are ∙ place_same xs)
    where
      by : (b : Bool) (o : Option ℕ) → o ≡ cond b (Some (position_or_len own xs)) None → IfSome o (λ i. slice_get xs i ≡ find own xs)
      by b None is = tt
      by true (Some i) is = ap (slice_get xs) (same_Some i (position_or_len own xs) is) ∙ sym (find_at own xs)
      by false (Some i) is = absurd (none-some i (sym is))

  pub within_there : (xs : List X) (names : List N) (o : Option ℕ) → names ≡ map name xs → o ≡ position has names → IfSome o (λ i. i < length xs)
  within_there xs names o are is = by (nat_lt (position_or_len own xs) (length xs)) refl o (is ∙ ap (position has) are ∙ place_same xs)
    where
      by : (b : Bool) → nat_lt (position_or_len own xs) (length xs) ≡ b → (o : Option ℕ) → o ≡ cond b (Some (position_or_len own xs)) None → IfSome o (λ i. i < length xs)
      by b test None is = tt
      by true test (Some i) is = subst (λ (n : ℕ). n < length xs) (sym (same_Some i (position_or_len own xs) is)) (ltb-true (position_or_len own xs) (length xs) test)
      by false test (Some i) is = absurd (none-some i (sym is))

  pub none_there : (xs : List X) (names : List N) → names ≡ map name xs → position has names ≡ None → find own xs ≡ None
  none_there xs names are is = by (nat_lt (position_or_len own xs) (length xs)) refl (sym (ap (position has) are ∙ place_same xs) ∙ is)
    where
      by : (b : Bool) → nat_lt (position_or_len own xs) (length xs) ≡ b → cond b (Some (position_or_len own xs)) None ≡ None → find own xs ≡ None
      by true test is = absurd (none-some (position_or_len own xs) (sym is))
      by false test is = find_at own xs ∙ slice_get_past xs (position_or_len own xs) (ltb-false (position_or_len own xs) (length xs) test)

  -- a member whose name is not there yet
  none_any : (xs : List X) → find own xs ≡ None → list_any own xs ≡ false
  none_any [] is = refl
  none_any (x ∷ xs) is = by (own x) is (none_any xs)
    where
      by : (b : Bool) → cond b (Some x) (find own xs) ≡ None → (find own xs ≡ None → list_any own xs ≡ false) → (b || list_any own xs) ≡ false
      by true is rest = absurd (none-some x (sym is))
      by false is rest = rest is

  -- one member more, of a name that is not there yet
  module _ (eq : N → N → Bool) (x : X) (mine : (n : N) → eq (name x) n ≡ has n) where
    mine_any : (names : List N) → list_any (eq (name x)) names ≡ list_any has names
    mine_any [] = refl
    mine_any (n ∷ names) = ap (λ b. b || list_any (eq (name x)) names) (mine n) ∙ ap (λ b. has n || b) (mine_any names)

    pub named_more : (xs : List X) (names after : List N) → names ≡ map name xs → find own xs ≡ None → after ≡ insert_key eq names (name x) → after ≡ map name (xs ++ x ∷ [])
    named_more xs names after are none is =
        let lacks : list_any (eq (name x)) names ≡ false = mine_any names ∙ ap (list_any has) are ∙ any_same xs ∙ none_any xs none in
        is ∙ ap (λ (b : Bool). if b then names else names ++ name x ∷ []) lacks ∙ ap (λ ns. ns ++ name x ∷ []) are ∙ sym (map-append name xs (x ∷ []))

-- ---- a set of names
or_false : (b : Bool) → (b || false) ≡ b
or_false true = refl
or_false false = refl

or_true : (b : Bool) → (b || true) ≡ true
or_true true = refl
or_true false = refl

module _ {N : Type 0} (eq : N → N → Bool) (exact : (k n : N) → eq k n ≡ true → k ≡ n) (test : N → Bool) where
  passes_too : (k : N) (names : List N) → list_any (eq k) names ≡ true → test k ≡ true → list_any test names ≡ true
  passes_too k [] is passes = is
  passes_too k (n ∷ names) is passes = by (eq k n) refl is (λ rest. passes_too k names rest passes)
    where
      by : (b : Bool) → eq k n ≡ b → (b || list_any (eq k) names) ≡ true → (list_any (eq k) names ≡ true → list_any test names ≡ true) → (test n || list_any test names) ≡ true
      by true here is rest = ap (λ b. b || list_any test names) (ap test (sym (exact k n here)) ∙ passes)
      by false here is rest = ap (λ b. test n || b) (rest is) ∙ or_true (test n)

  -- a name more
  pub inserted_any : (names : List N) (k : N) → list_any test (insert_key eq names k) ≡ (list_any test names || test k)
  inserted_any names k = by (list_any (eq k) names) refl
    where
      there : (b : Bool) → test k ≡ b → list_any (eq k) names ≡ true → list_any test names ≡ (list_any test names || b)
      there true passes is = let all = passes_too k names is passes in all ∙ ap (λ b. b || true) (sym all)
      there false passes is = sym (or_false (list_any test names))

      by : (b : Bool) → list_any (eq k) names ≡ b → list_any test (if b then names else names ++ k ∷ []) ≡ (list_any test names || test k)
      by true is = there (test k) refl is
      by false is = list_any-append test names (k ∷ []) ∙ ap (λ b. list_any test names || b) (or_false (test k))

-- ---- a member of the same name in the place of another
module _ {X N : Type 0} (name : X → N) where
  set_names : (xs : List X) (k : ℕ) (x y : X) → slice_get xs k ≡ Some x → name y ≡ name x → map name (slice_set xs k y) ≡ map name xs
  set_names [] k x y is same = refl
  set_names (z ∷ xs) zero x y is same = ap (λ n. n ∷ map name xs) (same ∙ ap name (sym (same_Some z x is)))
  set_names (z ∷ xs) (suc k) x y is same = ap (λ ns. name z ∷ ns) (set_names xs k x y is same)

  pub names_kept : (xs after : List X) (names : List N) (k : ℕ) (x y : X) → names ≡ map name xs → slice_get xs k ≡ Some x → name y ≡ name x → after ≡ slice_set xs k y → names ≡ map name after
  names_kept xs after names k x y are is same set = are ∙ sym (set_names xs k x y is same) ∙ ap (map name) (sym set)

-- ---- the client of a flow
is_none_of : {X : Type 0} (test : X → Bool) → ((x : X) → test x ≡ false) → (xs : List X) → false ≡ is_some (find test xs)
is_none_of test none [] = refl
is_none_of test none (x ∷ xs) = is_none_of test none xs ∙ ap (λ (b : Bool). is_some (cond b (Some x) (find test xs))) (sym (none x))

is_any_of : {X : Type 0} (test same : X → Bool) → ((x : X) → test x ≡ same x) → (xs : List X) → list_any same xs ≡ is_some (find test xs)
is_any_of test same are [] = refl
is_any_of test same are (x ∷ xs) = by (same x) (is_any_of test same are xs) ∙ ap (λ (b : Bool). is_some (cond b (Some x) (find test xs))) (sym (are x))
  where
    by : (b : Bool) → list_any same xs ≡ is_some (find test xs) → (b || list_any same xs) ≡ is_some (cond b (Some x) (find test xs))
    by true rest = refl
    by false rest = rest

differ : (a b : ℕ) → (a ≡ b → ⊥) → (a == b) ≡ false
differ a b other = by (a == b) refl
  where
    by : (x : Bool) → (a == b) ≡ x → x ≡ false
    by true same = absurd (other (eqb-true a b same))
    by false same = refl

and_false : (b : Bool) → (b && false) ≡ false
and_false true = refl
and_false false = refl

and_true : (b : Bool) → (b && true) ≡ b
and_true true = refl
and_true false = refl

module _ (service : ℕ) (flow : Flow) (clients : List ClientSpec) where
  pub other_service : (service ≡ flow.service → ⊥) → false ≡ is_some (find (is_of service flow) clients)
  other_service other = is_none_of (is_of service flow) (λ x. ap (λ (b : Bool). b && (x.address == flow.address && (x.port == flow.port && 0 == flow.life))) (differ service flow.service other)) clients

  pub other_life : (flow.life ≡ 0 → ⊥) → false ≡ is_some (find (is_of service flow) clients)
  other_life other =
      is_none_of (is_of service flow)
      (λ x. ap (λ (b : Bool). service == flow.service && (x.address == flow.address && (x.port == flow.port && b))) (differ 0 flow.life (λ e. other (sym e)))
      ∙ ap (λ (b : Bool). service == flow.service && (x.address == flow.address && b)) (and_false (x.port == flow.port))
      ∙ ap (λ (b : Bool). service == flow.service && b) (and_false (x.address == flow.address)) ∙ and_false (service == flow.service))
      clients

  pub same_client : service ≡ flow.service → flow.life ≡ 0 → list_any (is_at flow.address flow.port) clients ≡ is_some (find (is_of service flow) clients)
  same_client own first =
      is_any_of (is_of service flow) (is_at flow.address flow.port)
      (λ x. ap (λ (b : Bool). b && (x.address == flow.address && (x.port == flow.port && 0 == flow.life))) (eq-eqb service flow.service own)
      ∙ ap (λ (b : Bool). x.address == flow.address && (x.port == flow.port && b)) (eq-eqb 0 flow.life (sym first))
      ∙ ap (λ (b : Bool). x.address == flow.address && b) (and_true (x.port == flow.port)))
      clients

-- ---- the end of a server towards a port gets another state
-- whatever came of a call
pub either_way : {A E P Q R : Type 0} (r : Result A E) → OnOk r P → OnErr r Q → (P → R) → (Q → R) → R
either_way (Ok a) ok err f g = f ok
either_way (Err e) ok err f g = g err

-- `servers` is the list as contracts see it, `ends` the list as it stands, in which that at this place has changed
module _ (v p : ℕ) (servers ends after : List ServerEnd) (place : ℕ) (f : ServerEnd → EndState) (are : ends ≡ servers)
    (set : (s : ServerEnd) → slice_get ends place ≡ Some s → after ≡ slice_set ends place (record s { state = f s })) where
  pub put_named : AreApart servers → slice_get servers place ≡ find (is_end v p) servers → (s : ServerEnd) → find (is_end v p) servers ≡ Some s → after ≡ with_server_end servers v p (f s)
  put_named apart found s is =
      let here = found ∙ is in
      set s (ap (λ xs. slice_get xs place) are ∙ here) ∙ ap (λ xs. slice_set xs place (record s { state = f s })) are
      ∙ set_named v p (f s) servers place s apart here (found_passes (is_end v p) servers s is)

  pub put_names : (names : List EndName) → names ≡ map end_name ends → place < length servers → names ≡ map end_name after
  put_names names named within =
      let it = got_within ends place (subst (λ (xs : List ServerEnd). place < length xs) (sym are) within) in
      names_kept end_name ends after names place it.0 (record it.0 { state = f it.0 }) named it.1 refl (set it.0 it.1)
