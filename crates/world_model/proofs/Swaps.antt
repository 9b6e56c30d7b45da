-- An end takes the place of another.
use Rattle.std.proofs.Common.{◌≡◌, ℕ, zero, suc, Bool, true, false, Option, Some, None, List, [], ◌∷◌, drop, refl, sym, ◌∙◌, ap, subst}
use Rattle.world_model.specs.declared.at.At.{At}
use Rattle.world_model.specs.declared.at.At.TheVariants.{Client, Server}
use Rattle.std.specs.Prelude.{slice_get, slice_set, find, cond, is_some, option_map, option_and_then, if◌then◌else◌}
use Rattle.std.proofs.lemmas.Option.{none-some, same_Some}
use Rattle.tcp_end.specs.EndState.{EndState, closed_end, written_more}
use Rattle.world_model.specs.Events.{closes, writes}
use Rattle.world_model.specs.Shape.{HasShape}
use Rattle.world_model.specs.After.{after, changed_by, changed}
use Rattle.world_model.specs.World.{World, ServerEnd, AreApart, is_end, end_at, with_end, with_server_end}
use Rattle.world_model.proofs.Calling.{own_place}
use Rattle.world_model.proofs.Writing.{get_within}
use Rattle.world_model.proofs.Ends.{end_names, found_changed}

-- ---- clients
pub set_twice : {X : Type 0} (xs : List X) (k : ℕ) (x y : X) → slice_set (slice_set xs k x) k y ≡ slice_set xs k y
set_twice [] k x y = refl
set_twice (z ∷ xs) zero x y = refl
set_twice (z ∷ xs) (suc k) x y = ap (λ zs. z ∷ zs) (set_twice xs k x y)

pub set_same : {X : Type 0} (xs : List X) (k : ℕ) (x : X) → slice_get xs k ≡ Some x → slice_set xs k x ≡ xs
set_same [] k x is = refl
set_same (y ∷ xs) zero x is = ap (λ z. z ∷ xs) (sym (same_Some y x is))
set_same (y ∷ xs) (suc k) x is = ap (λ zs. y ∷ zs) (set_same xs k x is)

-- ---- servers
abbrev changed_at : ℕ → ℕ → EndState → ServerEnd → ServerEnd
changed_at v p e s = if is_end v p s then record s { state = e } else s

none_changes : (v p : ℕ) (e : EndState) (servers : List ServerEnd) → find (is_end v p) servers ≡ None → with_server_end servers v p e ≡ servers
none_changes v p e [] is = refl
none_changes v p e (t ∷ servers) is = by (is_end v p t) is (none_changes v p e servers)
  where
    by : (b : Bool) → cond b (Some t) (find (is_end v p) servers) ≡ None → (find (is_end v p) servers ≡ None → with_server_end servers v p e ≡ servers)
        → (if b then record t { state = e } else t) ∷ with_server_end servers v p e ≡ t ∷ servers
    by true is rest = absurd (none-some t (sym is))
    by false is rest = ap (λ xs. t ∷ xs) (rest is)

none_named : (v p : ℕ) (servers : List ServerEnd) (i : ℕ) (s : ServerEnd) → slice_get servers i ≡ Some s → is_end v p s ≡ true → find (is_end v p) servers ≡ None → ⊥
none_named v p [] i s at named none = none-some s at
none_named v p (t ∷ servers) zero s at named none = by (is_end v p t) (ap (is_end v p) (same_Some t s at) ∙ named) none
  where
    by : (b : Bool) → b ≡ true → cond b (Some t) (find (is_end v p) servers) ≡ None → ⊥
    by true is none = none-some t (sym none)
    by false is none = absurd (cc)
none_named v p (t ∷ servers) (suc i) s at named none = by (is_end v p t) none (none_named v p servers i s at named)
  where
    by : (b : Bool) → cond b (Some t) (find (is_end v p) servers) ≡ None → (find (is_end v p) servers ≡ None → ⊥) → ⊥
    by true none rest = none-some t (sym none)
    by false none rest = rest none

-- where no two are named alike, the named one alone changes
pub set_named : (v p : ℕ) (e : EndState) (servers : List ServerEnd) (i : ℕ) (s : ServerEnd) → AreApart servers → slice_get servers i ≡ Some s → is_end v p s ≡ true
    → slice_set servers i (record s { state = e }) ≡ with_server_end servers v p e
set_named v p e [] i s apart at named = absurd (none-some s at)
set_named v p e (t ∷ servers) zero s apart at named =
    let same : t ≡ s = same_Some t s at in
    let mine : is_end v p t ≡ true = ap (is_end v p) same ∙ named in
    let names = end_names v p t mine in
    let none : find (is_end v p) servers ≡ None = subst (λ x. find (is_end x p) servers ≡ None) names.0 (subst (λ y. find (is_end t.server y) servers ≡ None) names.1 apart.0) in
    by (is_end v p t) mine same none
  where
    by : (b : Bool) → b ≡ true → t ≡ s → find (is_end v p) servers ≡ None → record s { state = e } ∷ servers ≡ (if b then record t { state = e } else t) ∷ with_server_end servers v p e
    by true is same none = ap (λ (x : ServerEnd). record x { state = e } ∷ servers) (sym same) ∙ ap (λ xs. record t { state = e } ∷ xs) (sym (none_changes v p e servers none))
    by false is same none = absurd (cc)
set_named v p e (t ∷ servers) (suc i) s apart at named = by (is_end v p t) refl (set_named v p e servers i s apart.1 at named)
  where
    by : (b : Bool) → is_end v p t ≡ b → slice_set servers i (record s { state = e }) ≡ with_server_end servers v p e
        → t ∷ slice_set servers i (record s { state = e }) ≡ (if b then record t { state = e } else t) ∷ with_server_end servers v p e
    by true is rest =
        let names = end_names v p t is in
        let its : is_end t.server t.port s ≡ true = subst (λ x. is_end x t.port s ≡ true) (sym names.0) (subst (λ y. is_end v y s ≡ true) (sym names.1) named) in
        absurd (none_named t.server t.port servers i s at its apart.0)
    by false is rest = ap (λ xs. t ∷ xs) rest

-- twice in the same place
pub named_twice : (v p : ℕ) (a b : EndState) (servers : List ServerEnd) → with_server_end (with_server_end servers v p a) v p b ≡ with_server_end servers v p b
named_twice v p a b [] = refl
named_twice v p a b (t ∷ servers) = by (is_end v p t) refl (named_twice v p a b servers)
  where
    by : (c : Bool) → is_end v p t ≡ c → with_server_end (with_server_end servers v p a) v p b ≡ with_server_end servers v p b
        → changed_at v p b (if c then record t { state = a } else t) ∷ with_server_end (with_server_end servers v p a) v p b ≡ (if c then record t { state = b } else t) ∷ with_server_end servers v p b
    by true is rest = ap (λ (d : Bool). (if d then record t { state = b } else record t { state = a }) ∷ with_server_end (with_server_end servers v p a) v p b) is ∙ ap (λ xs. record t { state = b } ∷ xs) rest
    by false is rest = ap (λ (d : Bool). (if d then record t { state = b } else t) ∷ with_server_end (with_server_end servers v p a) v p b) is ∙ ap (λ xs. t ∷ xs) rest

-- the first of the rest, where it passes
pub drop_find : {X : Type 0} (test : X → Bool) (xs : List X) (k : ℕ) (x : X) → slice_get xs k ≡ Some x → test x ≡ true → find test (drop k xs) ≡ Some x
drop_find test [] k x at is = absurd (none-some x at)
drop_find test (y ∷ xs) zero x at is = by (test y) (ap test (same_Some y x at) ∙ is) (same_Some y x at)
  where
    by : (b : Bool) → b ≡ true → y ≡ x → cond b (Some y) (find test xs) ≡ Some x
    by true is same = ap (λ z. Some z) same
    by false is same = absurd (cc)
drop_find test (y ∷ xs) (suc k) x at is = drop_find test xs k x at is

-- ---- the end there
pub client_there : (ends : List (Option EndState)) (k : ℕ) → is_some (option_and_then (λ e. e) (slice_get ends k)) ≡ true → (e : EndState) × (slice_get ends k ≡ Some (Some e))
client_there ends k is = by (slice_get ends k) refl is
  where
    by : (o : Option (Option EndState)) → slice_get ends k ≡ o → is_some (option_and_then (λ e. e) o) ≡ true → (e : EndState) × (slice_get ends k ≡ Some (Some e))
    by None at is = absurd (cc)
    by (Some None) at is = absurd (cc)
    by (Some (Some e)) at is = (e, at)

pub server_there : (o : Option ServerEnd) → is_some (option_map (λ s. s.state) o) ≡ true → (s : ServerEnd) × (o ≡ Some s)
server_there None is = absurd (cc)
server_there (Some s) is = (s, refl)

pub twice : (w : World) (at : At) (a b : EndState) → with_end (with_end w at a) at b ≡ with_end w at b
twice w (Client k) a b = ap (λ (xs : List (Option EndState)). record w { ends = xs }) (set_twice w.ends k (Some a) (Some b))
twice w (Server v p) a b = ap (λ (xs : List ServerEnd). record w { servers = xs }) (named_twice v p a b w.servers)

pub swap_there : (w : World) (at : At) (a : EndState) → is_some (end_at w at) ≡ true → is_some (end_at (with_end w at a) at) ≡ true
swap_there w (Client k) a is =
    let it = client_there w.ends k is in
    ap (λ (o : Option (Option EndState)). is_some (option_and_then (λ e. e) o)) (own_place w.ends k (Some a) (get_within w.ends k (Some it.0) it.1))
swap_there w (Server v p) a is =
    let it = server_there (find (is_end v p) w.servers) is in
    ap (λ (o : Option ServerEnd). is_some (option_map (λ s. s.state) o)) (found_changed v p v p a w.servers it.0 it.1)

-- the one there was taken out, changed and put back
pub end_made : (w : World) (at : At) (f : EndState → EndState) (spare e e2 : EndState) → Some e ≡ end_at w at → e2 ≡ f e → with_end (with_end w at spare) at e2 ≡ changed w at f
end_made w at f spare e e2 is made =
    twice w at spare e2 ∙ ap (λ (x : EndState). with_end w at x) made ∙ ap (λ (o : Option EndState). changed_by w at f o) is

pub end_closed : (w : World) (at : At) (spare e e2 : EndState) → Some e ≡ end_at w at → e2 ≡ closed_end e → with_end (with_end w at spare) at e2 ≡ after w (closes at)
end_closed w at spare e e2 is made = end_made w at closed_end spare e e2 is made

pub end_wrote : (w : World) (at : At) (bytes : List ℕ) (spare e e2 : EndState) → Some e ≡ end_at w at → e2 ≡ written_more e bytes → with_end (with_end w at spare) at e2 ≡ after w (writes at bytes)
end_wrote w at bytes spare e e2 is made = end_made w at (λ d. written_more d bytes) spare e e2 is made

-- the same, as it was
same_named : (v p : ℕ) (servers : List ServerEnd) (s : ServerEnd) → AreApart servers → find (is_end v p) servers ≡ Some s → with_server_end servers v p s.state ≡ servers
same_named v p [] s apart is = refl
same_named v p (t ∷ servers) s apart is = by (is_end v p t) refl is (same_named v p servers s apart.1)
  where
    by : (b : Bool) → is_end v p t ≡ b → cond b (Some t) (find (is_end v p) servers) ≡ Some s → (find (is_end v p) servers ≡ Some s → with_server_end servers v p s.state ≡ servers)
        → (if b then record t { state = s.state } else t) ∷ with_server_end servers v p s.state ≡ t ∷ servers
    by true named is rest =
        let names = end_names v p t named in
        let none : find (is_end v p) servers ≡ None = subst (λ x. find (is_end x p) servers ≡ None) names.0 (subst (λ y. find (is_end t.server y) servers ≡ None) names.1 apart.0) in
        ap (λ (x : ServerEnd). record t { state = x.state } ∷ with_server_end servers v p s.state) (sym (same_Some t s is)) ∙ ap (λ xs. t ∷ xs) (none_changes v p s.state servers none)
    by false named is rest = ap (λ xs. t ∷ xs) (rest is)

pub end_same : (w : World) (at : At) (spare e : EndState) → HasShape w → Some e ≡ end_at w at → with_end (with_end w at spare) at e ≡ w
end_same w (Client k) spare e shape is =
    let it = client_there w.ends k (ap (λ (o : Option EndState). is_some o) (sym is)) in
    let same : it.0 ≡ e = same_Some it.0 e (sym (ap (λ (o : Option (Option EndState)). option_and_then (λ x. x) o) it.1) ∙ sym is) in
    twice w (Client k) spare e ∙ ap (λ (xs : List (Option EndState)). record w { ends = xs }) (set_same w.ends k (Some e) (it.1 ∙ ap (λ (x : EndState). Some (Some x)) same))
end_same w (Server v p) spare e shape is =
    let it = server_there (find (is_end v p) w.servers) (ap (λ (o : Option EndState). is_some o) (sym is)) in
    let same : it.0.state ≡ e = same_Some it.0.state e (sym (ap (λ (o : Option ServerEnd). option_map (λ s. s.state) o) it.1) ∙ sym is) in
    twice w (Server v p) spare e
    ∙ ap (λ (x : EndState). record w { servers = with_server_end w.servers v p x }) (sym same)
    ∙ ap (λ (xs : List ServerEnd). record w { servers = xs }) (same_named v p w.servers it.0 shape.apart it.1)
