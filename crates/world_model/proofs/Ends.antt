-- An end changes, or one more segment was sent: the invariant is kept where what is new meets it.
use Rattle.std.proofs.Common.{◌≡◌, ℕ, zero, suc, ◌<◌, Bool, true, false, ◌&&◌, Option, Some, None, List, [], ◌∷◌, ◌++◌, length, refl, sym, ◌∙◌, ap, subst, arith, inl, inr}
use Rattle.std.specs.Prelude.{◌⊎◌, slice_get, slice_set, find, option_and_then, if◌then◌else◌, cond}
use Rattle.std.proofs.lemmas.Bool.{eqb-true}
use Rattle.std.proofs.lemmas.Option.{none-some, same_Some}
use Rattle.tcp_end.specs.EndState.{EndState}
use Rattle.world_model.specs.declared.at.At.TheVariants.{Client, Server}
use Rattle.world_model.specs.After.{with_sent}
use Rattle.world_model.specs.Posted.{Posted}
use Rattle.world_model.specs.Streams.{written_by, closed_by}
use Rattle.world_model.specs.World.{World, ServerEnd, is_end, end_of_server, end_of_client, with_server_end, with_end}
use Rattle.world_model.proofs.Frame.{frame, pushed, still_there}
use Rattle.world_model.proofs.Growth.{either, StreamGrows, same_stream}
use Rattle.world_model.proofs.Invariant.{Calls, IsSentBy, ClientIs, ServerIs, Inv}
use Rattle.world_model.proofs.Later.{Later, EndGrows}

-- ---- lists
pub set_cases : {X : Type 0} (xs : List X) (k j : ℕ) (x : X) → k < length xs → ((j ≡ k) × (slice_get (slice_set xs k x) j ≡ Some x)) ⊎ (slice_get (slice_set xs k x) j ≡ slice_get xs j)
set_cases [] k j x below = absurd (omega arith)
set_cases (y ∷ xs) zero zero x below = inl (refl, refl)
set_cases (y ∷ xs) zero (suc j) x below = inr refl
set_cases (y ∷ xs) (suc k) zero x below = inr refl
set_cases (y ∷ xs) (suc k) (suc j) x below = either (λ h. (ap suc h.0, h.1)) (λ h. h) (set_cases xs k j x (omega arith))

pub set_long : {X : Type 0} (xs : List X) (k : ℕ) (x : X) → length (slice_set xs k x) ≡ length xs
set_long [] k x = refl
set_long (y ∷ xs) zero x = refl
set_long (y ∷ xs) (suc k) x = ap suc (set_long xs k x)

-- ---- servers' ends
abbrev changed_at : ℕ → ℕ → EndState → ServerEnd → ServerEnd
changed_at v p e s = if is_end v p s then record s { state = e } else s

both : (a b : Bool) → (a && b) ≡ true → (a ≡ true) × (b ≡ true)
both true b e = (refl, e)
both false b e = absurd (cc)

pub end_names : (v p : ℕ) (s : ServerEnd) → is_end v p s ≡ true → (s.server ≡ v) × (s.port ≡ p)
end_names v p s e = let t = both _ _ e in (eqb-true s.server v t.0, eqb-true s.port p t.1)

pub found_passes : {X : Type 0} (test : X → Bool) (xs : List X) (x : X) → find test xs ≡ Some x → test x ≡ true
found_passes test [] x is = absurd (none-some x is)
found_passes test (y ∷ xs) x is = by (test y) refl is (found_passes test xs x)
  where
    by : (b : Bool) → test y ≡ b → cond b (Some y) (find test xs) ≡ Some x → (find test xs ≡ Some x → test x ≡ true) → test x ≡ true
    by true t is rest = subst (λ z. test z ≡ true) (same_Some y x is) t
    by false t is rest = rest is

same_name : (v p v' p' : ℕ) (e : EndState) (s : ServerEnd) → is_end v' p' (changed_at v p e s) ≡ is_end v' p' s
same_name v p v' p' e s = by (is_end v p s)
  where
    by : (b : Bool) → is_end v' p' (if b then record s { state = e } else s) ≡ is_end v' p' s
    by true = refl
    by false = refl

pub found_changed : (v p v' p' : ℕ) (e : EndState) (servers : List ServerEnd) (s : ServerEnd) → find (is_end v' p') servers ≡ Some s → find (is_end v' p') (with_server_end servers v p e) ≡ Some (changed_at v p e s)
found_changed v p v' p' e [] s is = absurd (none-some s is)
found_changed v p v' p' e (t ∷ servers) s is =
    ap (λ b. cond b (Some (changed_at v p e t)) (find (is_end v' p') (with_server_end servers v p e))) (same_name v p v' p' e t)
    ∙ by (is_end v' p' t) is (found_changed v p v' p' e servers s)
  where
    by : (b : Bool) → cond b (Some t) (find (is_end v' p') servers) ≡ Some s
        → (find (is_end v' p') servers ≡ Some s → find (is_end v' p') (with_server_end servers v p e) ≡ Some (changed_at v p e s))
        → cond b (Some (changed_at v p e t)) (find (is_end v' p') (with_server_end servers v p e)) ≡ Some (changed_at v p e s)
    by true is rest = ap (λ (x : ServerEnd). Some (changed_at v p e x)) (same_Some t s is)
    by false is rest = rest is

none_changed : (v p v' p' : ℕ) (e : EndState) (servers : List ServerEnd) → find (is_end v' p') servers ≡ None → find (is_end v' p') (with_server_end servers v p e) ≡ None
none_changed v p v' p' e [] is = refl
none_changed v p v' p' e (t ∷ servers) is =
    ap (λ b. cond b (Some (changed_at v p e t)) (find (is_end v' p') (with_server_end servers v p e))) (same_name v p v' p' e t)
    ∙ by (is_end v' p' t) is (none_changed v p v' p' e servers)
  where
    by : (b : Bool) → cond b (Some t) (find (is_end v' p') servers) ≡ None
        → (find (is_end v' p') servers ≡ None → find (is_end v' p') (with_server_end servers v p e) ≡ None)
        → cond b (Some (changed_at v p e t)) (find (is_end v' p') (with_server_end servers v p e)) ≡ None
    by true is rest = absurd (none-some t (sym is))
    by false is rest = rest is

-- an end that is there is the changed one, or another, which is as it was
pub data ChangedIs (servers : List ServerEnd) (v p : ℕ) (e : EndState) (v' p' : ℕ) (s t : ServerEnd) : Type 0 where
  own : v' ≡ v → p' ≡ p → t ≡ record s { state = e } → ChangedIs servers v p e v' p' s t
  other : t ≡ s → ChangedIs servers v p e v' p' s t

changed_is : (servers : List ServerEnd) (v p : ℕ) (e : EndState) (v' p' : ℕ) (s : ServerEnd) → find (is_end v' p') servers ≡ Some s → ChangedIs servers v p e v' p' s (changed_at v p e s)
changed_is servers v p e v' p' s is = by (is_end v p s) refl
  where
    by : (b : Bool) → is_end v p s ≡ b → ChangedIs servers v p e v' p' s (if b then record s { state = e } else s)
    by true t =
        let mine = end_names v p s t in
        let its = end_names v' p' s (found_passes (is_end v' p') servers s is) in
        own (sym its.0 ∙ mine.0) (sym its.1 ∙ mine.1) refl
    by false t = other refl

-- ---- one more segment
module _ (w : World) (calls : Calls) (inv : Inv w calls) (x : Posted) where
  pub later_sent : Later w.setup w calls (with_sent w x) calls
  later_sent = record {
    decided = λ g k r d. d;
    sent = λ n y is. still_there w.sent (x ∷ []) n y is;
    client = λ k. same_stream (written_by (end_of_client w k)) (closed_by (end_of_client w k));
    server = λ v p s here. record { end = s; here = here; maker = refl; first = refl; stream = same_stream s.state.written s.state.closed };
  }

  pub one_sent : IsSentBy w.setup w.clients (with_sent w x) calls (length w.sent) x x.by → Inv (with_sent w x) calls
  one_sent new =
      frame w w.ends w.servers (w.sent ++ x ∷ []) calls inv later_sent refl
      (λ n y is. elim (pushed w.sent x n y is) [
        | inl was ↦ inl was
        | inr now ↦ inr (subst (λ (z : Posted). IsSentBy w.setup w.clients (with_sent w x) calls n z z.by) now.1
            (subst (λ m. IsSentBy w.setup w.clients (with_sent w x) calls m x x.by) (sym now.0) new))
      ])
      (λ k e is. inl is)
      (λ v p s is. inl is)

-- ---- a client's end
module _ (w : World) (calls : Calls) (inv : Inv w calls) (k : ℕ) (e : EndState) (within : k < length w.ends) where
  abbrev now_client : World
  now_client = with_end w (Client k) e

  client_cases : (j : ℕ) → ((j ≡ k) × (end_of_client now_client j ≡ Some e)) ⊎ (end_of_client now_client j ≡ end_of_client w j)
  client_cases j = either (λ h. (h.0, ap (option_and_then (λ o. o)) h.1)) (λ h. ap (option_and_then (λ o. o)) h) (set_cases w.ends k j (Some e) within)

  pub later_client : StreamGrows (written_by (end_of_client w k)) (closed_by (end_of_client w k)) e.written e.closed → Later w.setup w calls now_client calls
  later_client grows = record {
    decided = λ g k r d. d;
    sent = λ n y is. is;
    client = λ j. elim (client_cases j) [
      | inl mine ↦
          subst (λ o. StreamGrows (written_by (end_of_client w j)) (closed_by (end_of_client w j)) (written_by o) (closed_by o)) (sym mine.1)
          (subst (λ i. StreamGrows (written_by (end_of_client w i)) (closed_by (end_of_client w i)) e.written e.closed) (sym mine.0) grows)
      | inr not_mine ↦
          subst (λ o. StreamGrows (written_by (end_of_client w j)) (closed_by (end_of_client w j)) (written_by o) (closed_by o)) (sym not_mine)
          (same_stream (written_by (end_of_client w j)) (closed_by (end_of_client w j)))
    ];
    server = λ v p s here. record { end = s; here = here; maker = refl; first = refl; stream = same_stream s.state.written s.state.closed };
  }

  pub one_client : StreamGrows (written_by (end_of_client w k)) (closed_by (end_of_client w k)) e.written e.closed → ClientIs w.setup w.clients now_client calls k e → Inv now_client calls
  one_client grows is =
      frame w (slice_set w.ends k (Some e)) w.servers w.sent calls inv (later_client grows) (set_long w.ends k (Some e))
      (λ n x sent. inl sent)
      (λ j d here. elim (client_cases j) [
        | inl mine ↦ inr (subst (λ i. ClientIs w.setup w.clients now_client calls i d) (sym mine.0) (subst (λ (c : EndState). ClientIs w.setup w.clients now_client calls k c) (same_Some e d (sym mine.1 ∙ here)) is))
        | inr not_mine ↦ inl (sym not_mine ∙ here)
      ])
      (λ v p s here. inl here)

-- ---- a server's end
module _ (w : World) (calls : Calls) (inv : Inv w calls) (v p : ℕ) (s : ServerEnd) (here : end_of_server w v p ≡ Some s) (e : EndState) where
  abbrev now_server : World
  now_server = with_end w (Server v p) e

  pub later_server : e.first ≡ s.state.first → StreamGrows s.state.written s.state.closed e.written e.closed → Later w.setup w calls now_server calls
  later_server first grows = record {
    decided = λ g k r d. d;
    sent = λ n y is. is;
    client = λ k. same_stream (written_by (end_of_client w k)) (closed_by (end_of_client w k));
    server = λ v' p' t at. by v' p' t at (changed_at v p e t) (found_changed v p v' p' e w.servers t at) (changed_is w.servers v p e v' p' t at);
  }
    where
      by : (v' p' : ℕ) (t : ServerEnd) → end_of_server w v' p' ≡ Some t → (u : ServerEnd) → end_of_server now_server v' p' ≡ Some u → ChangedIs w.servers v p e v' p' t u → EndGrows now_server v' p' t
      by v' p' t at u now (own a b is) =
          let same : s ≡ t = same_Some s t (sym here ∙ sym (ap (λ x. end_of_server w x p') a ∙ ap (λ y. end_of_server w v y) b) ∙ at) in
          record {
            end = u;
            here = now;
            maker = ap (λ (z : ServerEnd). z.maker) is;
            first = ap (λ (z : ServerEnd). z.state.first) is ∙ first ∙ ap (λ (z : ServerEnd). z.state.first) same;
            stream = subst (λ (z : ServerEnd). StreamGrows t.state.written t.state.closed z.state.written z.state.closed) (sym is)
                (subst (λ (z : ServerEnd). StreamGrows z.state.written z.state.closed e.written e.closed) same grows);
          }
      by v' p' t at u now (other is) = record {
        end = u;
        here = now;
        maker = ap (λ (z : ServerEnd). z.maker) is;
        first = ap (λ (z : ServerEnd). z.state.first) is;
        stream = subst (λ (z : ServerEnd). StreamGrows t.state.written t.state.closed z.state.written z.state.closed) (sym is) (same_stream t.state.written t.state.closed);
      }

  pub one_server : e.first ≡ s.state.first → StreamGrows s.state.written s.state.closed e.written e.closed
      → ServerIs w.setup w.clients now_server calls v p (record s { state = e }) → Inv now_server calls
  one_server first grows new =
      frame w w.ends (with_server_end w.servers v p e) w.sent calls inv (later_server first grows) refl
      (λ n x sent. inl sent)
      (λ k d is. inl is)
      (λ v' p' u now. by v' p' u now (end_of_server w v' p') refl)
    where
      by : (v' p' : ℕ) (u : ServerEnd) → end_of_server now_server v' p' ≡ Some u → (o : Option ServerEnd) → end_of_server w v' p' ≡ o
          → (end_of_server w v' p' ≡ Some u) ⊎ ServerIs w.setup w.clients now_server calls v' p' u
      by v' p' u now None is = absurd (none-some u (sym (none_changed v p v' p' e w.servers is) ∙ now))
      by v' p' u now (Some t) is = go (changed_is w.servers v p e v' p' t is)
        where
          same_now : changed_at v p e t ≡ u
          same_now = same_Some (changed_at v p e t) u (sym (found_changed v p v' p' e w.servers t is) ∙ now)

          go : ChangedIs w.servers v p e v' p' t (changed_at v p e t) → (end_of_server w v' p' ≡ Some u) ⊎ ServerIs w.setup w.clients now_server calls v' p' u
          go (own a b at) =
              let same : s ≡ t = same_Some s t (sym here ∙ sym (ap (λ x. end_of_server w x p') a ∙ ap (λ y. end_of_server w v y) b) ∙ is) in
              let it : record s { state = e } ≡ u = ap (λ (z : ServerEnd). record z { state = e }) same ∙ sym at ∙ same_now in
              inr (subst (λ x. ServerIs w.setup w.clients now_server calls x p' u) (sym a)
              (subst (λ y. ServerIs w.setup w.clients now_server calls v y u) (sym b)
              (subst (λ (z : ServerEnd). ServerIs w.setup w.clients now_server calls v p z) it new)))
          go (other at) = inl (is ∙ ap (λ (z : ServerEnd). Some z) (sym at ∙ same_now))
