-- A call between its turn's beginning and end.
use Rattle.std.proofs.Common.{◌≡◌, ℕ, ◌+◌, ◌<◌, ◌^◌, List, [], ◌∷◌, ◌++◌, length, take, true, Some, None, ap, sym, refl, ◌∙◌, subst, Contains, ⊎_elim}
use Rattle.std.proofs.lemmas.List.Elements.{Contains-append_right}
use Rattle.seen_lock.proofs.SeatLemmas.{contains_cases, number_there, head_there}
use Rattle.std.proofs.Math.Seq.{take-append_seam}
use Rattle.seen_lock.specs.declared.object.Entry.{Entry}
use Rattle.seen_lock.specs.declared.held.Held.{Held}
use Rattle.seen_lock.specs.declared.knowledge.Known.{Known}
use Rattle.seen_lock.specs.Histories.{state_after, calls_by, Begins}
use Rattle.atomic_table.specs.Table.{Splits, Joins}
use Rattle.seen_lock.specs.Rule.{View, Seated, Kept}
use Rattle.seen_lock.proofs.StepLemmas.{parts, merges}
use Rattle.seen_lock.specs.Seats.{LockView, SeatView, Knows, IsTold, SeesMore, seen, own_calls, joined_calls}
use Rattle.seen_lock.specs.Knowledge.{seen_by, calls_of, others_of, numbers_in, parted, newborn, joined}
use Rattle.seen_lock.specs.Turns.{TakesTurn, IsLonger, advanced, rested}
use Rattle.seen_lock.proofs.HistoryLemmas.{state_after-append, calls_by_own, calls_by_other}

module _ {S C : Type 0} (after : S → C → S) (allowed : S → C → Type 0) (first : S) (number made : ℕ) (call : C) where
  pub longer_by_call : (v : View S C) (now : Seated S C) (h g : Held S C) → Knows first number made v → TakesTurn after allowed v now h → allowed first call
      → g.history.items ≡ h.history.items ++ record { seat = number; call = call } ∷ [] → g.state ≡ after h.state call → length g.history.items < 2 ^ 63
      → IsLonger after allowed now.0 g
  longer_by_call None now h g knows taken may more state short = absurd knows
  longer_by_call (Some k) now h g knows taken may more state short =
      let k' : Known S C = record k { ticket = Some taken.0; turn = true; seen = h.history.items } in
      let given = taken.2 in
      subst (λ w. IsLonger after allowed w g) (sym (ap (λ m. m.0) taken.1)) (
        record { seat = number; call = call },
        refl,
        more,
        sym knows.number_is,
        subst (λ x. allowed x call) (sym knows.first_is) may,
        state ∙ (ap (λ x. after x call) given.state ∙ (sym (state_after-append after k.first h.history.items (record { seat = number; call = call } ∷ [])) ∙ ap (λ l. state_after after k.first l) (sym more))),
        short,
      )

  pub told_by_call : {R : Type 0} (reply : S → C → R) (v w : View S C) (now : Seated S C) (h g : Held S C) (lock : LockView S) (old new : SeatView S C) (answer : R) (place : ℕ)
      → Knows first number made v → TakesTurn after allowed v now h → g.history.items ≡ h.history.items ++ record { seat = number; call = call } ∷ [] → w ≡ advanced now.0 g
      → lock.first ≡ first → old.number ≡ number → old.view ≡ v → new.view ≡ w → place ≡ length h.history.items → answer ≡ reply h.state call
      → IsTold after reply lock old new call answer place
  told_by_call reply None w now h g lock old new answer place knows taken more rests lock_is number_is old_is new_is place_is answered = absurd knows
  told_by_call reply (Some k) w now h g lock old new answer place knows taken more rests lock_is number_is old_is new_is place_is answered =
      let given = taken.2 in
      let e : Entry C = record { seat = number; call = call } in
      let before = h.history.items in
      let seen_is : seen new ≡ before ++ e ∷ [] = ap seen_by (new_is ∙ (rests ∙ ap (λ x. advanced x g) (ap (λ m. m.0) taken.1))) ∙ more in
      let had : seen old ≡ k.seen = ap seen_by old_is in
      let number_is' : k.number ≡ number = knows.number_is in
      let own_is : own_calls new ≡ calls_by k.number g.history.items = ap calls_of (new_is ∙ (rests ∙ ap (λ x. advanced x g) (ap (λ m. m.0) taken.1))) in
      let joined_is : joined_calls new ≡ k.others = ap others_of (new_is ∙ (rests ∙ ap (λ x. advanced x g) (ap (λ m. m.0) taken.1))) in
      let part : take place (seen new) ≡ before = ap (λ l. take place l) seen_is ∙ (ap (λ n. take n (before ++ e ∷ [])) place_is ∙ take-append_seam before (e ∷ [])) in
      let first_is : k.first ≡ lock.first = knows.first_is ∙ sym lock_is in
      let told : g.history.items ≡ seen new = more ∙ sym seen_is in
      record {
        last = seen_is ∙ (ap (λ l. l ++ e ∷ []) (sym part) ∙ ap (λ (n : ℕ). (let x : Entry C = record { seat = n; call = call } in take place (seen new) ++ x ∷ [])) (sym number_is));
        grown = subst (λ l. Begins l (seen old)) (sym part) (subst (λ l. Begins before l) (sym had) given.begins);
        answered = answered ∙ ap (λ x. reply x call) (given.state ∙ (ap (λ x. state_after after x before) first_is ∙ ap (λ l. state_after after lock.first l) (sym part)));
        own = own_is ∙ (ap (λ n. calls_by n g.history.items) number_is' ∙ (ap (calls_by number) more ∙ (calls_by_own number before e refl ∙ ap (λ l. l ++ call ∷ []) (ap (λ n. calls_by n before) (sym number_is') ∙ (given.claimed k.number k.mine (head_there (k.number, k.mine) k.others) ∙ sym (ap calls_of old_is))))));
        listed = λ n calls c. ⊎_elim
            (λ q. ap (λ m. calls_by m (seen new)) (sym (ap (λ z. z.0) q) ∙ (number_is ∙ sym number_is')) ∙ (ap (λ l. calls_by k.number l) (sym told) ∙ (sym own_is ∙ ap (λ z. z.1) q)))
            (λ t. let t' = subst (λ l. Contains l (n, calls)) joined_is t in
            ap (calls_by n) seen_is ∙ (calls_by_other n before e (λ q. given.once (subst (λ m. Contains (numbers_in k.others) m) (sym q ∙ sym number_is') (number_there k.others n calls t'))) ∙ given.claimed n calls (Contains-append_right ((k.number, k.mine) ∷ []) k.others (n, calls) t')))
            (contains_cases (old.number, own_calls new) (joined_calls new) (n, calls) c);
      }

  same_claims : (m n : ℕ) (a b : List C) (x y : List (ℕ × List C)) → m ≡ n → a ≡ b → x ≡ y → (let l : List (ℕ × List C) = (m, a) ∷ x in l) ≡ (n, b) ∷ y
  same_claims m n a b x y p q r = cc

  pub more_by_refusal : (v w : View S C) (now : Seated S C) (h g : Held S C) (old new : SeatView S C)
      → Knows first number made v → TakesTurn after allowed v now h → g.history.items ≡ h.history.items → w ≡ rested now.0 g
      → old.number ≡ number → old.view ≡ v → new.view ≡ w → SeesMore old new
  more_by_refusal None w now h g old new knows taken same rests number_is old_is new_is = absurd knows
  more_by_refusal (Some k) w now h g old new knows taken same rests number_is old_is new_is =
      let given = taken.2 in
      let view_is = new_is ∙ (rests ∙ ap (λ x. rested x g) (ap (λ m. m.0) taken.1)) in
      let seen_is : seen new ≡ h.history.items = ap seen_by view_is ∙ same in
      let own_is : own_calls new ≡ k.mine = ap calls_of view_is in
      let joined_is : joined_calls new ≡ k.others = ap others_of view_is in
      let claims_are = same_claims old.number k.number (own_calls new) k.mine (joined_calls new) k.others (number_is ∙ sym knows.number_is) own_is joined_is in
      record {
        grown = subst (λ l. Begins l (seen old)) (sym seen_is) (subst (λ l. Begins h.history.items l) (sym (ap seen_by old_is)) given.begins);
        own = own_is ∙ sym (ap calls_of old_is);
        listed = λ n calls c. ap (calls_by n) seen_is ∙ given.claimed n calls (subst (λ l. Contains l (n, calls)) claims_are c);
      }

module _ {S C : Type 0} (after : S → C → S) (allowed : S → C → Type 0) (first : S) where
  pub part_splits : (id : ℕ) (opening : S) (number made : ℕ) (v : View S C) → Knows opening number made v → number ≡ 0 → made + 1 < 2 ^ 32 → Splits (Kept after allowed first) id v (parted v) (newborn v)
  part_splits id opening number made None knows zeroth room = absurd knows
  part_splits id opening number made (Some k) knows zeroth room = parts after allowed first id k (knows.number_is ∙ zeroth) (subst (λ m. m + 1 < 2 ^ 32) (sym knows.made_is) room)

  pub merge_joins : (id gone : ℕ) (opening : S) (number made number' made' : ℕ) (v w : View S C) → Knows opening number made v → Knows opening number' made' w → Joins (Kept after allowed first) id v gone w (joined v w) None
  merge_joins id gone opening number made number' made' None w knows other = absurd knows
  merge_joins id gone opening number made number' made' (Some k) None knows other = absurd other
  merge_joins id gone opening number made number' made' (Some k) (Some l) knows other = merges after allowed first id gone k l knows.still other.still other.idle
