-- Each atomic step of the lock keeps its rule, and tells its seat what the rule says.
use Rattle.std.proofs.Common.{◌≡◌, ◌≢◌, ℕ, zero, suc, ◌<◌, ◌≤◌, ◌+◌, ◌%◌, ◌^◌, List, [], ◌∷◌, ◌++◌, length, length-append, true, false, true≢false, Option, Some, None, get_or, set, max, length-set, ap, sym, refl, ◌∙◌, subst, arith, ⊎_elim, ◌⊎◌, inl, inr, Contains, nat_eq}
use Rattle.std.proofs.lemmas.Bool.Decides.{eqb_tells}
use Rattle.std.proofs.lemmas.List.Elements.{Contains-append_cases, Contains-append_right}
use mathlib.Core.Option.{some, none, some-injective, some-ne-none}
use lib.ListN.{get_elem?}
use Rattle.atomic_table.specs.Table.{State, Me, keeps, takes, gives, Allows, Splits, Joins, opening}
use Rattle.atomic_table.proofs.Lists.{set_here, set_else, set_again, at_longer}
use Rattle.seen_lock.specs.declared.object.Entry.{Entry}
use Rattle.seen_lock.specs.declared.held.Held.{Held}
use Rattle.seen_lock.specs.declared.knowledge.Known.{Known}
use Rattle.seen_lock.specs.Histories.{state_after, calls_by, AllAllowed, Begins, longer}
use Rattle.seen_lock.specs.Knowledge.{parted, newborn, joined, first_view, claims, numbers, numbers_in}
use Rattle.seen_lock.specs.Rule.{View, AllWait, IsHeld, IsKnown, IsKept, Kept, Draws, IsGiven, Takes, Serves, Tells, Ends}
use Rattle.seen_lock.proofs.HistoryLemmas.{begins_itself, begins_append, begins_trans, calls_by_other, all_allowed_append, calls_by_none, calls_by_between, longer_begins}
use Rattle.seen_lock.proofs.SeatLemmas.{some_same, none_of, seat_cases, divided_same, queued_draws, queued_same, queued_ends, waiters_bound, there_below, part_cases, join_cases, divided_parts, queued_parts, divided_joins, queued_joins, only_claim, contains_cases, number_there, head_there, nothing_there}

same_or_not : (i j : ℕ) → (i ≡ j) ⊎ (i ≢ j)
same_or_not i j = ⊎_elim (λ a. inl a.1) (λ a. inr a.1) (eqb_tells i j)

-- what stands at one place
pub one_there : {X : Type 0} (l : List (Option X)) (i : ℕ) (x y : X) → get_elem? l i ≡ some (Some x) → get_elem? l i ≡ some (Some y) → x ≡ y
one_there l i x y a b = some_same x y (some-injective (Some x) (Some y) (sym a ∙ b))

no_list : {X : Type 0} (x : List X) → Contains [] x → ⊥
no_list x c = let e = c.1 in absurd (omega (arith, e))

abbrev items_in : {S C : Type 0} → List (ℕ × Option (Held S C)) → List (Entry C)
items_in [] = []
items_in ((k, None) ∷ xs) = []
items_in ((k, Some h) ∷ xs) = h.history.items

same_slot : {S C : Type 0} (h g : Held S C) (xs ys : List (ℕ × Option (Held S C))) → xs ≡ (0, Some h) ∷ [] → ys ≡ (0, Some g) ∷ [] → xs ≡ ys → h.history.items ≡ g.history.items
same_slot h g xs ys a b e = sym (ap items_in a) ∙ (ap items_in e ∙ ap items_in b)

module _ {S C : Type 0} (after : S → C → S) (allowed : S → C → Type 0) (first : S) where
  pub draws : (slots id : ℕ) (k : Known S C) → k.ticket ≡ None → k.turn ≡ false
      → Allows (Kept after allowed first) slots id (Some k, []) 1 (λ n. (n + 1) % 2 ^ 64) (λ found now. Draws (Some k, []) found now)
  draws slots id k idle still s kept wide here bound =
      let log = kept.0 in
      let served = kept.1 in
      let drawn = kept.2 in
      let r = kept.3 in
      let k' : Known S C = record k { ticket = Some drawn } in
      let mine = r.known id k here in (
        Some k',
        keeps,
        tt,
        (
          log,
          served,
          drawn + 1,
          record {
            words = ap (λ ws. set ws 1 ((get_or ws 1 0 + 1) % 2 ^ 64)) r.words ∙ ap (λ x. length log ∷ x ∷ (served % 2 ^ 64) ∷ []) (let e : (drawn % 2 ^ 64 + 1) % 2 ^ 64 ≡ (drawn + 1) % 2 ^ 64 = omega arith in e);
            homes = r.homes;
            short = r.short;
            legal = r.legal;
            known = λ i l x. ⊎_elim
                (λ a. subst (λ z. IsKnown after allowed first log served i z) a.1 record { first_is = mine.first_is; number_is = mine.number_is ∙ sym a.0; begins = mine.begins; claimed = mine.claimed; listened = mine.listened; turned = λ t. absurd (true≢false (sym t ∙ still)) })
                (λ a. r.known i l a.1)
                (seat_cases s.views id i k' l x);
            unborn = λ n le. r.unborn n (subst (λ m. m ≤ n) (length-set s.views id (Some k')) le);
            divided = divided_same s.views id k k' here refl refl refl r.divided;
            queued = queued_draws s.views id served drawn k here idle r.queued;
            home = λ all. r.home (λ i l x t. ⊎_elim
                (λ e. absurd (true≢false (sym t ∙ (ap (λ z. z.turn) (one_there s.views i l k x (ap (λ z. get_elem? s.views z) e ∙ here)) ∙ still))))
                (λ n. all i l (set_else s.views id i (Some k') n ∙ x) t)
                (same_or_not i id));
          },
        ),
        (λ k0 e. let same : k ≡ k0 = some_same k k0 e in
            let me : Me (Option (Held S C)) (View S C) = (Some k', []) in
            (drawn, ap (λ (z : Known S C). (let m : Me (Option (Held S C)) (View S C) = (Some (record z { ticket = Some drawn }), []) in m)) same, ap (λ ws. get_or ws 1 0) r.words)),
      )

  -- where the ticket that is served is the seat's own, no seat has its turn
  all_wait : (log : List (Entry C)) (served drawn id : ℕ) (k : Known S C) (s : State (Option (Held S C)) (View S C)) → IsKept after allowed first log served drawn s → get_elem? s.views id ≡ some (Some k) → k.ticket ≡ Some served → k.turn ≡ false → AllWait s.views
  all_wait log served drawn id k s r here mine still i l x turn =
      let same : i ≡ id = r.queued.tickets i id served l k x here ((r.known i l x).turned turn).0 mine in
      true≢false (sym turn ∙ (ap (λ z. z.turn) (one_there s.views i l k x (ap (λ z. get_elem? s.views z) same ∙ here)) ∙ still))

  is_given : (log : List (Entry C)) (served id : ℕ) (k : Known S C) (h : Held S C) → (Contains (numbers_in k.others) k.number → ⊥) → length log < 2 ^ 63 → AllAllowed allowed first log → IsKnown after allowed first log served id k → IsHeld after allowed first log h → IsGiven after allowed k h
  is_given log served id k h once short legal mine held =
      let e : log ≡ h.history.items = sym held.entries in
      record {
        state = held.state ∙ (ap (λ l. state_after after first l) e ∙ ap (λ x. state_after after x h.history.items) (sym mine.first_is));
        begins = subst (λ l. Begins l k.seen) e mine.begins;
        legal = subst (λ l. AllAllowed allowed k.first l) e (subst (λ x. AllAllowed allowed x log) (sym mine.first_is) legal);
        claimed = λ n calls c. ap (calls_by n) (sym e) ∙ (mine.claimed n calls c).0;
        once = once;
        short = subst (λ l. length l < 2 ^ 63) e short;
      }

  pub serves : (slots id t : ℕ) (k : Known S C) → k.ticket ≡ Some t → k.turn ≡ false
      → Allows (Kept after allowed first) slots id (Some k, []) 2 (λ n. n) (λ found now. Serves after allowed (Some k, []) found now)
  serves slots id t k drawn_is still s kept wide here bound =
      let log = kept.0 in
      let served = kept.1 in
      let drawn = kept.2 in
      let r = kept.3 in
      let mine = r.known id k here in
      let same_words : set s.words 2 (get_or s.words 2 0) ≡ length log ∷ (drawn % 2 ^ 64) ∷ (served % 2 ^ 64) ∷ [] = ap (λ ws. set ws 2 (get_or ws 2 0)) r.words in
      let found : get_or s.words 2 0 ≡ served % 2 ^ 64 = ap (λ ws. get_or ws 2 0) r.words in
      let window = r.queued.ticketed id t k here drawn_is in
      let few = waiters_bound s.views in
      ⊎_elim
      (λ e. let now : served ≡ t = omega (arith, e.1, found, window.0, window.1, r.queued.waiting, few, r.divided.few) in
      let turn_is : k.ticket ≡ Some served = drawn_is ∙ ap (λ n. Some n) (sym now) in
      let out = r.home (all_wait log served drawn id k s r here turn_is still) in
      let h = out.0 in
      let k' : Known S C = record k { turn = true; seen = h.history.items } in
      let is : log ≡ h.history.items = sym out.2.entries in (
        Some k',
        takes 0 (Some h),
        out.1,
        (
          log,
          served,
          drawn,
          record {
            words = same_words;
            homes = length-set s.homes 0 none ∙ r.homes;
            short = r.short;
            legal = r.legal;
            known = λ i l x. ⊎_elim
                (λ a. subst (λ z. IsKnown after allowed first log served i z) a.1 record { first_is = mine.first_is; number_is = mine.number_is ∙ sym a.0; begins = begins_itself log h.history.items (sym is); claimed = λ n calls c. let o = mine.claimed n calls c in (o.0, ap (calls_by n) (sym is) ∙ o.0); listened = mine.listened; turned = λ p. (turn_is, sym is) })
                (λ a. r.known i l a.1)
                (seat_cases s.views id i k' l x);
            unborn = λ n le. r.unborn n (subst (λ m. m ≤ n) (length-set s.views id (Some k')) le);
            divided = divided_same s.views id k k' here refl refl refl r.divided;
            queued = queued_same s.views id served drawn k k' here refl r.queued;
            home = λ all. absurd (all id k' (set_here s.views id (Some k') (there_below s.views id (Some k) here)) refl);
          },
        ),
        (λ k0 t0 p q. subst (λ z. Takes after allowed z (Some k, []) (nat_eq (get_or s.words 2 0) (t0 % 2 ^ 64)) (Some k', (0, Some h) ∷ [])) (some_same k k0 p)
            (let same : t ≡ t0 = some_same t t0 (sym drawn_is ∙ (ap (λ z. z.ticket) (some_same k k0 p) ∙ q)) in
            let yes_now : nat_eq (get_or s.words 2 0) (t0 % 2 ^ 64) ≡ true = ap (λ z. nat_eq (get_or s.words 2 0) (z % 2 ^ 64)) (sym same) ∙ e.0 in
            subst (λ b. Takes after allowed k (Some k, []) b (Some k', (0, Some h) ∷ [])) (sym yes_now) (h, refl, is_given log served id k h (r.divided.once id k here) r.short r.legal mine out.2))),
      ))
      (λ n. let same : set s.views id (Some k) ≡ s.views = set_again s.views id (Some k) here in (
        Some k,
        keeps,
        tt,
        (
          log,
          served,
          drawn,
          subst (λ vs. IsKept after allowed first log served drawn record { words = set s.words 2 (get_or s.words 2 0); homes = s.homes; views = vs }) (sym same)
              record { words = same_words; homes = r.homes; short = r.short; legal = r.legal; known = r.known; unborn = r.unborn; divided = r.divided; queued = r.queued; home = r.home },
        ),
        (λ k0 t0 p q. subst (λ z. Takes after allowed z (Some k, []) (nat_eq (get_or s.words 2 0) (t0 % 2 ^ 64)) (Some k, [])) (some_same k k0 p)
            (let same_ticket : t ≡ t0 = some_same t t0 (sym drawn_is ∙ (ap (λ z. z.ticket) (some_same k k0 p) ∙ q)) in
            let no_now : nat_eq (get_or s.words 2 0) (t0 % 2 ^ 64) ≡ false = ap (λ z. nat_eq (get_or s.words 2 0) (z % 2 ^ 64)) (sym same_ticket) ∙ n.0 in
            subst (λ b. Takes after allowed k (Some k, []) b (Some k, [])) (sym no_now) refl)),
      ))
      (eqb_tells (get_or s.words 2 0) (t % 2 ^ 64))

  pub tells : (slots id : ℕ) (k : Known S C) (h : Held S C) (e : Entry C) → k.turn ≡ true → h.history.items ≡ k.seen ++ e ∷ [] → e.seat ≡ k.number → allowed k.first e.call → length h.history.items < 2 ^ 63
      → Allows (Kept after allowed first) slots id (Some k, (0, Some h) ∷ []) 0 (λ n. (n + 1) % 2 ^ 64) (λ found now. Tells (Some k, (0, Some h) ∷ []) now)
  tells slots id k h e turn more own may short s kept wide here bound =
      let log = kept.0 in
      let served = kept.1 in
      let drawn = kept.2 in
      let r = kept.3 in
      let mine = r.known id k here in
      let told = h.history.items in
      let k' : Known S C = record k { seen = told; mine = calls_by k.number told } in
      let was : k.seen ≡ log = (mine.turned turn).1 in
      let longer : told ≡ log ++ e ∷ [] = more ∙ ap (λ l. l ++ e ∷ []) was in
      let one_more : length told ≡ length log + 1 = ap length longer ∙ length-append log (e ∷ []) in
      let seat_is : e.seat ≡ id = own ∙ mine.number_is in
      let below = there_below s.views id (Some k) here in
      let answers : Contains (numbers k) id = subst (λ n. Contains (numbers k) n) mine.number_is (head_there k.number (numbers_in k.others)) in
      let other : (n : ℕ) → n ≢ id → calls_by n told ≡ calls_by n log = λ n apart. ap (calls_by n) longer ∙ calls_by_other n log e (λ q. apart (sym q ∙ seat_is)) in
      let told_claims : (n : ℕ) (calls : List C) → Contains (claims k') (n, calls) → (calls_by n told ≡ calls) × (calls_by n told ≡ calls) = λ n calls c. ⊎_elim
      (λ q. let a = ap (λ z. calls_by z told) (sym (ap (λ z. z.0) q)) ∙ ap (λ z. z.1) q in (a, a))
      (λ t. let a = other n (λ q. r.divided.once id k here (subst (λ m. Contains (numbers_in k.others) m) (q ∙ sym mine.number_is) (number_there k.others n calls t))) ∙ (mine.claimed n calls (Contains-append_right ((k.number, k.mine) ∷ []) k.others (n, calls) t)).0 in (a, a))
      (contains_cases (k.number, calls_by k.number told) k.others (n, calls) c) in (
        Some k',
        keeps,
        tt,
        (
          told,
          served,
          drawn,
          record {
            words = ap (λ ws. set ws 0 ((get_or ws 0 0 + 1) % 2 ^ 64)) r.words ∙ ap (λ x. x ∷ (drawn % 2 ^ 64) ∷ (served % 2 ^ 64) ∷ []) (let w : (length log + 1) % 2 ^ 64 ≡ length told = omega (arith, one_more, short) in w);
            homes = r.homes;
            short = short;
            legal = subst (λ l. AllAllowed allowed first l) (sym longer) (all_allowed_append allowed first log (e ∷ []) r.legal (subst (λ x. allowed x e.call) mine.first_is may, tt));
            known = λ i l x. ⊎_elim
                (λ a. subst (λ z. IsKnown after allowed first told served i z) a.1 record { first_is = mine.first_is; number_is = mine.number_is ∙ sym a.0; begins = begins_itself told told refl; claimed = told_claims; listened = λ g c. begins_trans told log g (begins_append told log (e ∷ []) longer) (mine.listened g c); turned = λ p. ((mine.turned turn).0, refl) })
                (λ a. let o = r.known i l a.1 in
                record {
                  first_is = o.first_is;
                  number_is = o.number_is;
                  begins = begins_trans told log l.seen (begins_append told log (e ∷ []) longer) o.begins;
                  claimed = λ n calls c. let z = o.claimed n calls c in
                      (other n (λ q. a.0 (r.divided.apart i id n l k a.1 here (number_there (claims l) n calls c) (subst (λ m. Contains (numbers k) m) (sym q) answers))) ∙ z.0, z.1);
                  listened = λ g c. begins_trans told log g (begins_append told log (e ∷ []) longer) (o.listened g c);
                  turned = λ p. absurd (a.0 (r.queued.tickets i id served l k a.1 here (o.turned p).0 (mine.turned turn).0));
                })
                (seat_cases s.views id i k' l x);
            unborn = λ n le. let le' : length s.views ≤ n = subst (λ m. m ≤ n) (length-set s.views id (Some k')) le in other n (λ q. let c = below in omega (arith, c, le', q)) ∙ r.unborn n le';
            divided = divided_same s.views id k k' here refl refl refl r.divided;
            queued = queued_same s.views id served drawn k k' here refl r.queued;
            home = λ all. absurd (all id k' (set_here s.views id (Some k') below) turn);
          },
        ),
        (λ k0 h0 p q. let same : k ≡ k0 = some_same k k0 p in
            let held : told ≡ h0.history.items = same_slot h h0 _ _ refl refl q in
            ap (λ (z : Known S C). (let m : Me (Option (Held S C)) (View S C) = (Some (record z { seen = told; mine = calls_by z.number told }), (0, Some h) ∷ []) in m)) same
            ∙ ap (λ (l : List (Entry C)). (let m : Me (Option (Held S C)) (View S C) = (Some (record k0 { seen = l; mine = calls_by k0.number l }), (0, Some h) ∷ []) in m)) held),
      )

  pub ends : (slots id : ℕ) (k : Known S C) (h : Held S C) → k.turn ≡ true → h.history.items ≡ k.seen → h.state ≡ state_after after k.first k.seen
      → Allows (Kept after allowed first) slots id (Some k, (0, Some h) ∷ []) 2 (λ n. (n + 1) % 2 ^ 64) (λ found now. Ends (Some k, (0, Some h) ∷ []) now)
  ends slots id k h turn entries state s kept wide here bound =
      let log = kept.0 in
      let served = kept.1 in
      let drawn = kept.2 in
      let r = kept.3 in
      let mine = r.known id k here in
      let k' : Known S C = record k { ticket = None; turn = false } in
      let was : k.seen ≡ log = (mine.turned turn).1 in
      let ticket_is = (mine.turned turn).0 in (
        Some k',
        gives,
        tt,
        (
          log,
          served + 1,
          drawn,
          record {
            words = ap (λ ws. set ws 2 ((get_or ws 2 0 + 1) % 2 ^ 64)) r.words ∙ ap (λ x. length log ∷ (drawn % 2 ^ 64) ∷ x ∷ []) (let w : (served % 2 ^ 64 + 1) % 2 ^ 64 ≡ (served + 1) % 2 ^ 64 = omega arith in w);
            homes = length-set s.homes 0 (some (Some h)) ∙ r.homes;
            short = r.short;
            legal = r.legal;
            known = λ i l x. ⊎_elim
                (λ a. subst (λ z. IsKnown after allowed first log (served + 1) i z) a.1 record { first_is = mine.first_is; number_is = mine.number_is ∙ sym a.0; begins = mine.begins; claimed = mine.claimed; listened = mine.listened; turned = λ p. absurd (true≢false (sym p)) })
                (λ a. let o = r.known i l a.1 in
                record {
                  first_is = o.first_is;
                  number_is = o.number_is;
                  begins = o.begins;
                  claimed = o.claimed;
                  listened = o.listened;
                  turned = λ p. absurd (a.0 (r.queued.tickets i id served l k a.1 here (o.turned p).0 ticket_is));
                })
                (seat_cases s.views id i k' l x);
            unborn = λ n le. r.unborn n (subst (λ m. m ≤ n) (length-set s.views id (Some k')) le);
            divided = divided_same s.views id k k' here refl refl refl r.divided;
            queued = queued_ends s.views id served drawn k k' here ticket_is refl r.queued;
            home = λ all. (h, set_here s.homes 0 (some (Some h)) (let n = r.homes in omega (arith, n)), record { entries = entries ∙ was; state = state ∙ (ap (λ x. state_after after x k.seen) mine.first_is ∙ ap (λ l. state_after after first l) was) });
          },
        ),
        (λ k0 p. ap (λ (z : Known S C). (let m : Me (Option (Held S C)) (View S C) = (Some (record z { ticket = None; turn = false }), []) in m)) (some_same k k0 p)),
      )

  pub parts : (id : ℕ) (k : Known S C) → k.number ≡ 0 → k.made + 1 < 2 ^ 32 → Splits (Kept after allowed first) id (Some k) (parted (Some k)) (newborn (Some k))
  parts id k zeroth small s kept here =
      let log = kept.0 in
      let served = kept.1 in
      let drawn = kept.2 in
      let r = kept.3 in
      let mine = r.known id k here in
      let k' : Known S C = record k { made = k.made + 1 } in
      let born : Known S C = record { first = k.first; number = k.made + 1; seen = k.seen; mine = []; others = []; heard = []; made = 0; ticket = None; turn = false } in
      let answers : Contains (numbers k) 0 = subst (λ n. Contains (numbers k) n) zeroth (head_there k.number (numbers_in k.others)) in
      let count : k.made + 1 ≡ length s.views = r.divided.made id k here answers in
      let size : length (set s.views id (Some k') ++ Some born ∷ []) ≡ length s.views + 1 = length-append (set s.views id (Some k')) (Some born ∷ []) ∙ ap (λ n. n + 1) (length-set s.views id (Some k')) in
      let none_yet : calls_by (k.made + 1) log ≡ [] = r.unborn (k.made + 1) (omega (arith, count)) in (
        log,
        served,
        drawn,
        record {
          words = r.words;
          homes = r.homes;
          short = r.short;
          legal = r.legal;
          known = λ i l x. part_cases s.views id i k' born l
              (λ e f. subst (λ z. IsKnown after allowed first log served i z) f record { first_is = mine.first_is; number_is = mine.number_is ∙ sym e; begins = mine.begins; claimed = mine.claimed; listened = mine.listened; turned = mine.turned })
              (λ e f. r.known i l f)
              (λ e f. subst (λ z. IsKnown after allowed first log served i z) f record {
                first_is = mine.first_is;
                number_is = count ∙ sym e;
                begins = mine.begins;
                claimed = λ n calls c. ⊎_elim
                    (λ q. let m = sym (ap (λ z. z.0) q) in (ap (λ z. calls_by z log) m ∙ (none_yet ∙ ap (λ z. z.1) q), ap (λ z. calls_by z k.seen) m ∙ (calls_by_none (k.made + 1) log k.seen mine.begins none_yet ∙ ap (λ z. z.1) q)))
                    (λ t. let x = t.1 in absurd (omega (arith, x)))
                    (contains_cases (k.made + 1, []) [] (n, calls) c);
                listened = λ g c. absurd (no_list g c);
                turned = λ p. absurd (true≢false (sym p));
              })
              x;
          unborn = λ n le. r.unborn n (omega (arith, le, size));
          divided = divided_parts s.views id k here answers small r.divided;
          queued = queued_parts s.views id served drawn k k' born here refl refl r.queued;
          home = λ all. r.home (λ i l x t. ⊎_elim
              (λ e. all id k' (at_longer (set s.views id (Some k')) (Some born ∷ []) id (Some k') (set_here s.views id (Some k') (there_below s.views id (Some k) here))) (ap (λ z. z.turn) (one_there s.views id k l here (ap (λ z. get_elem? s.views z) (sym e) ∙ x)) ∙ t))
              (λ n. all i l (at_longer (set s.views id (Some k')) (Some born ∷ []) i (Some l) (set_else s.views id i (Some k') n ∙ x)) t)
              (same_or_not i id));
        },
      )

  pub merges : (id gone : ℕ) (k l : Known S C) → k.turn ≡ false → l.turn ≡ false → l.ticket ≡ None → Joins (Kept after allowed first) id (Some k) gone (Some l) (joined (Some k) (Some l)) None
  merges id gone k l still quiet idle s kept here apart after_set =
      let log = kept.0 in
      let served = kept.1 in
      let drawn = kept.2 in
      let r = kept.3 in
      let both : Known S C = record k { seen = longer k.seen l.seen; others = k.others ++ claims l; heard = k.heard ++ l.seen ∷ l.heard; made = max k.made l.made } in
      let there : get_elem? s.views gone ≡ some (Some l) = sym (set_else s.views id gone (Some both) apart) ∙ after_set in
      let mine = r.known id k here in
      let other = r.known gone l there in
      let long = longer_begins log k.seen l.seen mine.begins other.begins in
      let size : length (set (set s.views id (Some both)) gone None) ≡ length s.views = length-set (set s.views id (Some both)) gone None ∙ length-set s.views id (Some both) in (
        log,
        served,
        drawn,
        record {
          words = r.words;
          homes = r.homes;
          short = r.short;
          legal = r.legal;
          known = λ i m x. join_cases s.views id gone i both m
              (λ e f. subst (λ z. IsKnown after allowed first log served i z) f record {
                first_is = mine.first_is;
                number_is = mine.number_is ∙ sym e;
                begins = long.whole;
                claimed = λ n calls c. ⊎_elim
                    (λ p. let o = mine.claimed n calls p in (o.0, sym (calls_by_between n log (longer k.seen l.seen) k.seen long.whole long.left (o.0 ∙ sym o.1)) ∙ o.0))
                    (λ p. let o = other.claimed n calls p in (o.0, sym (calls_by_between n log (longer k.seen l.seen) l.seen long.whole long.right (o.0 ∙ sym o.1)) ∙ o.0))
                    (Contains-append_cases (claims k) (claims l) (n, calls) c);
                listened = λ g c. ⊎_elim (mine.listened g) (λ p. ⊎_elim (λ q. subst (λ h. Begins log h) q other.begins) (other.listened g) (contains_cases l.seen l.heard g p)) (Contains-append_cases k.heard (l.seen ∷ l.heard) g c);
                turned = λ p. absurd (true≢false (sym p ∙ still));
              })
              (λ e f g. r.known i m g)
              x;
          unborn = λ n le. r.unborn n (subst (λ m. m ≤ n) size le);
          divided = divided_joins s.views id gone k l both here there apart refl refl refl r.divided;
          queued = queued_joins s.views id gone served drawn k l both here after_set refl idle r.queued;
          home = λ all. r.home (λ i m x t. ⊎_elim
              (λ e. true≢false (sym t ∙ (ap (λ z. z.turn) (one_there s.views id m k (ap (λ z. get_elem? s.views z) (sym e) ∙ x) here) ∙ still)))
              (λ n. ⊎_elim
              (λ e. true≢false (sym t ∙ (ap (λ z. z.turn) (one_there s.views gone m l (ap (λ z. get_elem? s.views z) (sym e) ∙ x) there) ∙ quiet)))
              (λ o. all i m (set_else (set s.views id (Some both)) gone i None o ∙ (set_else s.views id i (Some both) n ∙ x)) t)
              (same_or_not i gone))
              (same_or_not i id));
        },
      )

  only_view : (v w : View S C) (j : ℕ) → get_elem? (v ∷ []) j ≡ some w → (j ≡ 0) × (v ≡ w)
  only_view v w zero e = (refl, some-injective v w e)
  only_view v w (suc j) e = absurd (some-ne-none w (sym e))

  pub opens : (xs : List (Option (Held S C))) (h : Held S C) → xs ≡ Some h ∷ [] → h.history.items ≡ [] → h.state ≡ first
      → Kept after allowed first (opening (0 ∷ 0 ∷ 0 ∷ []) xs (first_view first))
  opens xs h one none_yet state =
      let k : Known S C = record { first = first; number = 0; seen = []; mine = []; others = []; heard = []; made = 0; ticket = None; turn = false } in
      let Only : (i : ℕ) (l : Known S C) → get_elem? (Some k ∷ []) i ≡ some (Some l) → (i ≡ 0) × (k ≡ l) = λ i l x. let e = only_view (Some k) (Some l) i x in (e.0, some_same k l e.1) in
      subst (λ ys. Kept after allowed first (opening (0 ∷ 0 ∷ 0 ∷ []) ys (first_view first))) (sym one) (
        [],
        0,
        0,
        record {
          words = refl;
          homes = refl;
          short = omega arith;
          legal = tt;
          known = λ i l x. let e = Only i l x in subst (λ z. IsKnown after allowed first [] 0 i z) e.1 record { first_is = refl; number_is = sym e.0; begins = refl; claimed = λ n calls c. ⊎_elim (λ q. let m = ap (λ z. z.1) q in (m, m)) (λ t. let x = t.1 in absurd (omega (arith, x))) (contains_cases (0, []) [] (n, calls) c); listened = λ g c. absurd (no_list g c); turned = λ p. absurd (true≢false (sym p)) };
          unborn = λ n le. refl;
          divided = record {
            apart = λ i j n a b x y p q. (Only i a x).0 ∙ sym (Only j b y).0;
            born = λ i n a x p. let e = only_claim 0 n (subst (λ z. Contains (numbers z) n) (sym (Only i a x).1) p) in omega (arith, e);
            once = λ i a x p. nothing_there a.number (subst (λ z. Contains (numbers_in z.others) a.number) (sym (Only i a x).1) p);
            few = omega arith;
            least = λ i a x. let e = ap (λ z. z.made) (Only i a x).1 in omega (arith, e);
            made = λ i a x p. let e = ap (λ z. z.made) (Only i a x).1 in omega (arith, e);
          };
          queued = record {
            ticketed = λ i t a x p. absurd (none_of a.ticket t (ap (λ z. z.ticket) (sym (Only i a x).1)) p);
            tickets = λ i j t a b x y p q. (Only i a x).0 ∙ sym (Only j b y).0;
            waiting = omega arith;
          };
          home = λ all. (h, refl, record { entries = none_yet; state = state ∙ refl });
        },
      )
