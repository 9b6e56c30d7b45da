-- What a SYN's line was told, life by life.
use Rattle.std.proofs.Common.{◌≡◌, ℕ, ◌+◌, ◌≤◌, Bool, true, false, cond, List, [], ◌∷◌, ◌++◌, refl, sym, ap, ◌∙◌, subst, inl, inr, arith, append_assoc}
use Rattle.std.specs.Prelude.{◌==◌, nat_le}
use Rattle.std.proofs.lemmas.Bool.{eqb-true, eqb-false, leb-true, leb-false, cases_eq}
use Rattle.flow_id.specs.declared.key.Flow.{Flow}
use Rattle.flow_id.specs.declared.key.Side.TheVariants as side
use Rattle.flow_id.specs.declared.key.Key.TheVariants as key
use Rattle.flow_record.specs.declared.record.Record.{Record}
use Rattle.flow_record.specs.declared.record.Ask.{Ask}
use Rattle.flow_record.specs.declared.record.Ask.TheVariants.{Get, Add}
use Rattle.flow_record.specs.Records.{syn_number}
use Rattle.life_chain.specs.declared.answer.Answer.{Answer}
use Rattle.life_chain.specs.declared.answer.Answer.TheVariants.{Decided, Absent, Down}
use Rattle.life_chain.specs.Lives.{Stand, asks, settled, other, unknown, spent, flow_at, opening, resetting}
use Rattle.life_chain.specs.Laws.{Told, ToldSome, ToldBarred, HasEnded, by_reset, by_close, HasNotEnded, still_open, PassedOver, Reached, adds_syn, gets_gone, gets_fin, Opens}

-- what was told behind some answers was told
pub lift : (at later : List Answer → Stand) (block answers : List Answer) (ask : Ask) (got : Answer)
    → ((xs : List Answer) → at (block ++ xs) ≡ later xs) → Told later answers ask got → Told at (block ++ answers) ask got
lift at later block answers ask got same t = record {
  before = block ++ t.before;
  after = t.after;
  parts = ap (λ x. block ++ x) t.parts ∙ sym (append_assoc block t.before (got ∷ t.after));
  asked = same t.before ∙ t.asked;
}

pub lift_some : (at later : List Answer → Stand) (block answers : List Answer) (ask : Ask)
    → ((xs : List Answer) → at (block ++ xs) ≡ later xs) → ToldSome later answers ask → ToldSome at (block ++ answers) ask
lift_some at later block answers ask same t = record {
  decided = t.decided;
  told = lift at later block answers ask (Decided t.decided) same t.told;
}

pub lift_barred : (at later : List Answer → Stand) (block answers : List Answer)
    → ((xs : List Answer) → at (block ++ xs) ≡ later xs) → ToldBarred later answers → ToldBarred at (block ++ answers)
lift_barred at later block answers same t = record {
  ask = t.ask;
  got = t.got;
  told = lift at later block answers t.ask t.got same t.told;
  barred = t.barred;
}

-- that each cell had failed is no answer of a line
pub down_barred : (at : List Answer → Stand) (answers : List Answer) (ask : Ask) → Told at answers ask Down → ToldBarred at answers
down_barred at answers ask t = record { ask = ask; got = Down; told = t; barred = λ b. b }

module _ (flow : Flow) (own : Record) (at later : List Answer → Stand) (block : List Answer) (same : (xs : List Answer) → at (block ++ xs) ≡ later xs) where
  lift_ended : (answers : List Answer) (life : ℕ) → HasEnded later answers flow life → HasEnded at (block ++ answers) flow life
  lift_ended answers life (by_reset t) = by_reset (lift_some at later block answers _ same t)
  lift_ended answers life (by_close t u) = by_close (lift_some at later block answers _ same t) (lift_some at later block answers _ same u)

  lift_not_ended : (answers : List Answer) (life : ℕ) → HasNotEnded later answers flow life → HasNotEnded at (block ++ answers) flow life
  lift_not_ended answers life (still_open from t u) =
      still_open from (lift at later block answers _ Absent same t) (lift at later block answers _ Absent same u)

  lift_passed : (answers : List Answer) (life : ℕ) → PassedOver later answers flow own life → PassedOver at (block ++ answers) flow own life
  lift_passed answers life p = record {
    syn = p.syn;
    told = lift at later block answers (Add (key.Syn (flow_at flow life)) own) (Decided p.syn) same p.told;
    differs = p.differs;
    ended = lift_ended answers life p.ended;
  }

  -- the first life was passed over, and so were those behind it
  passes : (answers : List Answer) (first life : ℕ) → PassedOver at (block ++ answers) flow own first
      → (first + 1 ≤ life → PassedOver later answers flow own life) → first ≤ life → PassedOver at (block ++ answers) flow own life
  passes answers first life p rest low =
      elim (cases_eq first life) [
        | inl e ↦ subst (λ l. PassedOver at (block ++ answers) flow own l) e p
        | inr ne ↦ lift_passed answers life (rest (omega (arith, ne)))
      ]

  lift_reached : (answers : List Answer) (first life : ℕ) → PassedOver at (block ++ answers) flow own first
      → Reached later answers flow own (first + 1) life → Reached at (block ++ answers) flow own first life
  lift_reached answers first life p r = record {
    above = let more = r.above in omega arith;
    below = r.below;
    passed = λ l low high. passes answers first l p (λ more. r.passed l more high) low;
  }

  lift_opens : (answers : List Answer) (first : ℕ) (s : Stand) → PassedOver at (block ++ answers) flow own first
      → Opens later answers flow own (first + 1) s → Opens at (block ++ answers) flow own first s
  lift_opens answers first (asks ask) p o = record {
    life = o.life;
    reached = lift_reached answers first o.life p o.reached;
    is_ask = o.is_ask;
  }
  lift_opens answers first (settled life syn rest) p o = record {
    reached = lift_reached answers first life p o.reached;
    told = lift at later block answers (Add (key.Syn (flow_at flow life)) own) (Decided syn) same o.told;
    same = o.same;
  }
  lift_opens answers first (other n) p o = record {
    life = o.life;
    reached = lift_reached answers first o.life p o.reached;
    syn = o.syn;
    told = lift at later block answers (Add (key.Syn (flow_at flow o.life)) own) (Decided o.syn) same o.told;
    number = o.number;
    differs = o.differs;
    unended = lift_not_ended answers o.life o.unended;
  }
  lift_opens answers first spent p o = λ l low high. passes answers first l p (λ more. o l more high) low
  lift_opens answers first unknown p o = lift_barred at later block answers same o

module _ (flow : Flow) (own : Record) where
  -- no life before the first
  here : (answers : List Answer) (first : ℕ) → first ≤ 7 → Reached (opening flow own first) answers flow own first first
  here answers first few = record {
    above = omega arith;
    below = few;
    passed = λ l low high. absurd (omega arith);
  }

  abbrev differs_at : ℕ → Record → Type 0
  differs_at first syn = (syn_number syn == syn_number own) ≡ false

  -- behind a Syn with another number the life has to have ended
  behind_syn : (first : ℕ) (syn : Record) → differs_at first syn → (xs : List Answer)
      → opening flow own first (Decided syn ∷ xs) ≡ resetting flow own first (syn_number syn) xs
  behind_syn first syn e xs = ap (λ b. cond b (settled first syn xs) (resetting flow own first (syn_number syn) xs)) e

  told_own : (first : ℕ) (got : Answer) (xs : List Answer)
      → Told (opening flow own first) (got ∷ xs) (Add (key.Syn (flow_at flow first)) own) got
  told_own first got xs = record { before = []; after = xs; parts = refl; asked = refl }

  told_syn : (first : ℕ) (syn : Record) (xs : List Answer)
      → Told (opening flow own first) (Decided syn ∷ xs) (Add (key.Syn (flow_at flow first)) own) (Decided syn)
  told_syn first syn xs = told_own first (Decided syn) xs

  told_gone : (first : ℕ) (syn : Record) → differs_at first syn → (got : Answer) (xs : List Answer)
      → Told (opening flow own first) (Decided syn ∷ got ∷ xs) (Get (key.Gone (flow_at flow first))) got
  told_gone first syn e got xs = record { before = Decided syn ∷ []; after = xs; parts = refl; asked = behind_syn first syn e [] }

  told_client : (first : ℕ) (syn : Record) → differs_at first syn → (got : Answer) (xs : List Answer)
      → Told (opening flow own first) (Decided syn ∷ Absent ∷ got ∷ xs) (Get (key.Fin (flow_at flow first) side.Client)) got
  told_client first syn e got xs =
      record { before = Decided syn ∷ Absent ∷ []; after = xs; parts = refl; asked = behind_syn first syn e (Absent ∷ []) }

  told_server : (first : ℕ) (syn fin : Record) → differs_at first syn → (got : Answer) (xs : List Answer)
      → Told (opening flow own first) (Decided syn ∷ Absent ∷ Decided fin ∷ got ∷ xs) (Get (key.Fin (flow_at flow first) side.Server)) got
  told_server first syn fin e got xs =
      record { before = Decided syn ∷ Absent ∷ Decided fin ∷ []; after = xs; parts = refl; asked = behind_syn first syn e (Absent ∷ Decided fin ∷ []) }

  -- by the number of the life's Syn
  by_number : (first : ℕ) (syn : Record) (xs : List Answer) → first ≤ 7
      → (differs_at first syn → Opens (opening flow own first) (Decided syn ∷ xs) flow own first (resetting flow own first (syn_number syn) xs))
      → Opens (opening flow own first) (Decided syn ∷ xs) flow own first (opening flow own first (Decided syn ∷ xs))
  by_number first syn xs few differ = go (syn_number syn == syn_number own) refl
    where
      go : (b : Bool) → (syn_number syn == syn_number own) ≡ b
          → Opens (opening flow own first) (Decided syn ∷ xs) flow own first (cond b (settled first syn xs) (resetting flow own first (syn_number syn) xs))
      go true e = record { reached = here (Decided syn ∷ xs) first few; told = told_syn first syn xs; same = eqb-true _ _ e }
      go false e = differ e

  -- behind a life that was passed over stands the next, or none
  by_last : (first : ℕ) (block xs : List Answer) → first ≤ 7
      → ((more : List Answer) → opening flow own first (block ++ more) ≡ cond (nat_le 7 first) spent (opening flow own (first + 1) more))
      → PassedOver (opening flow own first) (block ++ xs) flow own first
      → (first + 1 ≤ 7 → Opens (opening flow own (first + 1)) xs flow own (first + 1) (opening flow own (first + 1) xs))
      → Opens (opening flow own first) (block ++ xs) flow own first (cond (nat_le 7 first) spent (opening flow own (first + 1) xs))
  by_last first block xs few same p rest = go (nat_le 7 first) refl
    where
      go : (b : Bool) → nat_le 7 first ≡ b → Opens (opening flow own first) (block ++ xs) flow own first (cond b spent (opening flow own (first + 1) xs))
      go true e = λ l low high. subst (λ k. PassedOver (opening flow own first) (block ++ xs) flow own k) (let last = leb-true 7 first e in omega arith) p
      go false e =
          lift_opens flow own (opening flow own first) (opening flow own (first + 1)) block
          (λ more. same more ∙ ap (λ b. cond b spent (opening flow own (first + 1) more)) e)
          xs first (opening flow own (first + 1) xs) p (rest (let more = leb-false 7 first e in omega arith))

  asks_gone : (first : ℕ) (syn : Record) → first ≤ 7 → Opens (opening flow own first) (Decided syn ∷ []) flow own first (opening flow own first (Decided syn ∷ []))
  asks_gone first syn few = by_number first syn [] few (λ e. record { life = first; reached = here _ first few; is_ask = gets_gone })

  asks_client : (first : ℕ) (syn : Record) → first ≤ 7
      → Opens (opening flow own first) (Decided syn ∷ Absent ∷ []) flow own first (opening flow own first (Decided syn ∷ Absent ∷ []))
  asks_client first syn few = by_number first syn (Absent ∷ []) few (λ e. record { life = first; reached = here _ first few; is_ask = gets_fin side.Client })

  asks_server : (first : ℕ) (syn fin : Record) → first ≤ 7
      → Opens (opening flow own first) (Decided syn ∷ Absent ∷ Decided fin ∷ []) flow own first (opening flow own first (Decided syn ∷ Absent ∷ Decided fin ∷ []))
  asks_server first syn fin few =
      by_number first syn (Absent ∷ Decided fin ∷ []) few (λ e. record { life = first; reached = here _ first few; is_ask = gets_fin side.Server })

  after_reset : (first : ℕ) (syn gone : Record) (xs : List Answer) → first ≤ 7
      → (first + 1 ≤ 7 → Opens (opening flow own (first + 1)) xs flow own (first + 1) (opening flow own (first + 1) xs))
      → Opens (opening flow own first) (Decided syn ∷ Decided gone ∷ xs) flow own first (opening flow own first (Decided syn ∷ Decided gone ∷ xs))
  after_reset first syn gone xs few rest =
      by_number first syn (Decided gone ∷ xs) few
      (λ e. by_last first (Decided syn ∷ Decided gone ∷ []) xs few (λ more. behind_syn first syn e (Decided gone ∷ more))
      (record {
        syn = syn;
        told = told_syn first syn (Decided gone ∷ xs);
        differs = eqb-false _ _ e;
        ended = by_reset (record { decided = gone; told = told_gone first syn e (Decided gone) xs });
      }) rest)

  after_close : (first : ℕ) (syn fin close : Record) (xs : List Answer) → first ≤ 7
      → (first + 1 ≤ 7 → Opens (opening flow own (first + 1)) xs flow own (first + 1) (opening flow own (first + 1) xs))
      → Opens (opening flow own first) (Decided syn ∷ Absent ∷ Decided fin ∷ Decided close ∷ xs) flow own first (opening flow own first (Decided syn ∷ Absent ∷ Decided fin ∷ Decided close ∷ xs))
  after_close first syn fin close xs few rest =
      by_number first syn (Absent ∷ Decided fin ∷ Decided close ∷ xs) few
      (λ e. by_last first (Decided syn ∷ Absent ∷ Decided fin ∷ Decided close ∷ []) xs few (λ more. behind_syn first syn e (Absent ∷ Decided fin ∷ Decided close ∷ more))
      (record {
        syn = syn;
        told = told_syn first syn (Absent ∷ Decided fin ∷ Decided close ∷ xs);
        differs = eqb-false _ _ e;
        ended = by_close
            (record { decided = fin; told = told_client first syn e (Decided fin) (Decided close ∷ xs) })
            (record { decided = close; told = told_server first syn fin e (Decided close) xs });
      }) rest)

  client_open : (first : ℕ) (syn : Record) (xs : List Answer) → first ≤ 7
      → Opens (opening flow own first) (Decided syn ∷ Absent ∷ Absent ∷ xs) flow own first (opening flow own first (Decided syn ∷ Absent ∷ Absent ∷ xs))
  client_open first syn xs few =
      by_number first syn (Absent ∷ Absent ∷ xs) few
      (λ e. record {
        life = first;
        reached = here _ first few;
        syn = syn;
        told = told_syn first syn (Absent ∷ Absent ∷ xs);
        number = refl;
        differs = eqb-false _ _ e;
        unended = still_open side.Client (told_gone first syn e Absent (Absent ∷ xs)) (told_client first syn e Absent xs);
      })

  server_open : (first : ℕ) (syn fin : Record) (xs : List Answer) → first ≤ 7
      → Opens (opening flow own first) (Decided syn ∷ Absent ∷ Decided fin ∷ Absent ∷ xs) flow own first (opening flow own first (Decided syn ∷ Absent ∷ Decided fin ∷ Absent ∷ xs))
  server_open first syn fin xs few =
      by_number first syn (Absent ∷ Decided fin ∷ Absent ∷ xs) few
      (λ e. record {
        life = first;
        reached = here _ first few;
        syn = syn;
        told = told_syn first syn (Absent ∷ Decided fin ∷ Absent ∷ xs);
        number = refl;
        differs = eqb-false _ _ e;
        unended = still_open side.Server (told_gone first syn e Absent (Decided fin ∷ Absent ∷ xs)) (told_server first syn fin e Absent xs);
      })

  pub opens_from : (first : ℕ) (answers : List Answer) → first ≤ 7 → Opens (opening flow own first) answers flow own first (opening flow own first answers)
  opens_from first [] few = record { life = first; reached = here [] first few; is_ask = adds_syn }
  opens_from first (Absent ∷ xs) few = record {
    ask = Add (key.Syn (flow_at flow first)) own;
    got = Absent;
    told = told_own first Absent xs;
    barred = λ b. b;
  }
  opens_from first (Down ∷ xs) few = down_barred _ _ _ (told_own first Down xs)
  opens_from first (Decided syn ∷ []) few = asks_gone first syn few
  opens_from first (Decided syn ∷ Decided gone ∷ xs) few = after_reset first syn gone xs few (opens_from (first + 1) xs)
  opens_from first (Decided syn ∷ Down ∷ xs) few = by_number first syn (Down ∷ xs) few (λ e. down_barred _ _ _ (told_gone first syn e Down xs))
  opens_from first (Decided syn ∷ Absent ∷ []) few = asks_client first syn few
  opens_from first (Decided syn ∷ Absent ∷ Absent ∷ xs) few = client_open first syn xs few
  opens_from first (Decided syn ∷ Absent ∷ Down ∷ xs) few =
      by_number first syn (Absent ∷ Down ∷ xs) few (λ e. down_barred _ _ _ (told_client first syn e Down xs))
  opens_from first (Decided syn ∷ Absent ∷ Decided fin ∷ []) few = asks_server first syn fin few
  opens_from first (Decided syn ∷ Absent ∷ Decided fin ∷ Decided close ∷ xs) few = after_close first syn fin close xs few (opens_from (first + 1) xs)
  opens_from first (Decided syn ∷ Absent ∷ Decided fin ∷ Absent ∷ xs) few = server_open first syn fin xs few
  opens_from first (Decided syn ∷ Absent ∷ Decided fin ∷ Down ∷ xs) few =
      by_number first syn (Absent ∷ Decided fin ∷ Down ∷ xs) few (λ e. down_barred _ _ _ (told_server first syn fin e Down xs))
