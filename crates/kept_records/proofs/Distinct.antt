-- No two entries are of one flow: so each is found by its flow, none is left of a flow that is dropped, and to drop the last
-- entry's flow is to drop the last entry.
use Rattle.std.proofs.Common.{◌≡◌, ℕ, zero, suc, ◌-◌, Bool, true, false, [], ◌∷◌, length, Option, Some, None, refl, sym, ◌∙◌, ap, subst, arith}
use Rattle.std.specs.Prelude.{cond, slice_get, take, option_map}
use Rattle.std.specs.List.{AllByRecursion, IsDistinct}
use Rattle.std.specs.Map.{keys_of}
use Rattle.std.proofs.lemmas.Bool.{false≢true}
use Rattle.std.proofs.lemmas.List.{take_all}
use Rattle.std.proofs.lemmas.Option.{none-some, same_Some, slice_get-get_or}
use Rattle.lru.specs.LruCache.{last_entry}
use Rattle.flow_id.specs.Keys.{same_flow}
use Rattle.flow_id.specs.declared.key.Flow.{Flow}
use Rattle.flow_id.proofs.SameKeys.{exact_flow, same_flow_itself}
use Rattle.kept_records.specs.Entries.{Entries, AreDistinct, kept_of, without}
use Rattle.kept_records.specs.declared.entry.Kept.{Kept}

-- the flow is not one of these entries'
abbrev pub IsOther : Flow → Entries → Type 0
IsOther flow es = AllByRecursion (λ e. same_flow flow e.0 ≡ false) es

parts : (e : Flow × Kept) (es : Entries) → AreDistinct (e ∷ es) → IsOther e.0 es × AreDistinct es
unfolding IsDistinct
parts e es distinct = (others es distinct.0, distinct.1)
  where
    others : (fs : Entries) → AllByRecursion (λ g. same_flow e.0 g ≡ false) (keys_of fs) → IsOther e.0 fs
    others [] all = tt
    others (f ∷ fs) all = (all.0, others fs all.1)

-- flows that differ one way differ the other way
apart_back : (f g : Flow) → same_flow f g ≡ false → same_flow g f ≡ false
apart_back f g apart = by (same_flow g f) refl
  where
    by : (b : Bool) → same_flow g f ≡ b → same_flow g f ≡ false
    by true same = absurd (false≢true (sym apart ∙ subst (λ (h : Flow). same_flow f h ≡ true) (sym (exact_flow g f same)) (same_flow_itself f)))
    by false other = other

-- ---- each entry is found by its flow
found_behind : (e : Flow × Kept) (whole es : Entries) → IsOther e.0 es → AllByRecursion (λ f. kept_of whole f.0 ≡ Some f.1) es → AllByRecursion (λ f. kept_of (e ∷ whole) f.0 ≡ Some f.1) es
found_behind e whole [] others all = tt
found_behind e whole (f ∷ es) others all =
    (ap (λ (b : Bool). cond b (Some e.1) (kept_of whole f.0)) (apart_back e.0 f.0 others.0) ∙ all.0, found_behind e whole es others.1 all.1)

pub is_kept : (es : Entries) → AreDistinct es → AllByRecursion (λ e. kept_of es e.0 ≡ Some e.1) es
is_kept [] distinct = tt
is_kept (e ∷ es) distinct =
    let p = parts e es distinct in
    (ap (λ (b : Bool). cond b (Some e.1) (kept_of es e.0)) (same_flow_itself e.0), found_behind e es es p.0 (is_kept es p.1))

-- ---- none is left of a flow that is dropped
pub gone : (es : Entries) (flow : Flow) → AreDistinct es → IsOther flow (without es flow)
gone [] flow distinct = tt
gone (e ∷ es) flow distinct = by (same_flow flow e.0) refl (gone es flow (parts e es distinct).1)
  where
    by : (b : Bool) → same_flow flow e.0 ≡ b → IsOther flow (without es flow) → IsOther flow (cond b es (e ∷ without es flow))
    by true same rest = subst (λ (g : Flow). IsOther g es) (sym (exact_flow flow e.0 same)) (parts e es distinct).0
    by false other rest = (other, rest)

-- ---- the last entry
other_at : (flow : Flow) (es : Entries) (n : ℕ) (e : Flow × Kept) → IsOther flow es → slice_get es n ≡ Some e → same_flow flow e.0 ≡ false
other_at flow [] n e others is = absurd (none-some e is)
other_at flow (f ∷ es) zero e others is = subst (λ (g : Flow × Kept). same_flow flow g.0 ≡ false) (same_Some _ _ is) others.0
other_at flow (f ∷ es) (suc n) e others is = other_at flow es n e others.1 is

pub last_gone : (es : Entries) (n : ℕ) (e : Flow × Kept) → AreDistinct es → length es ≡ suc n → slice_get es n ≡ Some e → without es e.0 ≡ take n es
last_gone [] n e distinct long is = absurd (omega (arith, long))
last_gone (f ∷ es) zero e distinct long is =
    ap (λ (b : Bool). cond b es (f ∷ without es e.0)) (subst (λ (g : Flow × Kept). same_flow g.0 f.0 ≡ true) (same_Some _ _ is) (same_flow_itself f.0))
    ∙ no_more es (omega (arith, long))
  where
    no_more : (fs : Entries) → length fs ≡ 0 → fs ≡ []
    no_more [] none = refl
    no_more (g ∷ fs) none = absurd (omega (arith, none))
last_gone (f ∷ es) (suc n) e distinct long is =
    let p = parts f es distinct in
    ap (λ (b : Bool). cond b es (f ∷ without es e.0)) (apart_back f.0 e.0 (other_at f.0 es n e p.0 is))
    ∙ ap (λ l. f ∷ l) (last_gone es n e p.1 (omega (arith, long)) is)

-- the last of one more than the limit is dropped
pub settled : (es : Entries) (n : ℕ) (flow : Flow) → AreDistinct es → length es ≡ suc n → option_map (λ e. e.0) (last_entry es) ≡ Some flow → without es flow ≡ take n es
settled es n flow distinct long is =
    by (slice_get es n) refl (ap (λ m. option_map (λ (e : Flow × Kept). e.0) (slice_get es m)) (sym (omega (arith, long))) ∙ is)
  where
    by : (o : Option (Flow × Kept)) → slice_get es n ≡ o → option_map (λ (e : Flow × Kept). e.0) (slice_get es n) ≡ Some flow → without es flow ≡ take n es
    by None at of = absurd (none-some flow (sym (ap (option_map (λ (e : Flow × Kept). e.0)) at) ∙ of))
    by (Some e) at of =
        let same : e.0 ≡ flow = same_Some _ _ (sym (ap (option_map (λ (e : Flow × Kept). e.0)) at) ∙ of) in
        subst (λ (f : Flow). without es f ≡ take n es) same (last_gone es n e distinct long at)

-- a list without a last entry is empty
pub none_last : (es : Entries) (n : ℕ) → option_map (λ e. e.0) (last_entry es) ≡ None → es ≡ take n es
none_last [] n none = sym (take_all n [] (omega arith))
none_last (e ∷ es) n none =
    absurd (none-some _ (sym none ∙ ap (option_map (λ (f : Flow × Kept). f.0)) (slice_get-get_or (e ∷ es) (length (e ∷ es) - 1) e (omega arith))))
