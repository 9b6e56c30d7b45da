-- What the test that replays a history wants: each of its calls may be made, and what is sent is short.
use Rattle.std.proofs.Common.{◌≡◌, ℕ, zero, suc, ◌<◌, ◌≤◌, List, [], ◌∷◌, length, map, get_or, refl, sym, ◌∙◌, ap, subst, arith}
use Rattle.std.specs.Prelude.{slice_index_or}
use Rattle.seen_lock.specs.declared.object.Entry.{Entry}
use Rattle.bench.specs.Calls.{IsCall, AreCalls}
use Rattle.bench.specs.declared.call.Call.{Call}
use Rattle.rule_table.specs.Setups.{SetupView}
use Rattle.bench.proofs.ShortOuts.{short-area}
use Rattle.seq_space.specs.declared.Num.{Num}
use Rattle.tcp_segment.specs.Written.{FitsPacket}
use Rattle.tcp_segment.specs.declared.segment.Head.{Head}

call_at : (setup : SetupView) (shard : ℕ) (history : List (Entry Call)) (k : ℕ) (d : Entry Call) → AreCalls setup shard (map (λ (e : Entry Call). e.call) history) → k < length history
    → IsCall setup shard (get_or history k d).call
call_at setup shard [] k d may within = absurd (omega (arith, within))
call_at setup shard (e ∷ history) zero d may within = may.0
call_at setup shard (e ∷ history) (suc k) d may within = call_at setup shard history k d may.1 (omega (arith, within))

-- .. of the bench that has come so far
pub call_now : (setup s : SetupView) (shard g : ℕ) (history : List (Entry Call)) (k : ℕ) (e : Entry Call) → AreCalls setup shard (map (λ (x : Entry Call). x.call) history) → k < length history
    → e ≡ get_or history k e → s ≡ setup → g ≡ shard → IsCall s g e.call
call_now setup s shard g history k e may within is same here =
    subst (λ z. IsCall z g e.call) (sym same) (subst (λ n. IsCall setup n e.call) (sym here) (subst (λ (x : Entry Call). IsCall setup shard x.call) (sym is) (call_at setup shard history k e may within)))

-- a history among others, each of which lies in a vector
mapped : {V : Type 0} (f : V → List (Entry Call)) (xs : List V) (k : ℕ) (x : V) → k < length xs → x ≡ get_or xs k x → slice_index_or (map f xs) k (f x) ≡ f x
mapped f [] k x within is = absurd (omega (arith, within))
mapped f (y ∷ xs) zero x within is = ap f (sym is)
mapped f (y ∷ xs) (suc k) x within is = mapped f xs k x (omega (arith, within)) is

pub legal_at : {V : Type 0} (xs ys : List V) (x : V) (f : V → List (Entry Call)) (setup : SetupView) (k : ℕ) (history : List (Entry Call)) → k < length ys → ys ≡ xs → x ≡ get_or ys k x → history ≡ f x
    → ((h : List (Entry Call)) → AreCalls setup k (map (λ (e : Entry Call). e.call) (slice_index_or (map f xs) k h))) → AreCalls setup k (map (λ (e : Entry Call). e.call) history)
legal_at xs ys x f setup k history within same is history_is all =
    subst (λ h. AreCalls setup k (map (λ (e : Entry Call). e.call) h))
    (mapped f xs k x (subst (λ zs. k < length zs) same within) (subst (λ zs. x ≡ get_or zs k x) same is) ∙ sym history_is) (all (f x))

no_blocks : (blocks : List (Num × Num)) → length blocks ≡ 0 → blocks ≡ []
no_blocks [] none = refl
no_blocks (b ∷ blocks) none = absurd (omega (arith, none))

pub short : (h : Head) (n : ℕ) → length h.options.sack ≡ 0 → n ≤ 1460 → FitsPacket h n
short h n none few =
    let area = short-area h.options (no_blocks h.options.sack none) in
    record { area = omega (arith, area); size = omega (arith, area, few) }
