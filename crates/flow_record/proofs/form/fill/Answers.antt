use Rattle.std.proofs.Common.{◌≡◌, ℕ, ◌+◌, ◌-◌, List, ◌∷◌, ◌++◌, suc, length, drop, replicate, ap, ◌∙◌, arith}
use Rattle.std.proofs.lemmas.List.{drop-replicate}
use Rattle.flow_record.proofs.form.fill.Goals as goal

-- the zeros that the fields leave
zeros_left : (n m : ℕ) → m ≡ n → drop {A = ℕ} m (replicate 22 0) ≡ replicate (24 - suc (suc n)) 0
zeros_left n m same = drop-replicate m 22 0 ∙ ap (λ (k : ℕ). replicate {A = ℕ} k 0) (omega arith)

pub returns-clause-filled : goal.returns-clause-filled
returns-clause-filled c =
    let n : ℕ = length c.args.fields.now in
    let left = zeros_left n (2 + n - 2) (omega arith) in
    ap (λ (xs : List ℕ). c.args.version ∷ c.args.kind ∷ (c.copy_from_slice.new.self ++ xs)) left ∙ ap (λ (xs : List ℕ). c.args.version ∷ c.args.kind ∷ (xs ++ replicate (24 - suc (suc n)) 0)) c.copy_from_slice.ensures.after
