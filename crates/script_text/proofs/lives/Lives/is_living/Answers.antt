use Rattle.std.proofs.Common.{◌≡◌, ℕ, leb, sym, ap, subst, rules, of_calls}
use Rattle.std.specs.List.{count_by}
use Rattle.std.proofs.lemmas.Fn.{always_returns_same}
use Rattle.std.proofs.lemmas.List.Sorted.{IsPartitionedBy-leb}
use Rattle.script_text.specs.Changes.{is_even}
use Rattle.script_text.proofs.LifeLemmas.{count-point}
use Rattle.script_text.proofs.lives.Lives.is_living.Goals as goal

pub returns : goal.returns
returns c = λ sorted.
    let item : ℕ = c.args.item in
    let parted = IsPartitionedBy-leb (λ x. x) c.of.result.now item (rw c.of.ensures sorted) in
    let key = always_returns_same _ _ _ (λ a r f k. search (rules, of_calls)) in
    let at = c.partition_point.ensures.partitioned (λ x. leb x item) key parted in
    subst (λ xs. is_even c.partition_point.result ≡ is_even (count_by (λ x. leb x item) xs)) c.of.ensures
    (ap is_even (sym (count-point (λ x. leb x item) c.of.result.now c.partition_point.result c.partition_point.ensures.bound at)))
