use Rattle.std.proofs.Common.{◌≡◌, ◌++◌, map, drop}
use Rattle.std.specs.List.{zip}
use Rattle.rule_text.specs.Document.{names_of, place_among}
use Rattle.rule_text.specs.WrittenViews.{named}
use Rattle.rule_text.proofs.build.choices_of.Given as goal

abbrev pub invariant-loop-n : goal.invariant-loop-n
invariant-loop-n l =
    let places = map (place_among (names_of (map named l.servers))) in
    zip (places (map (λ s. s.now) l.to)) l.weights ≡ l.pairs.items ++ zip (places (map (λ s. s.now) (drop l.n l.to))) (drop l.n l.weights)
