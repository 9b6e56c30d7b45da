use Rattle.std.proofs.Common.{◌≡◌, ◌++◌, drop, map, option_map}
use Rattle.toml.specs.Data.{as_integer}
use Rattle.toml.specs.View.{view}
use Rattle.rule_text.specs.Values.{all_of}
use Rattle.rule_text.proofs.lists.integers.Given as goal

abbrev pub invariant-loop-value : goal.invariant-loop-value
invariant-loop-value l =
    all_of as_integer (map view l.array.items)
    ≡ option_map (λ more. l.numbers.items ++ more) (all_of as_integer (map view (drop l.value-index l.array.items)))
