use Rattle.std.proofs.Common.{◌≡◌, ◌++◌, drop, map, option_map}
use Rattle.std.specs.Option.{option_and_then}
use Rattle.toml.specs.Data.{as_str}
use Rattle.toml.specs.View.{view}
use Rattle.rule_text.specs.Forms.{is_server_name, kept_if}
use Rattle.rule_text.specs.Values.{all_of}
use Rattle.rule_text.proofs.lists.names.Given as goal

abbrev pub invariant-loop-value : goal.invariant-loop-value
invariant-loop-value l =
    all_of (λ d. option_and_then (kept_if is_server_name) (as_str d)) (map view l.array.items)
    ≡ option_map (λ more. map (λ s. s.now) l.names.items ++ more) (all_of (λ d. option_and_then (kept_if is_server_name) (as_str d)) (map view (drop l.value-index l.array.items)))
