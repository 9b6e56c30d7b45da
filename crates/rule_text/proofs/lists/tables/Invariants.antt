use Rattle.std.proofs.Common.{◌≡◌, ◌++◌, drop, map, option_map, vec_len}
use Rattle.toml.specs.Data.{as_table}
use Rattle.toml.specs.View.{table_view, view}
use Rattle.rule_text.specs.Values.{all_of}
use Rattle.rule_text.proofs.lists.tables.Given as goal

abbrev pub invariant-loop-value : goal.invariant-loop-value
invariant-loop-value l = record {
  same : all_of as_table (map view l.array.items)
      ≡ option_map (λ more. map (λ t. table_view t.now) l.tables.items ++ more) (all_of as_table (map view (drop l.value-index l.array.items)));
  count : vec_len l.tables ≡ l.value-index;
}
