use Rattle.std.proofs.Common.{◌≡◌, ◌++◌, drop, map, vec_len}
use Rattle.toml.specs.View.{table_view}
use Rattle.rule_text.specs.Steps.{answered, each}
use Rattle.rule_text.specs.Written.{rule_of}
use Rattle.rule_text.specs.WrittenViews.{written}
use Rattle.rule_text.proofs.written.rule_list.Given as goal

abbrev pub invariant-loop-n : goal.invariant-loop-n
invariant-loop-n l = record {
  same : each rule_of 0 (map (λ t. table_view t.now) l.tables)
      ≡ answered (λ more. map written l.rules.items ++ more) (each rule_of l.n (map (λ t. table_view t.now) (drop l.n l.tables)));
  count : vec_len l.rules ≡ l.n;
}
