use Rattle.std.proofs.Common.{◌≡◌, ◌++◌, drop, map, vec_len}
use Rattle.toml.specs.View.{table_view}
use Rattle.rule_text.specs.Steps.{answered, each}
use Rattle.rule_text.specs.Written.{server_of}
use Rattle.rule_text.specs.WrittenViews.{named}
use Rattle.rule_text.proofs.written.server_list.Given as goal

abbrev pub invariant-loop-n : goal.invariant-loop-n
invariant-loop-n l = record {
  same : each server_of 0 (map (λ t. table_view t.now) l.tables)
      ≡ answered (λ more. map named l.servers.items ++ more) (each server_of l.n (map (λ t. table_view t.now) (drop l.n l.tables)));
  count : vec_len l.servers ≡ l.n;
}
