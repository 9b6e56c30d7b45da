use Rattle.std.proofs.Common.{◌≡◌, drop, map}
use Rattle.toml.specs.View.{table_view}
use Rattle.rule_text.specs.declared.fault.Place.TheVariants.{Server}
use Rattle.rule_text.specs.Checks.{every, no_extra}
use Rattle.rule_text.proofs.checks.no_server_extra.Given as goal

abbrev pub invariant-loop-n : goal.invariant-loop-n
invariant-loop-n l =
    every (λ n. no_extra (Server n)) 0 (map (λ t. table_view t.now) l.tables)
    ≡ every (λ n. no_extra (Server n)) l.n (map (λ t. table_view t.now) (drop l.n l.tables))
