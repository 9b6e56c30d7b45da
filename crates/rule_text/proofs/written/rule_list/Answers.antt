use Rattle.std.proofs.Common.{map, ap, sym, ◌∙◌, ◌∷◌, ◌+◌, ◌<◌, length, drop, arith}
use Rattle.std.proofs.lemmas.List.{drop_more}
use Rattle.rule_text.specs.Written.{rule_of}
use Rattle.rule_text.specs.WrittenViews.{written}
use Rattle.toml.specs.View.{table_view}
use Rattle.rule_text.proofs.StepLemmas.{each_more}
use Rattle.rule_text.proofs.written.rule_list.Goals as goal

pub loop-n-preserved : goal.loop-n-preserved
loop-n-preserved c =
    let tables = c.args.tables.now in
    let n = c.loop-n.n in
    let inside : n < length tables = omega arith in
    let here = drop_more tables n c.index-tables-n.result inside ∙ ap (λ t. t ∷ drop (n + 1) tables) (sym c.index-tables-n.is) in
    record {
      same = each_more rule_of written _ c.loop-n.rules.items c.push.new.self.items c.in_ok-rule_of.field-0 n (table_view c.index-tables-n.result.now)
          (map (λ t. table_view t.now) (drop n tables)) (map (λ t. table_view t.now) (drop (n + 1) tables)) c.loop-n.invariant.same
          (ap (map (λ t. table_view t.now)) here) c.in_ok-rule_of.ensures c.in_ok-push.ensures.items;
      count = omega (arith, c.in_ok-push.ensures.len);
    }
