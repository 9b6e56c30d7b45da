use Rattle.std.proofs.Common.{sym, ap, ◌∙◌, ◌||◌, arith, rules, false, get_or}
use Rattle.std.proofs.lemmas.List.{get_or-replicate}
use Rattle.rule_table.specs.Index.{is_met}
use Rattle.rule_table.proofs.IndexLemmas.{one_more_met}
use Rattle.rule_table.proofs.cookies.met_by.Goals as goal

pub loop-piece-init : goal.loop-piece-init
loop-piece-init c = record {
  places = search rules;
  met = λ number small.
      sym (ap (λ b. b || is_met c.args.rules.now c.args.slots.now c.args.pieces number) (get_or-replicate 256 number false false small));
}

pub loop-piece-preserved-in-Some-find : goal.loop-piece-preserved-in-Some-find
loop-piece-preserved-in-Some-find c = record {
  places = search rules;
  met = λ number small.
      one_more_met c.args.rules.now c.args.slots.now c.in-Some.piece.now c.args.pieces c.next.new.self c.loop-piece.met
      c.in-Some-find.number number (sym c.in-Some-find.ensures.found)
      (omega (arith, c.in-Some-find.ensures.rule, c.requires, c.loop-piece.invariant.places))
      (c.loop-piece.invariant.met number small
      ∙ ap (λ pieces. get_or c.loop-piece.met number false || is_met c.args.rules.now c.args.slots.now pieces number) c.in-Some.ensures.some);
}
