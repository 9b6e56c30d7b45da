use Rattle.std.proofs.Common.{map, ap, sym, ◌∙◌, inl, inr, [], arith}
use Rattle.std.proofs.lemmas.Bool.{ltb-true, ltb-false}
use Rattle.std.proofs.lemmas.List.{drop_all, get_or_read}
use Rattle.rule_text.specs.Document.{names_of, place_among}
use Rattle.rule_text.specs.WrittenViews.{named}
use Rattle.rule_text.proofs.StepLemmas.{choices_more, zip_end}
use Rattle.rule_text.proofs.build.choices_of.Goals.{else-loop-n-test, then-loop-n-test+in_default}
use Rattle.rule_text.proofs.build.choices_of.Goals as goal

pub loop-n-preserved : goal.loop-n-preserved
loop-n-preserved c =
    let names = names_of (map named c.args.servers.now) in
    let weighed = ltb-true _ _ (sym c.in-Some.ensures.lookup.0) in
    choices_more names c.args.to.now c.args.weights.now (record { ref_ptr = (0, 0); now = [] }) c.loop-n.n c.in-Some.weight.now c.place_of.result
    _ c.loop-n.pairs.items c.push.new.self.items c.loop-n.invariant (omega arith) weighed (get_or_read c.args.weights.now _ _ weighed c.in-Some.ensures.lookup.1 0) c.place_of.ensures c.in_ok-push.ensures.items

pub returns : goal.returns
returns c =
    let names = names_of (map named c.args.servers.now) in
    c.new.ensures
    ∙ elim c.loop-n-test.branch [
      | else-loop-n-test w ↦
          zip_end _ c.loop-n.pairs.items _ _ c.loop-n.invariant
          (inl (ap (λ to. map (place_among names) (map (λ s. s.now) to)) (drop_all c.loop-n.n c.args.to.now w.loop-n-test.false)))
      | then-loop-n-test+in_default w ↦
          zip_end _ c.loop-n.pairs.items _ _ c.loop-n.invariant (inr (drop_all c.loop-n.n c.args.weights.now (ltb-false _ _ (sym w.in_default.ensures.lookup.0))))
    ]
