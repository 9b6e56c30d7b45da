use Rattle.std.proofs.Common.{length, reverse, ap, ◌∙◌, subst, arith}
use Rattle.std.proofs.lemmas.List.{length-reverse, reverse-reverse}
use Rattle.run_threads.specs.Run.{AreGathered}
use Rattle.run_threads.proofs.merge.merge.Goals as goal

pub returns-clause-merged : goal.returns-clause-merged
returns-clause-merged c =
    let inputs = c.args.inputs.now in
    let frames = inputs.frames in
    let gathered : AreGathered inputs frames c.args.all.items c.gather.new.lines.items c.gather.new.sent.items =
    subst (λ z. AreGathered inputs frames z c.gather.new.lines.items c.gather.new.sent.items) c.deref_mut.ensures.value c.in_ok-gather.ensures in record {
      outcomes = gathered.outcomes;
      count = gathered.count;
      line = c.turned.ensures.lines ∙ (ap reverse gathered.line ∙ reverse-reverse _);
      sent = c.turned.ensures.sent ∙ (ap reverse gathered.sent ∙ reverse-reverse _);
      merged = gathered.merged;
    }

pub returns-clause-few : goal.returns-clause-few
returns-clause-few c =
    let few = c.in_ok-gather.ensures.few in
    let long = ap length c.turned.ensures.sent ∙ length-reverse c.gather.new.sent.items in omega (arith, few, long)
