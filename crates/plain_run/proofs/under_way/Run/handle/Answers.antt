use Rattle.std.proofs.Common.{List, sym, subst, ◌∙◌, ap}
use Rattle.std.proofs.lemmas.List.{with_items_is}
use Rattle.bench.specs.Bench.{BenchView}
use Rattle.plain_run.specs.Benches.{AreBenches, states}
use Rattle.plain_run.specs.UnderWay.{IsRunOf}
use Rattle.plain_run.specs.contracts.under_way.Run.{the_view}
use Rattle.plain_run.proofs.Runs.{made_on}
use Rattle.plain_run.proofs.under_way.Run.handle.Goals as goal

pub returns-clause-made : goal.returns-clause-made
returns-clause-made c =
    let news = c.handle_record-handled.new.benches in
    let all = ap (λ (bs : List BenchView). states bs) (with_items_is c.self.inside.benches news (c.handle_record-handled.auto.benches ∙ c.deref_mut.ensures.len)) in
    made_on c.args.inputs.now c.handle_record-handled.result (the_view c.self.inside) c.args.self.now (states c.deref_mut.result.now) (states news) _ c.args.frame.now
    c.self.view_is (ap (λ (bs : List BenchView). states bs) c.deref_mut.ensures.value) all
    c.handle_record-handled.ensures.made

pub returns-clause-run : goal.returns-clause-run
returns-clause-run c =
    let news = c.handle_record-handled.new.benches in
    let all = ap (λ (bs : List BenchView). states bs) (with_items_is c.self.inside.benches news (c.handle_record-handled.auto.benches ∙ c.deref_mut.ensures.len)) in
    let was : IsRunOf c.args.inputs.now (the_view c.self.inside) = subst (IsRunOf c.args.inputs.now) (sym c.self.view_is) c.requires.run in record {
      benches = subst (AreBenches c.args.inputs.now.setup) (sym all) c.handle_record-handled.ensures.are;
      due = was.due;
    }
