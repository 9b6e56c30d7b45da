use Rattle.std.proofs.Common.{subst, sym}
use Rattle.tcp_segment.specs.declared.segment.Segment.{Segment}
use Rattle.translate.specs.Translation.{GoesToClient}
use Rattle.translate.proofs.Numbers.{to_client_numbers}
use Rattle.translate.proofs.passing.to_client.Goals as goal

pub returns-clause-goes : goal.returns-clause-goes
returns-clause-goes c =
    subst (λ (s : Segment). GoesToClient c.args.setup.now c.args.seg c.args.forged.0 c.args.syn.now c.args.opened.now c.args.flow.now s) (sym c.client_bound.ensures) (to_client_numbers c.args.setup.now c.args.seg c.args.forged.0 c.args.syn.now c.args.opened.now c.args.flow.now)
