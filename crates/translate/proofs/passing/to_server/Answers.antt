use Rattle.std.proofs.Common.{subst, sym}
use Rattle.tcp_segment.specs.declared.segment.Segment.{Segment}
use Rattle.translate.specs.Translation.{GoesToServer}
use Rattle.translate.proofs.Numbers.{to_server_numbers}
use Rattle.translate.proofs.passing.to_server.Goals as goal

pub returns-clause-goes : goal.returns-clause-goes
returns-clause-goes c =
    subst (λ (s : Segment). GoesToServer c.args.setup.now c.args.seg c.args.forged.0 c.args.syn.now c.args.opened.now s) (sym c.server_bound.ensures) (to_server_numbers c.args.setup.now c.args.seg c.args.forged.0 c.args.syn.now c.args.opened.now)
