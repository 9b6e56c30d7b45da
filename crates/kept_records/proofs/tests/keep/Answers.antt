use Rattle.std.proofs.Common.{◌≤◌, length, sym, subst}
use Rattle.kept_records.proofs.Lists.{taken_few}
use Rattle.kept_records.proofs.tests.keep.Goals as goal

pub keep-requires-clause-room : goal.keep-requires-clause-room
keep-requires-clause-room c = subst (λ es. length es ≤ 256) (sym c.settle.ensures) (taken_few 256 c.args.list.now)
