use Rattle.std.proofs.Common.{◌≡◌, drop}
use Rattle.bench.specs.Blocks.{crash_after}
use Rattle.run_threads.proofs.item.crash_after.Given as goal

abbrev pub invariant-loop-line : goal.invariant-loop-line
invariant-loop-line l = crash_after (drop l.line-index l.lines) l.instance l.item ≡ crash_after l.lines l.instance l.item
