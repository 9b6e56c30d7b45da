use Rattle.std.proofs.Common.{◌++◌, codes, take}
use Rattle.std.specs.Fmt.{HasWritten, IsPlainFormatter}
use Rattle.std.specs.List.{flat_map}
use Rattle.common.specs.Text.{end_text}
use Rattle.report_text.proofs.verdict.OwnersTextDisplay.fmt.Given as goal

abbrev pub invariant-loop-flow : goal.invariant-loop-flow
invariant-loop-flow g l =
    IsPlainFormatter l.initial.f
    → HasWritten g.W.Write.write_str_gives l.initial.f (flat_map (λ flow. codes " " ++ end_text flow.address flow.port) (take l.flow-index l.self.0)) l.f
