use Rattle.std.proofs.Common.{◌≡◌, drop, find}
use Rattle.script_text.specs.Lives.{living, assigned, round_from}
use Rattle.script_text.proofs.script.Script.assign.Given as goal

abbrev pub invariant-loop-step : goal.invariant-loop-step
invariant-loop-step l =
    find (λ i. living l.self.lines i l.item) (drop l.step (round_from l.self.sizes.instances l.first))
    ≡ assigned l.self.lines l.self.sizes.instances l.item l.fn.first
