use Rattle.std.proofs.Common.{ap}
use Rattle.script_text.specs.Scripts.{ScriptView, sizes_of}
use Rattle.script_text.proofs.FaultLemmas.{reading-start}
use Rattle.script_text.proofs.script.script_of.Goals as goal

pub loop-line-init : goal.loop-line-init
loop-line-init c = record {
  read = reading-start (sizes_of c.args.instances c.args.replicas) c.args.text.now c.in_ok-script.script.lines (ap (λ (v : ScriptView). v.lines) c.in_ok-script.ensures);
  sizes = ap (λ (v : ScriptView). v.sizes) c.in_ok-script.ensures;
}
