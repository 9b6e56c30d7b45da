use Rattle.std.proofs.Common.{◌≡◌, Ok, length}
use Rattle.std.specs.Str.Lines.{lines as lines_in}
use Rattle.script_text.specs.Reading.{reading, read_on}
use Rattle.script_text.specs.Scripts.{sizes_of}
use Rattle.script_text.proofs.script.script_of.Given as goal

abbrev pub invariant-loop-line : goal.invariant-loop-line
invariant-loop-line l = record {
  read : reading (sizes_of l.instances l.replicas) l.fn.text ≡ read_on (sizes_of l.instances l.replicas) l.number (Ok l.script.lines) (lines_in l.rest);
  sizes : l.script.sizes ≡ sizes_of l.instances l.replicas;
}

abbrev pub decreases-loop-line : goal.decreases-loop-line
decreases-loop-line l = length l.rest
