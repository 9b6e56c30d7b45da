-- Inputs that are accepted have the lines that their script says.
use Rattle.std.proofs.Common.{◌≡◌, ℕ, List, refl, subst}
use Rattle.std.specs.Prelude.{Option, None, Some, Result, Ok, Err}
use Rattle.std.specs.Option.{option_map}
use Rattle.bench.specs.declared.input.inputs.Inputs.{Inputs}
use Rattle.plain_run.specs.Judgement.{limit_of, trace_fault, unless_fault, with_lines, with_setup, judged}
use Rattle.plain_run.specs.declared.fault.LoadFault.{LoadFault}
use Rattle.plain_run.specs.declared.fault.LoadFault.TheVariants.{Limit}
use Rattle.rule_table.specs.Setups.{SetupView}
use Rattle.rule_text.specs.Document.{rules_in}
use Rattle.rule_text.specs.declared.fault.RuleFault.{RuleFault}
use Rattle.script_text.specs.Reading.{reading}
use Rattle.script_text.specs.Scripts.{sizes_of}
use Rattle.script_text.specs.declared.fault.ScriptFault.{ScriptFault}
use Rattle.script_text.specs.declared.line.Line.{Line}

unrefused : {V : Type 0} → (o : Option LoadFault) (x : Result V LoadFault) (v : V) → unless_fault o x ≡ Ok v → x ≡ Ok v
unrefused None x v e = e
unrefused (Some f) x v e = cc

same_Ok : (r : Result Inputs LoadFault) (a b : Inputs) → r ≡ Ok a → r ≡ Ok b → a ≡ b
same_Ok r a b e f = cc

-- the lines are those of the script's text
abbrev IsRead : List ℕ → Inputs → Type 0
IsRead script inputs = reading inputs.script.sizes script ≡ Ok inputs.script.lines

read_lines : (trace script : List ℕ) (setup : SetupView) (l : Result (List Line) ScriptFault) (i : Inputs) → reading (sizes_of setup.instances setup.replicas) script ≡ l
    → with_lines trace setup l ≡ Ok i → IsRead script i
read_lines trace script setup (Ok lines) i is e =
    subst (IsRead script) (same_Ok _ _ i refl e) is
read_lines trace script setup (Err fault) i is e = absurd cc

read_setup : (trace script : List ℕ) (r : Result SetupView RuleFault) (i : Inputs) → with_setup trace script r ≡ Ok i → IsRead script i
read_setup trace script (Ok setup) i e = read_lines trace script setup (reading (sizes_of setup.instances setup.replicas) script) i refl e
read_setup trace script (Err fault) i e = absurd cc

pub script_read : (rules trace script : List ℕ) (i : Inputs) → judged rules trace script ≡ Ok i → IsRead script i
script_read rules trace script i e =
    let limits = unrefused (option_map Limit (limit_of rules trace script)) (unless_fault (trace_fault trace) (with_setup trace script (rules_in rules))) i e in
    read_setup trace script (rules_in rules) i (unrefused (trace_fault trace) (with_setup trace script (rules_in rules)) i limits)
