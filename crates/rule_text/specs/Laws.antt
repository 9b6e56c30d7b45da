-- What holds of all that a rules file says.
use Rattle.std.specs.Prelude.{◌≡◌, ◌≢◌, ℕ, List, Ok, Err}
use Rattle.rule_table.specs.Setups.{SetupView, IsSetup}
use Rattle.rule_text.specs.declared.fault.RuleFault.TheVariants.{Memory}
use Rattle.rule_text.specs.Document.{rules_in}

-- all that holds of every setup holds of the one that the bytes say
abbrev pub SaysSetups : Type 0
SaysSetups = (bytes : List ℕ) (setup : SetupView) → rules_in bytes ≡ Ok setup → IsSetup setup

-- the bytes never say want of memory: that comes from the machine alone
abbrev pub NeverMemory : Type 0
NeverMemory = (bytes : List ℕ) → rules_in bytes ≢ Err Memory
