-- How a fault is told to the user.
use Rattle.std.specs.Prelude.{ℕ, List, ◌++◌, codes}
use Rattle.std.specs.Fmt.{decimal, signed_decimal}
use Rattle.rule_text.specs.declared.fault.RuleFault.{RuleFault}
use Rattle.rule_text.specs.declared.fault.RuleFault.TheVariants.{Syntax, Missing, Extra, Form, Range, Twice, UnknownServer, ZeroTotal, Memory}

abbrev pub fault_text : RuleFault → List ℕ
fault_text Syntax = codes "syntax"
fault_text (Missing name) = codes "missing " ++ name
fault_text (Extra name) = codes "extra " ++ name
fault_text (Form name) = codes "form " ++ name
fault_text (Range name value) = codes "range " ++ name ++ codes " " ++ signed_decimal value
fault_text (Twice name) = codes "twice " ++ name
fault_text (UnknownServer name) = codes "unknown server " ++ name
fault_text (ZeroTotal rule) = codes "zero total " ++ decimal rule
fault_text Memory = codes "no memory"
