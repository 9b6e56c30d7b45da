-- Why the inputs of a command are not taken: for each cause the exit status and the text of its line.
use Rattle.std.specs.Prelude.{ℕ, List, ◌++◌, codes}
use Rattle.std.specs.Fmt.{decimal}
use Rattle.common.specs.Text.{hex_digits}
use Rattle.pcap_file.specs.declared.capture.PcapFault.{PcapFault}
use Rattle.pcap_file.specs.declared.capture.PcapFault.TheVariants.{HeaderCut, Magic, Version, Link, RecordCut, TooLarge}
use Rattle.plain_run.specs.declared.fault.Limit.{Limit as LimitOf}
use Rattle.plain_run.specs.declared.fault.Limit.TheVariants as limit
use Rattle.plain_run.specs.declared.fault.LoadFault.{LoadFault}
use Rattle.plain_run.specs.declared.fault.LoadFault.TheVariants.{Read, Limit, Trace, Rules, Script, Memory}
use Rattle.rule_text.specs.Texts.{fault_text as rules_text}
use Rattle.script_text.specs.declared.fault.ScriptFault.{ScriptFault}
use Rattle.script_text.specs.declared.fault.ScriptFault.TheVariants as script

abbrev pub status_of : LoadFault → ℕ
status_of (Read name) = 3
status_of (Limit passed) = 8
status_of (Trace fault) = 5
status_of (Rules fault) = 6
status_of (Script fault) = 7
status_of Memory = 9

abbrev pub memory_text : List ℕ
memory_text = codes "no memory"

abbrev pub limit_text : LimitOf → List ℕ
limit_text (limit.Rules bytes) = codes "rules bytes " ++ decimal bytes
limit_text (limit.Trace bytes) = codes "trace bytes " ++ decimal bytes
limit_text (limit.Script bytes) = codes "script bytes " ++ decimal bytes
limit_text (limit.Records records) = codes "trace records " ++ decimal records

-- the fault of a capture; a magic number has eight lower-case hex digits, all other numbers are decimal
abbrev pub capture_text : PcapFault → List ℕ
capture_text (HeaderCut bytes) = codes "header cut at " ++ decimal bytes
capture_text (Magic magic) = codes "magic " ++ hex_digits 8 magic
capture_text (Version major minor) = codes "version " ++ decimal major ++ codes "." ++ decimal minor
capture_text (Link link) = codes "link " ++ decimal link
capture_text (RecordCut at) = codes "record cut at " ++ decimal at
capture_text (TooLarge at kept) = codes "record too large at " ++ decimal at

-- the fault of a script: the line's number, from 1, and what is wrong with it
abbrev pub script_text : ScriptFault → List ℕ
script_text (script.Form line) = codes "line " ++ decimal line ++ codes " form"
script_text (script.Range line) = codes "line " ++ decimal line ++ codes " range"
script_text (script.Twice line) = codes "line " ++ decimal line ++ codes " twice"
script_text (script.Order line) = codes "line " ++ decimal line ++ codes " order"
script_text script.Memory = memory_text

abbrev pub refusal_text : LoadFault → List ℕ
refusal_text (Read name) = codes "read fault: " ++ name
refusal_text (Limit passed) = codes "limit: " ++ limit_text passed
refusal_text (Trace fault) = codes "trace refused: " ++ capture_text fault
refusal_text (Rules fault) = codes "rules refused: " ++ rules_text fault
refusal_text (Script fault) = codes "script refused: " ++ script_text fault
refusal_text Memory = memory_text
