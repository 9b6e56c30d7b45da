use Rattle.std.proofs.Common.{subst, sym}
use Rattle.std.proofs.lemmas.Bool.{both_ways}
use Rattle.toml.specs.View.{table_view}
use Rattle.rule_text.specs.Steps.{Gives}
use Rattle.rule_text.proofs.MadeLemmas.{rules_in-document, rules_in-none}
use Rattle.rule_text.proofs.document.rules_of.Goals as goal

pub returns-in-Ok : goal.returns-in-Ok
returns-in-Ok c =
    let read = c.in-Ok.ensures.ok in
    subst (Gives (λ s. s) c.document_setup.result)
    (sym (rules_in-document c.args.text.now (table_view c.in-Ok.document) read.0 read.1)) c.document_setup.ensures

pub returns-in-Err-2 : goal.returns-in-Err-2
returns-in-Err-2 c = λ _.
    rules_in-none c.args.text.now (c.in-Err.ensures.refused (λ memory. both_ways _ c.if-is_memory.false (c.is_memory.ensures.1 memory)))
