use Rattle.std.proofs.Common.{refl, ◌∙◌, ap, subst}
use Rattle.std.specs.List.{filter}
use Rattle.run_threads.specs.Due.{is_due}
use Rattle.run_threads.specs.Handles.{IsWhatServed}
use Rattle.run_threads.specs.declared.handle.Kept.{Kept}
use Rattle.run_threads.proofs.Handles.{kept_first}
use Rattle.run_threads.proofs.handle.keep.Goals as goal

pub returns-in-Ok-clause-handle : goal.returns-in-Ok-clause-handle
returns-in-Ok-clause-handle c =
    let inputs = c.args.inputs.now in
    let locks = c.args.locks.now in
    let fresh = (subst (λ s. IsWhatServed inputs c.args.worker locks c.args.back.crew c.args.back.taker s) c.in-NotBegun.is c.requires.back.served_is).0 in
    let kept : Kept = record { crew = c.args.back.crew; made = c.new.result; due = c.in-Ok.due; next = 0 } in
    kept_first inputs locks c.args.worker kept c.requires.locks fresh c.new.ensures refl (λ item below. c.in-Ok.ensures item below ∙ ap (filter (is_due item)) c.lines.ensures)
