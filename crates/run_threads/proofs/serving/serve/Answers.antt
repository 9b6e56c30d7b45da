use Rattle.std.proofs.Common.{◌≡◌, ◌∙◌, length, ap, sym, subst, arith}
use Rattle.run_threads.specs.Named.{CrewNames, GoesOnNaming}
use Rattle.run_threads.proofs.Naming.{named}
use Rattle.run_threads.proofs.Seats.{written_back}
use Rattle.run_threads.proofs.serving.serve.Goals as goal

pub returns-clause-named : goal.returns-clause-named
returns-clause-named g c =
    let w = c.args.worker in
    let locks = c.args.locks.now in
    let old = c.args.crew.now in
    let new = c.serve_all.new.seats in
    let same_locks : c.deref.result.now ≡ locks = c.deref.ensures.value ∙ c.locks.view_is in
    let same_seats : c.deref_mut.result.now ≡ old = c.deref_mut.ensures.value ∙ c.crew.view_is in
    let goes : GoesOnNaming w locks old new =
    subst (λ x. GoesOnNaming w locks x new) same_seats (subst (λ l. GoesOnNaming w l c.deref_mut.result.now new) same_locks c.serve_all.ensures.named) in
    let names : CrewNames w locks old new = named c.args.inputs.now.setup locks w old new c.requires.crew goes in
    let count = names.count in
    let len = c.deref_mut.ensures.len in
    subst (λ z. CrewNames w locks old z) (sym (written_back c.crew.inside.items.len new c.crew.inside.items.items (omega (arith, count, len, ap length same_seats)))) names
