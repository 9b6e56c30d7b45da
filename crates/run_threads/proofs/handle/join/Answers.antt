use Rattle.std.proofs.Common.{◌≡◌, ◌+◌, length, IsTrue, sym, ◌∙◌, ap, subst}
use Rattle.run_threads.specs.Feeding.{own_numbers}
use Rattle.run_threads.specs.Handles.{IsBack, IsWhatServed, HasServed}
use Rattle.run_threads.specs.Pool.{AreFresh, HasWorked}
use Rattle.run_threads.proofs.Handles.{back_is, thread_worked, all_frames}
use Rattle.run_threads.proofs.Seats.{fresh_crew}
use Rattle.run_threads.proofs.handle.join.Goals.{in-Made, in-NotBegun+in_ok-made-in-NotBegun}
use Rattle.run_threads.proofs.handle.join.Goals as goal

pub serve-requires-clause-crew : goal.serve-requires-clause-crew
serve-requires-clause-crew g c =
    let inputs = c.args.inputs.now in
    let locks = c.args.locks.now in
    let w = c.args.worker in
    let back = c.join-crew.result in
    let is : IsBack inputs w locks c.args.fed.giver.inbox back = back_is inputs locks w inputs.records c.args.fed back c.requires.fed c.join-crew.ensures in
    let fresh : AreFresh (w + 1) 0 inputs.setup.shards locks back.crew = (subst (λ s. IsWhatServed inputs w locks back.crew back.taker s) c.in-NotBegun.is is.served_is).0 in
    fresh_crew inputs.setup (w + 1) 0 locks back.crew c.requires.locks fresh

pub returns : goal.returns
returns g c =
    let inputs = c.args.inputs.now in
    let locks = c.args.locks.now in
    let w = c.args.worker in
    let back = c.join-crew.result in
    let is : IsBack inputs w locks c.args.fed.giver.inbox back = back_is inputs locks w inputs.records c.args.fed back c.requires.fed c.join-crew.ensures in
    let whole : inputs.records ≡ length inputs.frames = c.requires.inputs.records ∙ sym (ap length c.requires.inputs.frames) in
    let given = c.requires.fed.given ∙ all_frames inputs w inputs.records whole in
    let taker = c.match-served.taker in
    let same = c.take_in.ensures.same in
    let taken : IsTrue taker.ended → taker.taken ≡ own_numbers inputs w 0 inputs.frames = λ over. sym same.1 ∙ (c.take_in.ensures.whole (same.2 ∙ over) ∙ given) in
    elim c.match-served.branch [
      | in-Made b ↦
          let served = subst (λ s. IsWhatServed inputs w locks back.crew back.taker s) b.in-Made.is is.served_is in
          let over = ap (λ t. t.ended) b.taker-is ∙ served.0 in
          subst (λ z. HasWorked inputs w locks z c.match-served.made) (sym b.crew-is)
          (subst (λ z. HasWorked inputs w locks back.crew z) (sym b.made-is)
          (thread_worked inputs locks w back.taker.taken back.crew b.in-Made.made c.requires.locks.many (sym (ap (λ t. t.taken) b.taker-is) ∙ taken over) served.1))
      | in-NotBegun+in_ok-made-in-NotBegun b ↦
          let fresh = (subst (λ s. IsWhatServed inputs w locks back.crew back.taker s) b.in-NotBegun.is is.served_is).0 in
          let over = ap (λ t. t.ended) b.taker-is ∙ b.serve.ensures.ended in
          let has : HasServed inputs w b.serve.new.taker.taken locks b.serve.new.crew b.in_ok-made-in-NotBegun.made = record { base = back.crew; fresh = fresh; served = b.in_ok-made-in-NotBegun.ensures.served } in
          subst (λ z. HasWorked inputs w locks z c.match-served.made) (sym b.crew-is)
          (subst (λ z. HasWorked inputs w locks b.serve.new.crew z) (sym b.made-is)
          (thread_worked inputs locks w b.serve.new.taker.taken b.serve.new.crew b.in_ok-made-in-NotBegun.made c.requires.locks.many (sym (ap (λ t. t.taken) b.taker-is) ∙ taken over) has))
    ]
