use Rattle.std.proofs.Common.{◌≡◌, ◌-◌, ◌<◌, ◌++◌, ◌∷◌, [], suc, length, refl, sym, ◌∙◌, ap, subst, arith}
use Rattle.run_threads.specs.Owners.{IsOneOf}
use Rattle.run_threads.specs.declared.owner.Owner.TheVariants.{Nobody, Worker}
use Rattle.run_threads.proofs.Done.{element}
use Rattle.run_threads.proofs.Merging.{IsTaken, none_taken, all_taken, place_there, some_made, taken_verdict, taken_made}
use Rattle.run_threads.proofs.merge.gather.Goals.{in-Nobody, in-Worker+in_ok-line-in-Worker}
use Rattle.run_threads.proofs.merge.gather.Goals as goal

pub loop-left-init : goal.loop-left-init
loop-left-init c =
    none_taken c.args.inputs.now c.args.inputs.now.frames c.args.all.now c.requires.made (length c.args.owners.now) c.args.lines.now.items c.args.sent.now.items c.requires.owners.many c.requires.no_lines c.requires.none_sent

pub take_last-requires-clause-some : goal.take_last-requires-clause-some
take_last-requires-clause-some c =
    let inputs = c.args.inputs.now in
    let taken = c.loop-left.invariant in
    let left = c.loop-left.left in
    let n = left - 1 in
    let t = c.loop-left-test.true in
    let count = taken.count in
    let worker = c.in-Worker.worker in
    let within : n < length inputs.frames = omega (arith, t, count) in
    let f = element inputs.frames n within in
    let is = c.in-Worker.is in
    some_made inputs inputs.frames c.args.all.now c.loop-left.all n left (Worker worker) c.loop-left.lines.items c.loop-left.sent.items f (omega (arith, t)) within (sym is ∙ c.requires.owners.which n _ f within) taken
    worker _ refl (subst (IsOneOf inputs.setup.instances) is (c.requires.owners.there n _ within)) (ap (λ k. k - 1 - worker) taken.left.many) c.requires.made

pub loop-left-preserved : goal.loop-left-preserved
loop-left-preserved c =
    let inputs = c.args.inputs.now in
    let all = c.args.all.now in
    let taken = c.loop-left.invariant in
    let left = c.loop-left.left in
    let n = left - 1 in
    let t = c.loop-left-test.true in
    let count = taken.count in
    let within : n < length inputs.frames = omega (arith, t, count) in
    let f = element inputs.frames n within in
    let next : left ≡ suc n = omega (arith, t) in
    let lines = c.loop-left.lines.items in
    let sent = c.loop-left.sent.items in
    let lines' = c.push.new.self.items in
    elim c.match-owners-left.branch [
      | in-Nobody w ↦
          let v = w.in-Nobody.verdict in
          let is = w.in-Nobody.is in
          subst (λ z. IsTaken inputs inputs.frames all z n lines' c.match-owners-left.sent.items) (sym w.all-is)
          (subst (λ z. IsTaken inputs inputs.frames all c.loop-left.all n lines' z.items) (sym w.sent-is)
          (taken_verdict inputs inputs.frames all c.loop-left.all n left (Nobody v) lines sent f next within (sym is ∙ c.requires.owners.which n _ f within) taken v lines' refl
          (c.in_ok-push.ensures.items ∙ ap (λ l. lines ++ l ∷ []) w.line-is)))
      | in-Worker+in_ok-line-in-Worker w ↦
          let worker = w.in-Worker.worker in
          let is = w.in-Worker.is in
          let placed = ap (λ k. k - 1 - worker) taken.left.many in
          let which = sym is ∙ c.requires.owners.which n _ f within in
          let there = subst (IsOneOf inputs.setup.instances) is (c.requires.owners.there n _ within) in
          let e = element c.loop-left.all (length c.loop-left.all - 1 - worker) (place_there inputs inputs.frames all c.loop-left.all n left (Worker worker) lines sent f next within which taken worker _ refl there placed c.requires.made) in
          subst (λ z. IsTaken inputs inputs.frames all z n lines' c.match-owners-left.sent.items) (sym w.all-is)
          (subst (λ z. IsTaken inputs inputs.frames all w.take_last.new.all n lines' z.items) (sym w.sent-is)
          (taken_made inputs inputs.frames all c.loop-left.all n left (Worker worker) lines sent f next within which taken worker _ refl there placed c.requires.made
          w.take_last.new.all w.take_last.new.sent.items w.in_ok-line-in-Worker.line w.take_last.ensures.many w.take_last.ensures.others e (w.in_ok-line-in-Worker.ensures.last e) lines'
          (c.in_ok-push.ensures.items ∙ ap (λ l. lines ++ l ∷ []) w.line-is)))
    ]

pub returns : goal.returns
returns c =
    let f = c.loop-left-test.false in
    all_taken c.args.inputs.now c.args.inputs.now.frames c.args.all.now c.loop-left.all c.loop-left.left c.loop-left.lines.items c.loop-left.sent.items (omega (arith, f)) c.loop-left.invariant
