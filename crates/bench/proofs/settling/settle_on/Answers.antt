use Rattle.std.proofs.Common.{◌≡◌, Some, refl, sym, subst}
use Rattle.bench.specs.Bench.{Held, IsPassedAtOnce, settled}
use Rattle.bench.specs.Desks.{desk_of, left}
use Rattle.bench.specs.declared.call.Reply.{Reply}
use Rattle.bench.specs.declared.call.Reply.TheVariants as reply
use Rattle.bench.proofs.Settlings.{settling_first, settling_more, rests_same, done_same, settling_last}
use Rattle.bench.proofs.settling.settle_on.Goals as goal

pub loop-turn-init : goal.loop-turn-init
loop-turn-init c = settling_first c.args.setup.now c.args.work.now c.args.kept.now c.args.room.now c.requires.stands c.requires.asks c.requires.fits

pub returns-in-None-clause-settled : goal.returns-in-None-clause-settled
returns-in-None-clause-settled c =
    let s = c.loop-turn.invariant in
    rests_same c.args.setup.now c.args.work.now c.args.kept.now c.args.room.now c.loop-turn._turn c.loop-turn.work c.loop-turn.kept c.loop-turn.room s c.loop-turn-test.true
    c.turn_on.new.work c.turn_on.new.kept c.in-None.ensures.one (sym c.in-None.ensures.known)

pub loop-turn-preserved : goal.loop-turn-preserved
loop-turn-preserved c =
    let s = c.loop-turn.invariant in
    let is = c.in-Some-Going.field-0-is in
    let one : (held : Held) → settled 1 c.args.setup.now c.loop-turn.work.job.instance (desk_of c.loop-turn.work held c.loop-turn.kept, reply.Going) ≡ left reply.Going c.turn_on.new.work held c.turn_on.new.kept =
    λ held. subst (λ (r : Reply). settled 1 c.args.setup.now c.loop-turn.work.job.instance (desk_of c.loop-turn.work held c.loop-turn.kept, reply.Going) ≡ left r c.turn_on.new.work held c.turn_on.new.kept) is (c.in-Some-Going.ensures.one held) in
    settling_more c.args.setup.now c.args.work.now c.args.kept.now c.args.room.now c.loop-turn._turn c.loop-turn.work c.loop-turn.kept c.loop-turn.room s c.loop-turn-test.true
    c.turn_on.new.work c.turn_on.new.kept c.turn_on.new.room one (c.in-Some-Going.ensures.stands is) (c.in-Some-Going.ensures.asks is) (c.in-Some-Going.ensures.instance is)
    c.in-Some-Going.ensures.fits (c.in-Some-Going.ensures.room (λ passed. subst (λ (r : Reply). IsPassedAtOnce (Some r) → ⊥) (sym is) (λ never. never) passed))

pub returns-in-Some-Done-clause-settled : goal.returns-in-Some-Done-clause-settled
returns-in-Some-Done-clause-settled c =
    let s = c.loop-turn.invariant in
    let one : (held : Held) → settled 1 c.args.setup.now c.loop-turn.work.job.instance (desk_of c.loop-turn.work held c.loop-turn.kept, reply.Going) ≡ left (reply.Done c.in-Some-Done.verdict c.in-Some-Done.outs) c.turn_on.new.work held c.turn_on.new.kept =
    λ held. subst (λ (r : Reply). settled 1 c.args.setup.now c.loop-turn.work.job.instance (desk_of c.loop-turn.work held c.loop-turn.kept, reply.Going) ≡ left r c.turn_on.new.work held c.turn_on.new.kept) c.in-Some-Done.field-0-is (c.in-Some-Done.ensures.one held) in
    done_same c.args.setup.now c.args.work.now c.args.kept.now c.args.room.now c.loop-turn._turn c.loop-turn.work c.loop-turn.kept c.loop-turn.room s c.loop-turn-test.true
    c.turn_on.new.work c.turn_on.new.kept (reply.Done c.in-Some-Done.verdict c.in-Some-Done.outs) one (λ held. refl)

pub returns-clause-settled : goal.returns-clause-settled
returns-clause-settled c =
    settling_last c.args.setup.now c.args.work.now c.args.kept.now c.args.room.now c.loop-turn._turn c.loop-turn.work c.loop-turn.kept c.loop-turn.room c.loop-turn.invariant c.loop-turn-test.false
