use Rattle.std.proofs.Common.{None, sym, ◌∙◌, ap}
use Rattle.std.specs.Prelude.{option_map}
use Rattle.flow_id.specs.declared.key.Key.TheVariants as key
use Rattle.flow_record.specs.declared.record.Ask.TheVariants.{Get}
use Rattle.kept_records.specs.Entries.{Entries}
use Rattle.kept_records.specs.declared.entry.Kept.{Kept}
use Rattle.bench.specs.Bench.{taken}
use Rattle.bench.specs.Desks.{shown}
use Rattle.bench.proofs.AtOnce.{at_once}
use Rattle.bench.proofs.Keepings.{may_be_known}
use Rattle.bench.proofs.moving.take_on.Goals as goal

pub pass_on-requires-clause-syn : goal.pass_on-requires-clause-syn
pass_on-requires-clause-syn c =
    may_be_known c.args.setup.now c.args.kept.now (Get (key.Syn c.in-Some.flow)) (record { flow = c.in-Some.flow; item = c.in-Some.found.syn }) c.requires.fits
    (ap (option_map (λ (x : Kept). record { flow = c.in-Some.flow; item = x.syn })) c.in-Some.ensures.found.1)

pub pass_on-requires-clause-opened : goal.pass_on-requires-clause-opened
pass_on-requires-clause-opened c =
    may_be_known c.args.setup.now c.args.kept.now (Get (key.Open c.in-Some.flow)) (record { flow = c.in-Some.flow; item = c.in-Some.found.opened }) c.requires.fits
    (ap (option_map (λ (x : Kept). record { flow = c.in-Some.flow; item = x.opened })) c.in-Some.ensures.found.1)

pub returns-in-Some-clause-taken : goal.returns-in-Some-clause-taken
returns-in-Some-clause-taken c = λ held.
    (λ k. (shown None held (c.in-Some.ensures.front k), c.pass_on.ensures k))
    ∙ sym (at_once c.args.setup.now c.args.taking.instance c.args.taking.item c.args.taking.aim c.args.taking.seg (shown c.args.work.now held c.args.kept.now)
    c.in-Some.flow c.in-Some.found c.in-Some.ensures.found c.in-Some.ensures.midway)

pub returns-in-None-clause-taken : goal.returns-in-None-clause-taken
returns-in-None-clause-taken c = λ held.
    c.begin_on.ensures.taken held
    ∙ ap (λ (es : Entries). taken c.args.setup.now c.args.taking.instance c.args.taking.item c.args.taking.aim c.args.taking.seg (shown c.args.work.now held es)) c.in-None.ensures.front
