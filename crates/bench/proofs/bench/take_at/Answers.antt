use Rattle.std.proofs.Common.{get_or}
use Rattle.bench.proofs.Firsts.{is_taken_here}
use Rattle.bench.proofs.Shown.{fits_known, set_agrees, take_desks, take_reply}
use Rattle.bench.proofs.bench.take_at.Goals as goal

pub take_on-requires-clause-taken : goal.take_on-requires-clause-taken
take_on-requires-clause-taken c = is_taken_here c.args.setup.now c.requires.whole.0 c.args.taking.aim c.args.taking.seg c.requires.whole.3

pub take_on-requires-clause-fits : goal.take_on-requires-clause-fits
take_on-requires-clause-fits c =
    fits_known c.args.setup.now c.requires.whole.0 c.requires.whole.1 c.args.desks.now c.requires.whole.2 c.args.taking.instance c.index-desks-taking.result c.requires.within

pub returns-clause-desks : goal.returns-clause-desks
returns-clause-desks c =
    let held = (get_or c.args.desks.now c.args.taking.instance c.index-desks-taking.result).held in
    take_desks c.args.setup.now c.args.desks.now c.args.taking.instance c.args.taking.item c.args.taking.aim c.args.taking.seg c.index-desks-taking.result
    (record { work = c.take_on.new.work; held = held; kept = c.take_on.new.kept }) c.take_on.result c.requires.within (c.take_on.ensures.taken held.entries)

pub returns-clause-reply : goal.returns-clause-reply
returns-clause-reply c =
    let held = (get_or c.args.desks.now c.args.taking.instance c.index-desks-taking.result).held in
    take_reply c.args.setup.now c.args.desks.now c.args.taking.instance c.args.taking.item c.args.taking.aim c.args.taking.seg c.index-desks-taking.result
    (record { work = c.take_on.new.work; held = held; kept = c.take_on.new.kept }) c.take_on.result c.requires.within (c.take_on.ensures.taken held.entries)

pub returns-clause-agree : goal.returns-clause-agree
returns-clause-agree c = set_agrees c.args.desks.now c.args.taking.instance _ c.requires.whole.2.agree c.take_on.ensures.agrees
