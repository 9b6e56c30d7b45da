use Rattle.std.proofs.Common.{◌≡◌, ◌∙◌, ap}
use Rattle.replica_cell.specs.Walks.{start_of}
use Rattle.bench.proofs.Begins.{first_asks, first_is_of, taken_is}
use Rattle.bench.proofs.moving.begin_on.Goals as goal

pub settle_on-reply-requires-clause-asks : goal.settle_on-reply-requires-clause-asks
settle_on-reply-requires-clause-asks c =
    first_asks c.args.setup.now c.args.taking.instance c.args.taking.item c.args.taking.aim c.args.taking.seg c.requires.taken c.begin-job.result c.begin-job.ensures

pub returns-clause-taken : goal.returns-clause-taken
returns-clause-taken c =
    let walk : c.start-walk.result ≡ start_of c.begin-job.result.ask = c.start-walk.ensures.walk ∙ ap start_of c.ask.ensures in
    taken_is c.args.setup.now c.args.taking.instance c.args.taking.item c.args.taking.aim c.args.taking.seg c.requires.taken c.begin-job.result c.begin-job.ensures c.start-walk.result walk
    c.args.work.now c.left_after.result c.settle_on-reply.new.work c.args.kept.now c.settle_on-reply.new.kept c.settle_on-reply.result c.settle_on-reply.ensures.settled
    (c.left_after.ensures.job c.settle_on-reply.ensures.kind)

pub returns-clause-agrees : goal.returns-clause-agrees
returns-clause-agrees c =
    let walk : c.start-walk.result ≡ start_of c.begin-job.result.ask = c.start-walk.ensures.walk ∙ ap start_of c.ask.ensures in
    c.left_after.ensures.agrees c.args.taking.instance (λ goes.
    first_is_of c.args.setup.now c.args.taking.instance c.args.taking.item c.args.taking.aim c.args.taking.seg c.requires.taken c.begin-job.result c.begin-job.ensures c.start-walk.result walk
    c.settle_on-reply.new.work (c.settle_on-reply.ensures.instance goes) (c.settle_on-reply.ensures.stands goes))
