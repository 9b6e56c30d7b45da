use Rattle.std.proofs.Common.{ap, length}
use Rattle.std.specs.Prelude.{slice_range}
use Rattle.yoda_app.proofs.Splicing.{own_added, own_spliced, slice_added, slice_spliced}
use Rattle.yoda_app.proofs.spliced.Spliced.add_slice.Goals as goal

pub returns-then-end-start-lt-SHORT-clause-spliced : goal.returns-then-end-start-lt-SHORT-clause-spliced
returns-then-end-start-lt-SHORT-clause-spliced c =
    let t = c.args.self.now in
    own_spliced c.args.trace.now t.own.items c.extend_from_slice.new.self.items (slice_range c.args.trace.now c.args.start c.args.end) t.splices.items
    c.in_ok-extend_from_slice.ensures.items c.requires.spliced

pub returns-then-end-start-lt-SHORT-clause-added : goal.returns-then-end-start-lt-SHORT-clause-added
returns-then-end-start-lt-SHORT-clause-added c =
    let t = c.args.self.now in
    own_added c.args.trace.now t.own.items c.extend_from_slice.new.self.items (slice_range c.args.trace.now c.args.start c.args.end) t.splices.items
    c.in_ok-extend_from_slice.ensures.items c.requires.spliced

pub returns-clause-spliced : goal.returns-clause-spliced
returns-clause-spliced c =
    let t = c.args.self.now in
    let own = c.as_slice-behind.result.now in
    slice_spliced c.args.trace.now t.own.items t.splices.items c.push.new.self.items (length own) c.args.start c.args.end (ap length c.as_slice-behind.ensures.value)
    c.in_ok-push.ensures.items c.requires.spliced c.requires.ordered c.requires.inside

pub returns-clause-added : goal.returns-clause-added
returns-clause-added c =
    let t = c.args.self.now in
    let own = c.as_slice-behind.result.now in
    slice_added c.args.trace.now t.own.items t.splices.items c.push.new.self.items (length own) c.args.start c.args.end (ap length c.as_slice-behind.ensures.value)
    c.in_ok-push.ensures.items c.requires.spliced
