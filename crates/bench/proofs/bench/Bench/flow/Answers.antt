use Rattle.std.proofs.Common.{◌<◌, length, sym, ap, subst}
use Rattle.bench.specs.Bench.{BenchView}
use Rattle.bench.proofs.Shown.{instance_within}
use Rattle.bench.proofs.bench.Bench.flow.Goals as goal

pub flow_at-requires : goal.flow_at-requires
flow_at-requires c =
    subst (λ n. c.args.instance < n) (sym (ap length c.as_slice.ensures.value))
    (instance_within c.self.inside.setup c.self.inside.shard c.self.inside.cells.items c.self.inside.desks.items c.self.invariant.0 c.args.instance
    (subst (λ (v : BenchView). c.args.instance < v.state.setup.instances) (sym c.self.view_is) c.requires))
