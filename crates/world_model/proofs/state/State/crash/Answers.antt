use Rattle.world_model.specs.contracts.state.State.{the_view}
use Rattle.world_model.proofs.Everywhere.{crash_instance}
use Rattle.world_model.proofs.Makes.{own_made}
use Rattle.world_model.proofs.state.State.crash.Goals as goal

pub crash_all-requires-clause-own : goal.crash_all-requires-clause-own
crash_all-requires-clause-own c = own_made (the_view c.self.inside) c.args.self.now c.deref_mut.result.now c.self.view_is c.requires.shape c.deref_mut.ensures.value

pub crash_all-requires-clause-instance : goal.crash_all-requires-clause-instance
crash_all-requires-clause-instance c = crash_instance (the_view c.self.inside) c.args.self.now c.args.instance c.self.view_is c.requires.can
