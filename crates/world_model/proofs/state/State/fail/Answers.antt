use Rattle.world_model.specs.contracts.state.State.{the_view}
use Rattle.world_model.proofs.Everywhere.{fail_replica}
use Rattle.world_model.proofs.Makes.{own_made}
use Rattle.world_model.proofs.state.State.fail.Goals as goal

pub fail_all-requires-clause-own : goal.fail_all-requires-clause-own
fail_all-requires-clause-own c = own_made (the_view c.self.inside) c.args.self.now c.deref_mut.result.now c.self.view_is c.requires.shape c.deref_mut.ensures.value

pub fail_all-requires-clause-replica : goal.fail_all-requires-clause-replica
fail_all-requires-clause-replica c = fail_replica (the_view c.self.inside) c.args.self.now c.args.replica c.self.view_is c.requires.can
