use Rattle.link_core.proofs.Places.{worker_there}
use Rattle.link_core.proofs.machine.Core.step.Goals as goal

pub claim-requires : goal.claim-requires
claim-requires c = worker_there _ c.args.self.now c.args.event.now _ _ c.self.view_is c.requires c.index_mut-link.ensures.value

pub look-requires : goal.look-requires
look-requires c = worker_there _ c.args.self.now c.args.event.now _ _ c.self.view_is c.requires c.index_mut-link.ensures.value

pub compile-requires : goal.compile-requires
compile-requires c = worker_there _ c.args.self.now c.args.event.now _ _ c.self.view_is c.requires c.index_mut-link.ensures.value

pub keep-requires : goal.keep-requires
keep-requires c = worker_there _ c.args.self.now c.args.event.now _ _ c.self.view_is c.requires c.index_mut-link.ensures.value
