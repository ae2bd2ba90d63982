use Rattle.std.proofs.Common.{refl}
use Rattle.machine_code.proofs.Tasking.{address_task}
use Rattle.machine_code.proofs.addresses.Addresses.address.Goals as goal

pub returns : goal.returns
returns c =
    address_task c.args.self.now c.args.inbounds _ c.args.shape.now c.args.base.now c.args.indices.now c.source-base.result c.in_ok-indices.indices refl c.source-base.ensures c.in_ok-indices.ensures
    (c.requires.laid, c.requires.widths)
