use Rattle.machine_code.proofs.Storing.{block_is}
use Rattle.machine_code.proofs.start.block_of.Goals as goal

pub returns : goal.returns
returns c = block_is c.args.bases.now c.args.number c.args.variable.now c.args.init.now c.in_ok-bytes.bytes c.in_ok-bytes.ensures.bytes c.in_ok-bytes.ensures.length c.in_ok-bytes.ensures.holds
