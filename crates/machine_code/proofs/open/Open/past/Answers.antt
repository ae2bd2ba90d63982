use Rattle.std.proofs.Common.{arith}
use Rattle.machine_code.proofs.Laying.{admitted}
use Rattle.machine_code.proofs.open.Open.past.Goals as goal

pub begin_of-begin-requires-clause-near : goal.begin_of-begin-requires-clause-near
begin_of-begin-requires-clause-near c =
    let a = admitted c.args.self c.args.shape.now c.in-Members.packed c.in-Members.offset c.in-Members.whole c.in-Members.is c.requires.laid c.requires.admits in
    omega (arith, a.0, a.1)
