use Rattle.machine_code.proofs.Addressing.{address_from}
use Rattle.machine_code.proofs.bases.Bases.constant.Goals as goal

pub returns-in-Symbol-clause-from : goal.returns-in-Symbol-clause-from
returns-in-Symbol-clause-from c = address_from c.args.self.now c.in-Symbol.symbol c.in-Symbol.offset c.address.result c.address.ensures
