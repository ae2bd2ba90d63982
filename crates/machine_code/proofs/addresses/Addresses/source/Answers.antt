use Rattle.machine_code.proofs.Standing.{local_read, null_read, number_read, poison_read, symbol_read}
use Rattle.machine_code.proofs.addresses.Addresses.source.Goals as goal

pub returns-in-Local : goal.returns-in-Local
returns-in-Local c = local_read c.args.self.now c.args.operand.now c.in-Local.local c.in-Local.is

pub returns-in-Number : goal.returns-in-Number
returns-in-Number c = number_read c.args.self.now c.args.operand.now c.in-Number.width c.in-Number.bits c.in-Number.is

pub returns-in-Null : goal.returns-in-Null
returns-in-Null c = null_read c.args.self.now c.args.operand.now c.in-Null.is

pub returns-in-Poison : goal.returns-in-Poison
returns-in-Poison c = poison_read c.args.self.now c.args.operand.now c.in-Poison.field-0 c.in-Poison.is

pub returns-in-Symbol : goal.returns-in-Symbol
returns-in-Symbol c = symbol_read c.args.self.now c.args.operand.now c.in-Symbol.symbol c.in-Symbol.offset c.address.result c.in-Symbol.is c.address.ensures
