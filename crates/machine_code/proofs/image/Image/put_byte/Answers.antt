use Rattle.std.proofs.Common.{arith}
use Rattle.machine_code.proofs.Telling.{on_ok}
use Rattle.machine_code.proofs.Writing.{byte_stored, wrote_same}
use Rattle.machine_code.proofs.image.Image.put_byte.Goals as goal

pub returns-clause-wrote : goal.returns-clause-wrote
returns-clause-wrote c = on_ok c.put.result (λ h. wrote_same c.args.self.now c.put.new.self _ _ (λ names. byte_stored c.from.result c.args.byte c.from.ensures (omega arith)) h) c.put.ensures.wrote

pub returns-clause-holds : goal.returns-clause-holds
returns-clause-holds c = on_ok c.put.result (λ h t. h t tt) c.put.ensures.holds
