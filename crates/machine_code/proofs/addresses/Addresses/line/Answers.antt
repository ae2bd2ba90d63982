use Rattle.std.proofs.Common.{refl}
use Rattle.machine_code.proofs.addresses.Addresses.line.Goals as goal

pub returns : goal.returns
returns c = record { local = refl; task = c.in_ok-task.ensures }
