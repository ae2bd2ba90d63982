use Rattle.std.proofs.Common.{refl}
use Rattle.machine_code.proofs.addresses.Addresses.typed.Goals as goal

pub returns : goal.returns
returns c = record { reg = refl; stands = c.source.ensures }
