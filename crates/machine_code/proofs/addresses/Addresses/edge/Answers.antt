use Rattle.std.proofs.Common.{refl}
use Rattle.machine_code.proofs.addresses.Addresses.edge.Goals as goal

pub returns : goal.returns
returns c = record { from = refl; stands = c.source.ensures }
