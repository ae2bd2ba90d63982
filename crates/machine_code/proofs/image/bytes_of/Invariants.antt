use Rattle.std.proofs.Common.{drop}
use Rattle.machine_code.proofs.Writing.{IsUnder}
use Rattle.machine_code.proofs.image.bytes_of.Given as goal

abbrev pub invariant-each : goal.invariant-each
invariant-each l = IsUnder l.bases l.shape l.init l.image (drop l.part-index l.parts)
