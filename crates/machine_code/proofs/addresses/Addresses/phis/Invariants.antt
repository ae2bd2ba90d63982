use Rattle.std.proofs.Common.{take}
use Rattle.std.specs.List.{AllZip}
use Rattle.machine_code.specs.Blocks.{IsPhi}
use Rattle.machine_code.proofs.addresses.Addresses.phis.Given as goal

abbrev pub invariant-loop-phi : goal.invariant-loop-phi
invariant-loop-phi l = AllZip (IsPhi l.self) (take l.phi-index l.phis) l.all.items
