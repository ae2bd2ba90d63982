use Rattle.std.proofs.Common.{take}
use Rattle.std.specs.List.{AllZip}
use Rattle.machine_code.specs.Blocks.{IsLineFor}
use Rattle.machine_code.proofs.addresses.Addresses.lines.Given as goal

abbrev pub invariant-loop-line : goal.invariant-loop-line
invariant-loop-line l = AllZip (IsLineFor l.self) (take l.line-index l.lines) l.all.items
