use Rattle.std.proofs.Common.{◌≡◌, List, drop}
use Rattle.ir_tree.specs.declared.operand.Symbol.{Symbol}
use Rattle.ir_meaning.specs.Frame.{Locals}
use Rattle.ir_interp.specs.Phis.{edge_meant}
use Rattle.ir_interp.proofs.registers.Registers.taken.Given as goal

abbrev pub invariant-loop-edge : goal.invariant-loop-edge
invariant-loop-edge l = (names : List Symbol) (locals : Locals) → edge_meant names locals l.from (drop l.edge-index l.edges) ≡ edge_meant names locals l.from l.edges
