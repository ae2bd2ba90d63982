-- The uses of locals in blocks, in the order of the text, from what a phi, a line and a terminator's operand have.
use Rattle.std.specs.Prelude.{List, [], ◌++◌, Some, None, flat_map}
use Rattle.ir_tree.specs.declared.block.Block.{Block}
use Rattle.ir_tree.specs.declared.block.Terminator.{Terminator}
use Rattle.ir_tree.specs.declared.block.Terminator.TheVariants.{Branch, Jump, Return, Switch, Unreachable}
use Rattle.ir_tree.specs.declared.instr.Line.{Line}
use Rattle.ir_tree.specs.declared.instr.Phi.{Phi}
use Rattle.ir_tree.specs.declared.operand.Operand.{Operand}

abbrev pub end_uses : {U : Type 0} → (Operand → List U) → Terminator → List U
end_uses of_read (Return None) = []
end_uses of_read (Return (Some a)) = of_read a.operand
end_uses of_read (Jump target) = []
end_uses of_read (Branch condition if_true if_false) = of_read condition
end_uses of_read (Switch width value default cases) = of_read value
end_uses of_read Unreachable = []

unfoldable pub block_uses : {U : Type 0} → (Phi → List U) → (Line → List U) → (Operand → List U) → Block → List U
block_uses of_phi of_line of_read b = flat_map of_phi b.phis ++ (flat_map of_line b.lines ++ end_uses of_read b.end)

abbrev pub blocks_uses : {U : Type 0} → (Phi → List U) → (Line → List U) → (Operand → List U) → List Block → List U
blocks_uses of_phi of_line of_read bs = flat_map (block_uses of_phi of_line of_read) bs
