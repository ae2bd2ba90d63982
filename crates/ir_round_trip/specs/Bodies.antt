-- The lines of a block: its phis, and the instructions behind them (LangRef, "Functions").
use Rattle.std.specs.Prelude.{ℕ, ◌+◌, List, [], ◌∷◌, ◌++◌, map, length, Some}
use Rattle.ir_tree.specs.declared.block.Block.{Block}
use Rattle.ir_tree.specs.declared.instr.Instr.TheVariants as instr
use Rattle.ir_tree.specs.declared.instr.Line.{Line}
use Rattle.ir_tree.specs.declared.instr.Phi.{Phi}

-- a phi is a line with a result
abbrev pub phi_as_line : Phi → Line
phi_as_line p = record { local = Some p.local; instr = instr.Phi p.reg p.incoming }

-- all that stands before the terminator
abbrev pub stated : Block → List Line
stated b = map phi_as_line b.phis ++ b.lines

-- how many instructions stand in these blocks, phis among them, but for the terminators
abbrev pub instructions : List Block → ℕ
instructions [] = 0
instructions (b ∷ bs) = length (stated b) + instructions bs
