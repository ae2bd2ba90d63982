-- Lists of global values that can be run, a module's or a link's.
use Rattle.std.specs.Prelude.{List, All}
use Rattle.ir_tree.specs.Fits.{FitsShape}
use Rattle.ir_tree.specs.Formed.{Distinct, InstrFormed, IsReg, IsResult}
use Rattle.ir_tree.specs.Items.{reads}
use Rattle.ir_tree.specs.Layout.{IsLaidOut}
use Rattle.ir_tree.specs.Rules.{LineCasts}
use Rattle.ir_tree.specs.Wholes.{symbols}
use Rattle.ir_tree.specs.declared.block.Block.{Block}
use Rattle.ir_tree.specs.declared.function.Function.{Function}
use Rattle.ir_tree.specs.declared.instr.Instr.{Instr}
use Rattle.ir_tree.specs.declared.module.GlobalValue.{GlobalValue}
use Rattle.ir_tree.specs.declared.module.GlobalValue.TheVariants as global

-- widths, shapes and alignments are within the limits, and a cast goes the right way; nothing is said of what the operands are
pub record IsRunnableInstr (i : Instr) : Type 0 where
  pub operands : All (λ a. IsReg a.reg) (reads i)
  pub formed : InstrFormed i
  pub casts : LineCasts i

abbrev pub IsRunnableBlock : Block → Type 0
IsRunnableBlock b = All (λ l. IsRunnableInstr l.instr) b.lines

pub record IsRunnableFunction (f : Function) : Type 0 where
  pub result : IsResult f.result
  pub params : All (λ p. IsReg p.reg) f.params
  pub blocks : All IsRunnableBlock f.blocks

-- a variable's shape is laid out, and its initialiser fits it
abbrev pub IsRunnableGlobal : GlobalValue → Type 0
IsRunnableGlobal (global.Variable v) = IsLaidOut v.shape × FitsShape v
IsRunnableGlobal (global.Function f) = IsRunnableFunction f

-- no symbol stands there twice; nothing is said of what they refer to
pub record AreRunnable (gs : List GlobalValue) : Type 0 where
  pub once : Distinct (symbols gs)
  pub each : All IsRunnableGlobal gs
