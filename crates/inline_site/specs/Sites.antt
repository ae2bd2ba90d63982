-- A call at a place of a function.
use Rattle.std.specs.Prelude.{◌≡◌, ℕ, ◌+◌, List, [], ◌∷◌, ◌++◌, length}
use Rattle.ir_tree.specs.Types.{argument_types, param_types}
use Rattle.ir_tree.specs.declared.block.Block.{Block}
use Rattle.ir_tree.specs.declared.function.Function.{Function}
use Rattle.ir_tree.specs.declared.instr.Instr.{Instr}
use Rattle.ir_tree.specs.declared.instr.Instr.TheVariants.{Call}
use Rattle.ir_tree.specs.declared.instr.Line.{Line}
use Rattle.ir_tree.specs.declared.operand.Argument.{Argument}
use Rattle.ir_tree.specs.declared.operand.Operand.TheVariants.{Symbol as Named}
use Rattle.ir_meaning.specs.Program.{counted}

-- an instruction's site: its block between the blocks before and behind, and the instruction between the others of its block
pub record Site : Type 0 where
  pub front : List Block
  pub block : Block
  pub back : List Block
  pub before : List Line
  pub call : Line
  pub after : List Line

-- how many phis, instructions and terminators these blocks have
abbrev pub counted_in : List Block → ℕ
counted_in [] = 0
counted_in (b ∷ bs) = counted b + counted_in bs

-- the site is at this place of the blocks, counted from 1 over their phis, instructions and terminators in the order of the text
pub record StandsAt (bs : List Block) (place : ℕ) (s : Site) : Type 0 where
  pub blocks : bs ≡ s.front ++ s.block ∷ s.back
  pub lines : s.block.lines ≡ s.before ++ s.call ∷ s.after
  pub counts : place ≡ counted_in s.front + (length s.block.phis + (length s.before + 1))

-- the site is that of the line of this place in its block, which stands at this place among the blocks, both counted from 0
pub record IsAt (bs : List Block) (block line : ℕ) (s : Site) : Type 0 where
  pub blocks : bs ≡ s.front ++ s.block ∷ s.back
  pub lines : s.block.lines ≡ s.before ++ s.call ∷ s.after
  pub front : length s.front ≡ block
  pub before : length s.before ≡ line

-- the instruction is a direct call of the callee, of its type, with these arguments
pub record IsCallOf (callee : Function) (instr : Instr) (arguments : List Argument) : Type 0 where
  pub direct : instr ≡ Call callee.result (Named callee.symbol 0) arguments
  pub typed : argument_types arguments ≡ param_types callee.params
