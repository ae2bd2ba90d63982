-- Free choices settled: an instruction whose row may rest on one becomes a freeze of the row's constant, in its place and under its
-- number. What the constant stands for is then one value, wherever it is read.
use Rattle.std.specs.Prelude.{◌≡◌, ℕ, Bool, false, ◌||◌, if◌then◌else◌, slice_get, map, is_some, List, [], ◌∷◌, Option, Some, None}
use Rattle.ir_tree.specs.declared.block.Block.{Block}
use Rattle.ir_tree.specs.declared.function.Function.{Function}
use Rattle.ir_tree.specs.declared.instr.Instr.{Instr}
use Rattle.ir_tree.specs.declared.instr.Instr.TheVariants.{Freeze}
use Rattle.ir_tree.specs.declared.instr.Line.{Line}
use Rattle.ir_tree.specs.declared.operand.Operand.{Operand}
use Rattle.ir_tree.specs.declared.operand.Operand.TheVariants.{Number as Constant}
use Rattle.ir_tree.specs.declared.operand.Reg.TheVariants.{Int}
use Rattle.ir_meaning.specs.Table.{may_choose, rule}
use Rattle.ir_meaning.specs.Facts.{RuleAlways}

-- the width and the number of a constant
abbrev pub number_in : Option Operand → Option (ℕ × ℕ)
number_in (Some (Constant w n)) = Some (w, n)
number_in o = None

-- the constant by which the choice is settled, where there is one
abbrev pub choice_of : Instr → Option (ℕ × ℕ)
choice_of i = if may_choose i then number_in (rule i) else None

abbrev pub frozen_as : Option (ℕ × ℕ) → Instr → Instr
frozen_as None i = i
frozen_as (Some (w, n)) i = Freeze (Int w) (Constant w n)

abbrev pub settled_instr : Instr → Instr
settled_instr i = frozen_as (choice_of i) i

abbrev pub settled_line : Line → Line
settled_line l = record { local = l.local; instr = settled_instr l.instr }

abbrev pub settled_block : Block → Block
settled_block b = record { number = b.number; phis = b.phis; lines = map settled_line b.lines; end = b.end }

abbrev pub settled : Function → Function
settled f = record f { blocks = map settled_block f.blocks }

-- what is made, or the function itself where nothing is
abbrev pub or_same : Function → Option Function → Function
or_same f None = f
or_same f (Some g) = g

-- whether a line changes
abbrev pub any_choice : List Line → Bool
any_choice [] = false
any_choice (l ∷ ls) = is_some (choice_of l.instr) || any_choice ls

abbrev pub any_choice_in : List Block → Bool
any_choice_in [] = false
any_choice_in (b ∷ bs) = any_choice b.lines || any_choice_in bs

-- ---- where no row rests on a free choice: each may stand for the instruction's value, whatever the choice

abbrev pub IsFirm : Instr → Type 0
IsFirm i = (v : Operand) → rule i ≡ Some v → RuleAlways i v

abbrev pub LinesFirm : List Line → Type 0
LinesFirm [] = Unit {0}
LinesFirm (l ∷ ls) = IsFirm l.instr × LinesFirm ls

abbrev pub IsSettled : Function → Type 0
IsSettled f = (p : ℕ) (b : Block) → slice_get f.blocks p ≡ Some b → LinesFirm b.lines
