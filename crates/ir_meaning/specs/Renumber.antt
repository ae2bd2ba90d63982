-- Renumbering: the locals and blocks of a function under other numbers.
use Rattle.std.specs.Prelude.{◌≡◌, ℕ, map, option_map}
use Rattle.ir_tree.specs.declared.block.Block.{Block}
use Rattle.ir_tree.specs.declared.block.Case.{Case}
use Rattle.ir_tree.specs.declared.block.Terminator.{Terminator}
use Rattle.ir_tree.specs.declared.block.Terminator.TheVariants.{Branch, Jump, Return, Switch, Unreachable}
use Rattle.ir_tree.specs.declared.function.Function.{Function}
use Rattle.ir_tree.specs.declared.function.Param.{Param}
use Rattle.ir_tree.specs.declared.instr.Incoming.{Incoming}
use Rattle.ir_tree.specs.declared.instr.Instr.{Instr}
use Rattle.ir_tree.specs.declared.instr.Instr.TheVariants.{Phi as StrayPhi}
use Rattle.ir_tree.specs.declared.instr.Line.{Line}
use Rattle.ir_tree.specs.declared.instr.Phi.{Phi}
use Rattle.ir_tree.specs.declared.operand.Operand.{Operand}
use Rattle.ir_tree.specs.declared.operand.Operand.TheVariants.{Local}
use Rattle.ir_tree.specs.Edited.{argument_edited, with_operands}
use Rattle.ir_meaning.specs.Near.{BetterThan}
use Rattle.ir_meaning.specs.Program.{Program}
use Rattle.ir_meaning.specs.Formed.{IsFormed}

abbrev pub operand_renumbered : (ℕ → ℕ) → Operand → Operand
operand_renumbered new (Local x) = Local (new x)
operand_renumbered new o = o

abbrev pub incoming_renumbered : (ℕ → ℕ) → Incoming → Incoming
incoming_renumbered new e = record { from = new e.from; value = operand_renumbered new e.value }

abbrev pub instr_renumbered : (ℕ → ℕ) → Instr → Instr
instr_renumbered new (StrayPhi reg es) = StrayPhi reg (map (incoming_renumbered new) es)
instr_renumbered new i = with_operands (operand_renumbered new) i

abbrev pub line_renumbered : (ℕ → ℕ) → Line → Line
line_renumbered new l = record { local = option_map new l.local; instr = instr_renumbered new l.instr }

abbrev pub phi_renumbered : (ℕ → ℕ) → Phi → Phi
phi_renumbered new p = record { local = new p.local; reg = p.reg; incoming = map (incoming_renumbered new) p.incoming }

abbrev pub case_renumbered : (ℕ → ℕ) → Case → Case
case_renumbered new c = record { reg = c.reg; width = c.width; bits = c.bits; target = new c.target }

abbrev pub end_renumbered : (ℕ → ℕ) → Terminator → Terminator
end_renumbered new (Return argument) = Return (option_map (argument_edited (operand_renumbered new)) argument)
end_renumbered new (Jump target) = Jump (new target)
end_renumbered new (Branch c t f) = Branch (operand_renumbered new c) (new t) (new f)
end_renumbered new (Switch w o default cases) = Switch w (operand_renumbered new o) (new default) (map (case_renumbered new) cases)
end_renumbered new Unreachable = Unreachable

abbrev pub block_renumbered : (ℕ → ℕ) → Block → Block
block_renumbered new b = record { number = new b.number; phis = map (phi_renumbered new) b.phis; lines = map (line_renumbered new) b.lines; end = end_renumbered new b.end }

abbrev pub param_renumbered : (ℕ → ℕ) → Param → Param
param_renumbered new p = record { local = new p.local; reg = p.reg }

-- the function with each number changed
abbrev pub renumbered : (ℕ → ℕ) → Function → Function
renumbered new f = record f { params = map (param_renumbered new) f.params; blocks = map (block_renumbered new) f.blocks }

abbrev pub IsOneToOne : (ℕ → ℕ) → Type 0
IsOneToOne new = (x y : ℕ) → new x ≡ new y → x ≡ y

-- a function under other numbers, one to one, is better
abbrev pub RenumberedBetter : Type 0
RenumberedBetter = (p : Program) → IsFormed p → (new : ℕ → ℕ) → IsOneToOne new → (f : Function) → BetterThan p 1 (renumbered new f) f
