-- Functions with each number and each operand changed, everywhere at once.
use Rattle.std.specs.Prelude.{ℕ, ◌+◌, map, option_map}
use Rattle.ir_tree.specs.declared.block.Block.{Block}
use Rattle.ir_tree.specs.declared.block.Case.{Case}
use Rattle.ir_tree.specs.declared.block.Terminator.{Terminator}
use Rattle.ir_tree.specs.declared.block.Terminator.TheVariants.{Branch, Jump, Return, Switch, Unreachable}
use Rattle.ir_tree.specs.declared.function.Function.{Function}
use Rattle.ir_tree.specs.declared.function.Param.{Param}
use Rattle.ir_tree.specs.declared.instr.Incoming.{Incoming}
use Rattle.ir_tree.specs.declared.instr.Instr.{Instr}
use Rattle.ir_tree.specs.declared.instr.Instr.TheVariants.{Address, Alloca, Binary, Call, Cast, Freeze, Icmp, Load, Phi as StrayPhi, Select, Store}
use Rattle.ir_tree.specs.declared.instr.Line.{Line}
use Rattle.ir_tree.specs.declared.instr.Phi.{Phi}
use Rattle.ir_tree.specs.declared.operand.Argument.{Argument}
use Rattle.ir_tree.specs.declared.operand.Operand.{Operand}
use Rattle.ir_tree.specs.declared.operand.Operand.TheVariants.{Local}

-- In all of these, `number` changes the numbers of blocks and of the locals that are defined, and `operand` each operand.

abbrev pub argument_edited : (Operand → Operand) → Argument → Argument
argument_edited operand a = record { reg = a.reg; operand = operand a.operand }

abbrev pub incoming_edited : (ℕ → ℕ) → (Operand → Operand) → Incoming → Incoming
incoming_edited number operand e = record { from = number e.from; value = operand e.value }

abbrev pub instr_edited : (ℕ → ℕ) → (Operand → Operand) → Instr → Instr
instr_edited number operand (Binary op flags width left right) = Binary op flags width (operand left) (operand right)
instr_edited number operand (Icmp predicate reg left right) = Icmp predicate reg (operand left) (operand right)
instr_edited number operand (Cast op from value to) = Cast op from (operand value) to
instr_edited number operand (Select condition if_true if_false) = Select (operand condition) (argument_edited operand if_true) (argument_edited operand if_false)
instr_edited number operand (Freeze reg value) = Freeze reg (operand value)
instr_edited number operand (Alloca shape align) = Alloca shape align
instr_edited number operand (Load reg address align) = Load reg (operand address) align
instr_edited number operand (Store reg value address align) = Store reg (operand value) (operand address) align
instr_edited number operand (Address inbounds shape base indices) = Address inbounds shape (operand base) (map (argument_edited operand) indices)
instr_edited number operand (Call result callee arguments) = Call result (operand callee) (map (argument_edited operand) arguments)
instr_edited number operand (StrayPhi reg incoming) = StrayPhi reg (map (incoming_edited number operand) incoming)

-- an instruction with its operands changed
abbrev pub with_operands : (Operand → Operand) → Instr → Instr
with_operands operand i = instr_edited (λ n. n) operand i

abbrev pub line_edited : (ℕ → ℕ) → (Operand → Operand) → Line → Line
line_edited number operand l = record { local = option_map number l.local; instr = instr_edited number operand l.instr }

abbrev pub phi_edited : (ℕ → ℕ) → (Operand → Operand) → Phi → Phi
phi_edited number operand p = record { local = number p.local; reg = p.reg; incoming = map (incoming_edited number operand) p.incoming }

abbrev pub case_edited : (ℕ → ℕ) → Case → Case
case_edited number c = record { reg = c.reg; width = c.width; bits = c.bits; target = number c.target }

abbrev pub end_edited : (ℕ → ℕ) → (Operand → Operand) → Terminator → Terminator
end_edited number operand (Return value) = Return (option_map (argument_edited operand) value)
end_edited number operand (Jump target) = Jump (number target)
end_edited number operand (Branch condition if_true if_false) = Branch (operand condition) (number if_true) (number if_false)
end_edited number operand (Switch width value default cases) = Switch width (operand value) (number default) (map (case_edited number) cases)
end_edited number operand Unreachable = Unreachable

abbrev pub block_edited : (ℕ → ℕ) → (Operand → Operand) → Block → Block
block_edited number operand b = record {
  number = number b.number;
  phis = map (phi_edited number operand) b.phis;
  lines = map (line_edited number operand) b.lines;
  end = end_edited number operand b.end;
}

abbrev pub param_edited : (ℕ → ℕ) → Param → Param
param_edited number p = record { local = number p.local; reg = p.reg }

-- the function with each number and each operand changed; all else is as it was
abbrev pub edited : (ℕ → ℕ) → (Operand → Operand) → Function → Function
edited number operand f = record f { params = map (param_edited number) f.params; blocks = map (block_edited number operand) f.blocks }

-- ---- under other numbers

abbrev pub operand_renamed : (ℕ → ℕ) → Operand → Operand
operand_renamed new (Local x) = Local (new x)
operand_renamed new o = o

-- the function with each local and each block under another number
abbrev pub renamed : (ℕ → ℕ) → Function → Function
renamed new f = edited new (operand_renamed new) f

-- `by` is added to each number
abbrev pub shifted : ℕ → Function → Function
shifted by f = renamed (λ x. x + by) f
