-- Functions with each name resolved: the tree of what is written.
use Rattle.std.specs.Prelude.{ℕ, ◌+◌, ◌/◌, nat_eq, if◌then◌else◌, List, [], ◌∷◌, Option, None, Some, Result, Ok}
use Rattle.ir_parse_parts.specs.declared.raw.Argument as raw_argument
use Rattle.ir_parse_parts.specs.declared.raw.Case as raw_case
use Rattle.ir_parse_parts.specs.declared.raw.Incoming as raw_incoming
use Rattle.ir_parse_parts.specs.declared.raw.Instr as raw_instr
use Rattle.ir_parse_parts.specs.declared.raw.Instr.TheVariants as ri
use Rattle.ir_parse_parts.specs.declared.raw.WrittenLine as raw_line
use Rattle.ir_parse_parts.specs.declared.raw.Operand as raw_operand
use Rattle.ir_parse_parts.specs.declared.raw.Operand.TheVariants as ro
use Rattle.ir_parse_parts.specs.declared.raw.Terminator as raw_end
use Rattle.ir_parse_parts.specs.declared.raw.Terminator.TheVariants as re
use Rattle.ir_parse_parts.specs.declared.shape.Typed.{Typed}
use Rattle.ir_tree.specs.declared.block.Case.{Case}
use Rattle.ir_tree.specs.declared.block.Terminator.{Terminator}
use Rattle.ir_tree.specs.declared.block.Terminator.TheVariants as te
use Rattle.ir_tree.specs.declared.instr.Incoming.{Incoming}
use Rattle.ir_tree.specs.declared.instr.Instr.{Instr}
use Rattle.ir_tree.specs.declared.instr.Instr.TheVariants as ti
use Rattle.ir_tree.specs.declared.instr.Line.{Line}
use Rattle.ir_tree.specs.declared.operand.Argument.{Argument}
use Rattle.ir_tree.specs.declared.operand.Operand.{Operand}
use Rattle.ir_tree.specs.declared.operand.Operand.TheVariants as to
use Rattle.ir_tree.specs.declared.operand.Reg.{Reg}
use Rattle.ir_tree.specs.declared.operand.Reg.TheVariants.{Int, Ptr}
use Rattle.ir_tree.specs.Forms.{Form}
use Rattle.ir_tree.specs.Layout.{align}
use Rattle.ir_parse_names.specs.declared.fault.Fault.{Fault}
use Rattle.ir_parse_names.specs.declared.locals.Sort.TheVariants as sorts
use Rattle.ir_parse_names.specs.Addresses.{offset_behind}
use Rattle.ir_parse_names.specs.Locals.{LocalTable, number_in}
use Rattle.ir_parse_names.specs.Numbering.{is_defined}
use Rattle.ir_parse_names.specs.Resolving.{◌>>=◌, each}
use Rattle.ir_parse_names.specs.Symbols.{symbol_of}
use Rattle.ir_parse_names.specs.Types.{Types, expanded, array_of}

abbrev pub operand_in : Types → LocalTable → raw_operand.Operand → Result Operand Fault
operand_in types locals (ro.Local name) = number_in locals sorts.Value name >>= λ n. Ok (to.Local n)
operand_in types locals (ro.Global name) = Ok (to.Symbol (symbol_of name) 0)
operand_in types locals (ro.Number width bits) = Ok (to.Number width bits)
operand_in types locals ro.Null = Ok to.Null
operand_in types locals (ro.Poison reg) = Ok (to.Poison reg)
operand_in types locals (ro.Address steps) = offset_behind 0 types steps.levels >>= λ offset. Ok (to.Symbol (symbol_of steps.name) offset)

abbrev pub argument_in : Types → LocalTable → raw_argument.Argument → Result Argument Fault
argument_in types locals a = operand_in types locals a.operand >>= λ o. Ok (record { reg = a.reg; operand = o })

abbrev pub incoming_in : Types → LocalTable → raw_incoming.Incoming → Result Incoming Fault
incoming_in types locals i =
    operand_in types locals i.value >>= λ o. number_in locals sorts.Block i.from >>= λ b. Ok (record { from = b; value = o })

-- an `alloca` of a number of shapes other than 1 is one of an array of them, which is a level
abbrev pub allocated : Types → Typed → ℕ → Result Form Fault
allocated types typed count =
    if nat_eq count 1 then expanded types typed else array_of types typed count

-- where no alignment is written it is that of the shape
abbrev pub align_or : ℕ → Option ℕ → ℕ
align_or default None = default
align_or default (Some written) = written

abbrev pub reg_align : Reg → ℕ
reg_align (Int width) = width / 8
reg_align Ptr = 8

abbrev pub instr_in : Types → LocalTable → raw_instr.Instr → Result Instr Fault
instr_in types locals (ri.Binary op flags width left right) =
    operand_in types locals left >>= λ l. operand_in types locals right >>= λ r. Ok (ti.Binary op flags width l r)
instr_in types locals (ri.Icmp predicate reg left right) =
    operand_in types locals left >>= λ l. operand_in types locals right >>= λ r. Ok (ti.Icmp predicate reg l r)
instr_in types locals (ri.Cast op from value to) = operand_in types locals value >>= λ v. Ok (ti.Cast op from v to)
instr_in types locals (ri.Select condition if_true if_false) =
    operand_in types locals condition >>= λ c. argument_in types locals if_true >>= λ t. argument_in types locals if_false >>= λ f. Ok (ti.Select c t f)
instr_in types locals (ri.Freeze reg value) = operand_in types locals value >>= λ v. Ok (ti.Freeze reg v)
instr_in types locals (ri.Phi reg incoming) = each (incoming_in types locals) incoming >>= λ is. Ok (ti.Phi reg is)
instr_in types locals (ri.Alloca typed count written) = allocated types typed count >>= λ f. Ok (ti.Alloca f (align_or (align f) written))
instr_in types locals (ri.Load reg address written) = operand_in types locals address >>= λ a. Ok (ti.Load reg a (align_or (reg_align reg) written))
instr_in types locals (ri.Store reg value address written) =
    operand_in types locals value >>= λ v. operand_in types locals address >>= λ a. Ok (ti.Store reg v a (align_or (reg_align reg) written))
instr_in types locals (ri.Address inbounds typed base indices) =
    expanded types typed >>= λ f. operand_in types locals base >>= λ b. each (argument_in types locals) indices >>= λ is. Ok (ti.Address inbounds f b is)
instr_in types locals (ri.Call result callee arguments) =
    operand_in types locals callee >>= λ c. each (argument_in types locals) arguments >>= λ given. Ok (ti.Call result c given)

-- ---- blocks

-- each line gets the next number where it defines a local
abbrev pub local_at : ℕ → raw_line.WrittenLine → Option ℕ
local_at next l = if is_defined l then Some next else None

abbrev pub behind_line : ℕ → raw_line.WrittenLine → ℕ
behind_line next l = if is_defined l then next + 1 else next

abbrev pub lines_in : Types → LocalTable → ℕ → List raw_line.WrittenLine → Result (List Line) Fault
lines_in types locals next [] = Ok []
lines_in types locals next (l ∷ ls) =
    instr_in types locals l.instr >>= λ i. lines_in types locals (behind_line next l) ls >>= λ more. Ok (record { local = local_at next l; instr = i } ∷ more)

abbrev pub behind_lines : ℕ → List raw_line.WrittenLine → ℕ
behind_lines next [] = next
behind_lines next (l ∷ ls) = behind_lines (behind_line next l) ls

abbrev pub case_in : LocalTable → raw_case.Case → Result Case Fault
case_in locals c =
    number_in locals sorts.Block c.target >>= λ b. Ok (record { reg = c.reg; width = c.width; bits = c.bits; target = b })

abbrev pub end_in : Types → LocalTable → raw_end.Terminator → Result Terminator Fault
end_in types locals (re.Return None) = Ok (te.Return None)
end_in types locals (re.Return (Some a)) = argument_in types locals a >>= λ v. Ok (te.Return (Some v))
end_in types locals (re.Jump target) = number_in locals sorts.Block target >>= λ b. Ok (te.Jump b)
end_in types locals (re.Branch condition if_true if_false) =
    operand_in types locals condition >>= λ c. number_in locals sorts.Block if_true >>= λ t. number_in locals sorts.Block if_false >>= λ f. Ok (te.Branch c t f)
end_in types locals (re.Switch width value default cases) =
    operand_in types locals value >>= λ v. number_in locals sorts.Block default >>= λ d. each (case_in locals) cases >>= λ cs. Ok (te.Switch width v d cs)
end_in types locals re.Unreachable = Ok te.Unreachable
