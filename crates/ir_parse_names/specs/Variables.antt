-- Variables and their initialisers with each name resolved.
use Rattle.std.specs.Prelude.{ℕ, if◌then◌else◌, List, Option, None, Some, Result, Ok}
use Rattle.ir_lex.specs.Quotes.{content}
use Rattle.ir_lex.specs.Tok.{Tok}
use Rattle.ir_parse_parts.specs.Literals.{literal}
use Rattle.ir_parse_parts.specs.declared.raw.Init as raw_init
use Rattle.ir_parse_parts.specs.declared.raw.InitHead as raw_head
use Rattle.ir_parse_parts.specs.declared.raw.InitHead.TheVariants as rh
use Rattle.ir_parse_parts.specs.declared.raw.InitPart as raw_part
use Rattle.ir_parse_parts.specs.declared.raw.InitPart.TheVariants as rp
use Rattle.ir_parse_parts.specs.declared.raw.Variable as raw_variable
use Rattle.ir_tree.specs.declared.function.Variable.{Variable}
use Rattle.ir_tree.specs.declared.init_node.InitHead.{InitHead}
use Rattle.ir_tree.specs.declared.init_node.InitHead.TheVariants as th
use Rattle.ir_tree.specs.declared.init_node.InitPart.{InitPart}
use Rattle.ir_tree.specs.declared.init_node.InitPart.TheVariants as tp
use Rattle.ir_tree.specs.declared.operand.Operand.{Operand}
use Rattle.ir_tree.specs.declared.operand.Operand.TheVariants as to
use Rattle.ir_tree.specs.declared.operand.Reg.{Reg}
use Rattle.ir_tree.specs.declared.operand.Reg.TheVariants.{Int, Ptr}
use Rattle.ir_tree.specs.Forms.{Form, int, pointer, array, structure}
use Rattle.ir_tree.specs.Initials.{Initial, tree_of}
use Rattle.ir_tree.specs.Layout.{align}
use Rattle.ir_parse_names.specs.declared.fault.Fault.{Fault}
use Rattle.ir_parse_names.specs.Bodies.{operand_in, align_or}
use Rattle.ir_parse_names.specs.Locals.{LocalTable, none_known}
use Rattle.ir_parse_names.specs.Resolving.{◌>>=◌, each}
use Rattle.ir_parse_names.specs.Symbols.{symbol_of}
use Rattle.ir_parse_names.specs.Types.{Types, is_width, expanded}

-- the type of a constant for a shape: where that is no scalar, i1, which no shape in memory has
abbrev pub constant_type : Form → Reg
constant_type (int w) = Int w
constant_type pointer = Ptr
constant_type (array n of) = Int 1
constant_type (structure packed parts) = Int 1

-- poison takes its type from the shape that a name stands for, where a name is written
abbrev pub constant_for : Form → Operand → Operand
constant_for f (to.Poison reg) = to.Poison (constant_type f)
constant_for f x = x

-- a number behind what is no scalar as it is written: a literal of the integer that a name stands for, and else, out of range or for no
-- integer, one of i1
abbrev pub literal_or : ℕ → Option ℕ → Operand
literal_or w None = to.Number 1 0
literal_or w (Some bits) = to.Number w bits

abbrev pub number_for : Form → Tok → Operand
number_for (int w) t = literal_or w (if is_width w then literal w t.text else None)
number_for f t = to.Number 1 0

-- what an initialiser for this shape begins with; a string is the bytes that it writes
abbrev pub head_in : Types → LocalTable → Form → raw_head.InitHead → Result InitHead Fault
head_in types locals f (rh.Plain operand) = operand_in types locals operand >>= λ o. Ok (th.Plain (constant_for f o))
head_in types locals f rh.Zeros = Ok th.Zeros
head_in types locals f (rh.Bytes string) = Ok (th.Bytes (content string.form string.text))
head_in types locals f (rh.Number t) = Ok (th.Plain (number_for f t))
head_in types locals f rh.Array = Ok th.Array
head_in types locals f (rh.Struct packed) = Ok (th.Struct packed)

abbrev pub part_in : Types → LocalTable → raw_part.InitPart → Result InitPart Fault
part_in types locals (rp.Typed typed head) = expanded types typed >>= λ f. head_in types locals f head >>= λ h. Ok (tp.Typed f h)
part_in types locals rp.End = Ok tp.End

-- the tree of the parts, none of which is a local
unfoldable pub init_in : Types → Form → raw_init.Init → Result Initial Fault
init_in types f i =
    head_in types none_known f i.root >>= λ root. each (part_in types none_known) i.parts >>= λ parts. Ok (tree_of (root, parts))

abbrev pub init_if : Types → Form → Option raw_init.Init → Result (Option Initial) Fault
init_if types f None = Ok None
init_if types f (Some i) = init_in types f i >>= λ v. Ok (Some v)

-- where no alignment is written it is that of the shape
unfoldable pub variable_in : Types → raw_variable.Variable → Result Variable Fault
variable_in types v =
    expanded types v.typed >>= λ f. init_if types f v.init >>= λ i.
    Ok (record { symbol = symbol_of v.name; linkage = v.linkage; constant = v.constant; shape = f; init = i; align = align_or (align f) v.align })
