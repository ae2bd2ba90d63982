-- Types of registers, names and operands (LangRef, "First Class Types", "Identifiers", "Constants").
use Rattle.std.specs.Prelude.{ℕ, Bool, true, false, ◌&&◌, not, nat_eq, nat_lt, max, min, if◌then◌else◌, Option, Some, None, option_map, Result, Err, List, [], ◌∷◌, drop}
use Rattle.std.specs.Char.{is_ascii_digit}
use Rattle.std.specs.List.{list_all}
use Rattle.ir_lex.specs.declared.token_kind.TokenKind.{TokenKind}
use Rattle.ir_lex.specs.declared.token_kind.TokenKind.TheVariants as kinds
use Rattle.ir_lex.specs.TokenKinds.{number, width_of}
use Rattle.ir_lex.specs.Quotes.{stripped}
use Rattle.ir_lex.specs.Tok.{Tok}
use Rattle.ir_tree.specs.declared.operand.Reg.{Reg}
use Rattle.ir_tree.specs.declared.operand.Reg.TheVariants.{Int, Ptr}
use Rattle.ir_parse_parts.specs.Alphabet.{contains}
use Rattle.ir_parse_parts.specs.declared.fault.TokenFault.{TokenFault}
use Rattle.ir_parse_parts.specs.declared.fault.TokenFault.TheVariants.{Syntax, Profile}
use Rattle.ir_parse_parts.specs.Forms.{Form, ◌>>=◌, either, gives, token}
use Rattle.ir_parse_parts.specs.Rules.{in_range, is_among, is_exact, is_valued}
use Rattle.ir_parse_parts.specs.Classes.{tokens, refusal, the}
use Rattle.ir_parse_parts.specs.Decimals.{decimal}
use Rattle.ir_parse_parts.specs.declared.raw.Operand.{Operand}
use Rattle.ir_parse_parts.specs.declared.raw.Operand.TheVariants as operands
use Rattle.ir_parse_parts.specs.Literals.{IsWidth, literal}

-- ---- types of registers

abbrev pub INTEGER : List ℕ
INTEGER = number kinds.MemoryInteger ∷ number kinds.RegisterInteger ∷ []

abbrev pub REG : List ℕ
REG = number kinds.MemoryInteger ∷ number kinds.RegisterInteger ∷ number kinds.Ptr ∷ []

abbrev pub SCALAR : List ℕ
SCALAR = number kinds.MemoryInteger ∷ number kinds.Ptr ∷ []

-- types that are left out
abbrev pub REFUSED_TYPES : List ℕ
REFUSED_TYPES = number kinds.Target ∷ number kinds.RefusedType ∷ []

-- where a type may stand
abbrev pub type_refusal : ℕ → TokenFault
type_refusal class = if contains REFUSED_TYPES class then Profile else refusal class

-- where a type of memory must stand
abbrev pub memory_refusal : ℕ → TokenFault
memory_refusal class = if nat_eq class (number kinds.RegisterInteger) then Profile else type_refusal class

-- the width of iN, where the class has it that N is 1 to 64
abbrev pub width : Tok → ℕ
width t = min 64 (max 1 (width_of (drop 1 t.text)))

abbrev pub reg_of : Tok → Reg
reg_of t = if nat_eq (number t.kind) (number kinds.Ptr) then Ptr else Int (width t)

abbrev pub IsReg : Reg → Type 0
IsReg (Int w) = IsWidth w
IsReg Ptr = Unit {0}

-- iN / ptr
abbrev pub reg : Form Tok Reg
reg = token (is_among tokens type_refusal REG reg_of)

-- iN
abbrev pub integer : Form Tok ℕ
integer = token (is_among tokens type_refusal INTEGER width)

-- i1
abbrev pub is_bit : Tok → Bool
is_bit t = nat_eq (width t) 1

abbrev pub bit : Form Tok ℕ
bit = token (is_exact tokens type_refusal INTEGER is_bit width)

-- i8 / i16 / i32 / i64 / ptr
abbrev pub scalar : Form Tok Reg
scalar = token (is_among tokens memory_refusal SCALAR reg_of)

-- void / reg
abbrev pub RESULT : List ℕ
RESULT = number kinds.Void ∷ REG

abbrev pub result_of : Tok → Option Reg
result_of t = if nat_eq (number t.kind) (number kinds.Void) then None else Some (reg_of t)

abbrev pub result : Form Tok (Option Reg)
result = token (is_among tokens type_refusal RESULT result_of)

-- ---- names

abbrev pub is_numeral : List ℕ → Bool
is_numeral [] = false
is_numeral (d ∷ ds) = list_all is_ascii_digit (d ∷ ds)

-- a name that is written by a number has one below 2^32
abbrev pub named_by : Tok → List ℕ → Option Tok
named_by t bare = if is_numeral bare && not (nat_lt (decimal bare) 4294967296) then None else Some t

unfoldable pub named : Tok → Option Tok
named t = named_by t (stripped t.form t.text)

-- the same of an attribute group, which a number behind a mark writes
unfoldable pub group_named : Tok → Option Tok
group_named t = named_by t (drop 1 t.text)

abbrev pub LOCAL : List ℕ
LOCAL = number kinds.Local ∷ []

abbrev pub local : Form Tok Tok
local = token (is_valued tokens refusal LOCAL named)

-- the same of a global, of which only some are written by numbers
abbrev pub global_by : TokenKind → Tok → Option Tok
global_by kinds.NumberedGlobal t = named t
global_by kinds.NumberedDefinition t = named t
global_by h t = Some t

abbrev pub global_named : Tok → Option Tok
global_named t = global_by t.kind t

-- ---- operands

abbrev pub POINTER_OPERAND : List ℕ
POINTER_OPERAND = number kinds.Local ∷ number kinds.True ∷ number kinds.False ∷ number kinds.Null ∷ number kinds.Poison ∷ number kinds.Global ∷ number kinds.NumberedGlobal ∷ number kinds.NumberedDefinition ∷ []

abbrev pub NUMBER_OPERAND : List ℕ
NUMBER_OPERAND = number kinds.Number ∷ POINTER_OPERAND

-- no number is of type ptr
abbrev pub classes_of : Reg → List ℕ
classes_of (Int w) = NUMBER_OPERAND
classes_of Ptr = POINTER_OPERAND

abbrev pub bits_of : Reg → Tok → Option Operand
bits_of (Int w) t = option_map (operands.Number w) (literal w t.text)
bits_of Ptr t = None

-- what a token of such a class means, by its class
abbrev pub operand_by : TokenKind → Reg → Tok → Option Operand
operand_by kinds.Number r t = bits_of r t
operand_by kinds.Local r t = option_map operands.Local (named t)
operand_by kinds.True r t = Some (operands.Number 1 1)
operand_by kinds.False r t = Some (operands.Number 1 0)
operand_by kinds.Null r t = Some operands.Null
operand_by kinds.Poison r t = Some (operands.Poison r)
operand_by kinds.Global r t = Some (operands.Global t)
operand_by kinds.NumberedGlobal r t = option_map operands.Global (named t)
operand_by kinds.NumberedDefinition r t = option_map operands.Global (named t)
operand_by h r t = None

abbrev pub operand_of : Reg → Tok → Option Operand
operand_of r t = operand_by t.kind r t

abbrev pub number_means : Reg → Tok → Result Operand TokenFault
number_means (Int w) t = in_range (bits_of (Int w) t)
number_means Ptr t = Err Syntax

abbrev pub local_value : Tok → Result Operand TokenFault
local_value t = in_range (option_map operands.Local (named t))

abbrev pub global_value : Tok → Result Operand TokenFault
global_value t = in_range (option_map operands.Global (named t))

-- Local / Number / true / false / null / poison / Global
abbrev pub simple : Reg → Form Tok Operand
simple r = token (is_valued tokens refusal (classes_of r) (operand_of r))

-- ---- words that may stand or not

abbrev pub maybe : TokenKind → Form Tok Bool
maybe word = either
    (do
      _ ← the word
      gives true)
    (gives false)
