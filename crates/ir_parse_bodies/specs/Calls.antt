-- Calls (LangRef, "call Instruction"), over what spells a shape.
use Rattle.std.specs.Prelude.{ℕ, Bool, true, false, nat_eq, if◌then◌else◌, Option, Some, None, List, [], ◌∷◌}
use Rattle.ir_lex.specs.declared.token_kind.TokenKind.TheVariants as kinds
use Rattle.ir_lex.specs.TokenKinds.{number}
use Rattle.ir_lex.specs.Tok.{Tok}
use Rattle.ir_tree.specs.declared.operand.Reg.{Reg}
use Rattle.ir_tree.specs.declared.operand.Reg.TheVariants.{Int, Ptr}
use Rattle.ir_parse_parts.specs.declared.fault.TokenFault.{TokenFault}
use Rattle.ir_parse_parts.specs.declared.fault.TokenFault.TheVariants.{Syntax}
use Rattle.ir_parse_parts.specs.Forms.{Form, ◌>>=◌, either, gives, optional, Star, token}
use Rattle.ir_parse_parts.specs.Rules.{is_among, is_exact, is_valued}
use Rattle.ir_parse_heads.specs.Attributes.{parameter_attribute, parameter_attributes, call_attributes}
use Rattle.ir_parse_parts.specs.Classes.{tokens, refusal, the, itself}
use Rattle.ir_parse_parts.specs.declared.raw.Argument.{Argument}
use Rattle.ir_parse_parts.specs.declared.raw.Instr.{Instr}
use Rattle.ir_parse_parts.specs.declared.raw.Instr.TheVariants as instrs
use Rattle.ir_parse_parts.specs.declared.raw.Operand.{Operand}
use Rattle.ir_parse_parts.specs.declared.shape.Typed.{Typed}
use Rattle.ir_parse_heads.specs.FunctionHeads.{end_of_none}
use Rattle.ir_parse_parts.specs.Metadata.{attachments}
use Rattle.ir_parse_parts.specs.Operands.{REG, type_refusal, reg_of, reg, result, classes_of, operand_of}
use Rattle.ir_parse_operands.specs.Values.{address, operand}

-- ---- before the result

-- fastcc / ccc / pattr
unfoldable pub convention : Form Tok (Unit {0})
convention = either (the kinds.CallingConvention) parameter_attribute

-- {fastcc / ccc / pattr}
unfoldable pub conventions : Form Tok (Unit {0})
conventions = do
  _ ← Star convention
  gives tt

-- ---- the types of the callee's parameters, where they are written

-- reg; its token
abbrev pub written_type : Form Tok Tok
written_type = token (is_among tokens type_refusal REG itself)

-- , reg
unfoldable pub further_type : Form Tok Tok
further_type = do
  _ ← the kinds.Comma
  written_type

-- reg {, reg}
unfoldable pub some_types : Form Tok (List Tok)
some_types = do
  first ← written_type
  more ← Star further_type
  gives (first ∷ more)

-- [reg {, reg}] )
unfoldable pub listed_types : Form Tok (List Tok)
listed_types = either
    (do
      ws ← some_types
      _ ← the kinds.CloseParen
      gives ws)
    (do
      _ ← end_of_none
      gives [])

-- ( [reg {, reg}] )
unfoldable pub types : Form Tok (List Tok)
types = do
  _ ← the kinds.OpenParen
  listed_types

-- ---- arguments

-- {pattr} operand
unfoldable pub argument_behind : Form Tok Typed → Reg → Form Tok Argument
argument_behind shape r = do
  _ ← parameter_attributes
  v ← operand shape r
  gives (record { reg = r; operand = v })

-- reg {pattr} operand
unfoldable pub argument : Form Tok Typed → Form Tok Argument
argument shape = do
  r ← reg
  argument_behind shape r

-- , reg {pattr} operand
unfoldable pub further_argument : Form Tok Typed → Form Tok Argument
further_argument shape = do
  _ ← the kinds.Comma
  argument shape

unfoldable pub some_arguments : Form Tok Typed → Form Tok (List Argument)
some_arguments shape = do
  first ← argument shape
  more ← Star (further_argument shape)
  gives (first ∷ more)

-- [arg {, arg}] ), of any types
unfoldable pub any_arguments : Form Tok Typed → Form Tok (List Argument)
any_arguments shape = either
    (do
      as' ← some_arguments shape
      _ ← the kinds.CloseParen
      gives as')
    (do
      _ ← end_of_none
      gives [])

-- ---- arguments of the types that are written

abbrev pub same_reg : Reg → Reg → Bool
same_reg (Int v) (Int w) = nat_eq v w
same_reg Ptr Ptr = true
same_reg r s = false

-- both tokens write one type
abbrev pub is_type : Tok → Tok → Bool
is_type w t = same_reg (reg_of w) (reg_of t)

-- reg, the type that this token writes
abbrev pub type_again : Tok → Form Tok Reg
type_again w = token (is_exact tokens type_refusal REG (is_type w) reg_of)

-- an argument of that type
unfoldable pub argument_of : Form Tok Typed → Tok → Form Tok Argument
argument_of shape w = do
  r ← type_again w
  argument_behind shape r

unfoldable pub further_of : Form Tok Typed → Tok → Form Tok Argument
further_of shape w = do
  _ ← the kinds.Comma
  argument_of shape w

-- {, arg}, one of each of these types in turn
abbrev pub each_further : Form Tok Typed → List Tok → Form Tok (List Argument)
each_further shape [] = gives []
each_further shape (w ∷ ws) = do
  a ← further_of shape w
  more ← each_further shape ws
  gives (a ∷ more)

unfoldable pub some_of : Form Tok Typed → Tok → List Tok → Form Tok (List Argument)
some_of shape w ws = do
  first ← argument_of shape w
  more ← each_further shape ws
  gives (first ∷ more)

-- [arg {, arg}] ), one of each of these types in turn
abbrev pub arguments_of : Form Tok Typed → List Tok → Form Tok (List Argument)
arguments_of shape [] = do
  _ ← the kinds.CloseParen
  gives []
arguments_of shape (w ∷ ws) = do
  as' ← some_of shape w ws
  _ ← the kinds.CloseParen
  gives as'

-- [arg {, arg}] ), of the types that are written, where they are
abbrev pub arguments : Form Tok Typed → Option (List Tok) → Form Tok (List Argument)
arguments shape None = any_arguments shape
arguments shape (Some ws) = arguments_of shape ws

-- ---- what is called

-- operand
unfoldable pub called_value : Form Tok Typed → Form Tok (Option Operand)
called_value shape = do
  v ← operand shape Ptr
  gives (Some v)

-- a lifetime marker, whose call is dropped
unfoldable pub marker : Form Tok (Option Operand)
marker = do
  _ ← the kinds.LifetimeMarker
  gives None

-- a lifetime marker is no part of the language that is left out where its call would be dropped, if it had no name
abbrev pub marker_refusal : ℕ → TokenFault
marker_refusal class = if nat_eq class (number kinds.LifetimeMarker) then Syntax else refusal class

abbrev pub unmarked : Form Tok Operand
unmarked = token (is_valued tokens marker_refusal (classes_of Ptr) (operand_of Ptr))

unfoldable pub unmarked_value : Form Tok Typed → Form Tok (Option Operand)
unmarked_value shape = do
  v ← either (address shape) unmarked
  gives (Some v)

-- of a call with a name or without one, and with this result; nothing of a lifetime marker
abbrev pub callee : Form Tok Typed → Bool → Option Reg → Form Tok (Option Operand)
callee shape named (Some r) = called_value shape
callee shape true None = unmarked_value shape
callee shape false None = either marker (called_value shape)

-- ---- calls

abbrev pub called : Option Reg → Option Operand → List Argument → Option Instr
called r None as' = None
called r (Some f) as' = Some (instrs.Call r f as')

-- {fastcc / ccc / pattr} result [( [reg {, reg}] )] operand ( [arg {, arg}] ) {fattr / Group} {att}, with a name before
-- or not; nothing where the call is dropped
unfoldable pub calling : Form Tok Typed → Bool → Form Tok (Option Instr)
calling shape named = do
  _ ← conventions
  r ← result
  ws ← optional types
  f ← callee shape named r
  _ ← the kinds.OpenParen
  as' ← arguments shape ws
  _ ← call_attributes
  _ ← attachments
  gives (called r f as')

-- behind `tail` or `notail`
unfoldable pub tail_calling : Form Tok Typed → Bool → Form Tok (Option Instr)
tail_calling shape named = do
  _ ← the kinds.Call
  calling shape named
