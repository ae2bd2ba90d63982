-- What the readers of calls give.
use Rattle.std.specs.Prelude.{ℕ, Bool, true, false, Option, Some, None, List, [], ◌∷◌, ◌++◌}
use Rattle.ir_lex.specs.declared.token_kind.TokenKind.TheVariants as kinds
use Rattle.ir_lex.specs.TokenKinds.{number}
use Rattle.ir_lex.specs.Tok.{Tok}
use Rattle.ir_tree.specs.declared.operand.Reg.{Reg}
use Rattle.ir_tree.specs.declared.operand.Reg.TheVariants.{Ptr}
use Rattle.ir_parse_parts.specs.Alphabet.{among}
use Rattle.ir_parse_parts.specs.Readers.{Reader, ◌>>=◌, done, pick, optional_at, star_at, token_at}
use Rattle.ir_parse_parts.specs.Rules.{is_among, is_exact, is_valued}
use Rattle.ir_parse_heads.specs.AttributesAt.{PARAMETER, parameter_attribute_at, parameter_attributes_at, call_attributes_at}
use Rattle.ir_parse_parts.specs.Classes.{tokens, the_at, itself}
use Rattle.ir_parse_parts.specs.declared.raw.Argument.{Argument}
use Rattle.ir_parse_parts.specs.declared.raw.Instr.{Instr}
use Rattle.ir_parse_parts.specs.declared.raw.Operand.{Operand}
use Rattle.ir_parse_heads.specs.FunctionHeadsAt.{end_of_none_at}
use Rattle.ir_parse_parts.specs.MetadataAt.{COMMA, PAREN, attachments_at}
use Rattle.ir_parse_parts.specs.Operands.{REG, type_refusal, reg_of, classes_of, operand_of}
use Rattle.ir_parse_parts.specs.OperandsAt.{reg_at, result_at}
use Rattle.ir_parse_operands.specs.ValuesAt.{ADDRESS, address_at, operand_at}
use Rattle.ir_parse_bodies.specs.Calls.{is_type, marker_refusal, called}

abbrev pub CONVENTION : List ℕ
CONVENTION = number kinds.CallingConvention ∷ []

-- what stands before the result of a call begins with
abbrev pub CONVENTIONS : List ℕ
CONVENTIONS = CONVENTION ++ PARAMETER

abbrev pub MARKER : List ℕ
MARKER = number kinds.LifetimeMarker ∷ []

unfoldable pub convention_at : Reader Tok (Unit {0})
convention_at = pick (among tokens CONVENTION) (the_at kinds.CallingConvention) parameter_attribute_at

unfoldable pub conventions_at : Reader Tok (Unit {0})
conventions_at = do
  _ ← star_at (among tokens CONVENTIONS) convention_at
  done tt

abbrev pub written_type_at : Reader Tok Tok
written_type_at = token_at (is_among tokens type_refusal REG itself)

unfoldable pub further_type_at : Reader Tok Tok
further_type_at = do
  _ ← the_at kinds.Comma
  written_type_at

-- those behind a first one
unfoldable pub types_behind_at : Tok → Reader Tok (List Tok)
types_behind_at first = do
  more ← star_at (among tokens COMMA) further_type_at
  done (first ∷ more)

unfoldable pub some_types_at : Reader Tok (List Tok)
some_types_at = do
  first ← written_type_at
  types_behind_at first

unfoldable pub listed_types_at : Reader Tok (List Tok)
listed_types_at = pick (among tokens REG)
    (do
      ws ← some_types_at
      _ ← the_at kinds.CloseParen
      done ws)
    (do
      _ ← end_of_none_at
      done [])

unfoldable pub types_at : Reader Tok (List Tok)
types_at = do
  _ ← the_at kinds.OpenParen
  listed_types_at

unfoldable pub argument_behind_at : Reg → Reader Tok Argument
argument_behind_at r = do
  _ ← parameter_attributes_at
  v ← operand_at r
  done (record { reg = r; operand = v })

unfoldable pub argument_at : Reader Tok Argument
argument_at = do
  r ← reg_at
  argument_behind_at r

unfoldable pub further_argument_at : Reader Tok Argument
further_argument_at = do
  _ ← the_at kinds.Comma
  argument_at

-- those behind a first one
unfoldable pub arguments_behind_at : Argument → Reader Tok (List Argument)
arguments_behind_at first = do
  more ← star_at (among tokens COMMA) further_argument_at
  done (first ∷ more)

unfoldable pub some_arguments_at : Reader Tok (List Argument)
some_arguments_at = do
  first ← argument_at
  arguments_behind_at first

unfoldable pub any_arguments_at : Reader Tok (List Argument)
any_arguments_at = pick (among tokens REG)
    (do
      as' ← some_arguments_at
      _ ← the_at kinds.CloseParen
      done as')
    (do
      _ ← end_of_none_at
      done [])

abbrev pub type_again_at : Tok → Reader Tok Reg
type_again_at w = token_at (is_exact tokens type_refusal REG (is_type w) reg_of)

unfoldable pub argument_of_at : Tok → Reader Tok Argument
argument_of_at w = do
  r ← type_again_at w
  argument_behind_at r

unfoldable pub further_of_at : Tok → Reader Tok Argument
further_of_at w = do
  _ ← the_at kinds.Comma
  argument_of_at w

abbrev pub each_further_at : List Tok → Reader Tok (List Argument)
each_further_at [] = done []
each_further_at (w ∷ ws) = do
  a ← further_of_at w
  more ← each_further_at ws
  done (a ∷ more)

-- those behind a first one, of these types
unfoldable pub each_behind_at : List Tok → Argument → Reader Tok (List Argument)
each_behind_at ws first = do
  more ← each_further_at ws
  done (first ∷ more)

unfoldable pub some_of_at : Tok → List Tok → Reader Tok (List Argument)
some_of_at w ws = do
  first ← argument_of_at w
  each_behind_at ws first

abbrev pub arguments_of_at : List Tok → Reader Tok (List Argument)
arguments_of_at [] = do
  _ ← the_at kinds.CloseParen
  done []
arguments_of_at (w ∷ ws) = do
  as' ← some_of_at w ws
  _ ← the_at kinds.CloseParen
  done as'

abbrev pub arguments_at : Option (List Tok) → Reader Tok (List Argument)
arguments_at None = any_arguments_at
arguments_at (Some ws) = arguments_of_at ws

unfoldable pub called_value_at : Reader Tok (Option Operand)
called_value_at = do
  v ← operand_at Ptr
  done (Some v)

unfoldable pub marker_at : Reader Tok (Option Operand)
marker_at = do
  _ ← the_at kinds.LifetimeMarker
  done None

abbrev pub unmarked_at : Reader Tok Operand
unmarked_at = token_at (is_valued tokens marker_refusal (classes_of Ptr) (operand_of Ptr))

unfoldable pub unmarked_value_at : Reader Tok (Option Operand)
unmarked_value_at = do
  v ← pick (among tokens ADDRESS) address_at unmarked_at
  done (Some v)

abbrev pub callee_at : Bool → Option Reg → Reader Tok (Option Operand)
callee_at named (Some r) = called_value_at
callee_at true None = unmarked_value_at
callee_at false None = pick (among tokens MARKER) marker_at called_value_at

abbrev pub maybe_types_at : Reader Tok (Option (List Tok))
maybe_types_at = optional_at (among tokens PAREN) types_at

-- behind the arguments
abbrev pub called_at : Option Reg → Option Operand → List Argument → Reader Tok (Option Instr)
called_at r f as' = do
  _ ← call_attributes_at
  _ ← attachments_at
  done (called r f as')

-- behind the callee
abbrev pub calling_with_at : Option Reg → Option (List Tok) → Option Operand → Reader Tok (Option Instr)
calling_with_at r ws f = do
  _ ← the_at kinds.OpenParen
  as' ← arguments_at ws
  called_at r f as'

-- behind the result
abbrev pub calling_of_at : Bool → Option Reg → Reader Tok (Option Instr)
calling_of_at named r = do
  ws ← maybe_types_at
  f ← callee_at named r
  calling_with_at r ws f

unfoldable pub calling_at : Bool → Reader Tok (Option Instr)
calling_at named = do
  _ ← conventions_at
  r ← result_at
  calling_of_at named r

unfoldable pub tail_calling_at : Bool → Reader Tok (Option Instr)
tail_calling_at named = do
  _ ← the_at kinds.Call
  calling_at named
