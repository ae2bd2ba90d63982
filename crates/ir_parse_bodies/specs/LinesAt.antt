-- What the readers of instructions and lines give.
use Rattle.std.specs.Prelude.{ℕ, Bool, true, false, Option, Some, None, List, ◌∷◌}
use Rattle.ir_lex.specs.declared.token_kind.TokenKind.TheVariants as kinds
use Rattle.ir_lex.specs.TokenKinds.{number}
use Rattle.ir_lex.specs.Tok.{Tok}
use Rattle.ir_tree.specs.declared.instr.CastOp.TheVariants as casts
use Rattle.ir_parse_parts.specs.Alphabet.{among}
use Rattle.ir_parse_parts.specs.Readers.{Reader, ◌>>=◌, done, pick}
use Rattle.ir_parse_operands.specs.AddressingAt.{reserving_at, addressing_at}
use Rattle.ir_parse_parts.specs.Classes.{tokens, the_at, one_of_at}
use Rattle.ir_parse_parts.specs.declared.raw.Instr.{Instr}
use Rattle.ir_parse_parts.specs.declared.raw.WrittenLine.{WrittenLine}
use Rattle.ir_parse_bodies.specs.Instructions.{no_flags}
use Rattle.ir_parse_bodies.specs.InstructionsAt.{on_two_at, wrapping_at, dividing_at, joining_at, comparing_at, casting_at, extending_at, narrowing_at, selecting_at, freezing_at, loading_at, storing_at}
use Rattle.ir_parse_parts.specs.MetadataAt.{attachments_at}
use Rattle.ir_parse_parts.specs.Operands.{LOCAL}
use Rattle.ir_parse_parts.specs.OperandsAt.{local_at}
use Rattle.ir_parse_bodies.specs.PhisAt.{phi_at}
use Rattle.ir_parse_bodies.specs.CallsAt.{calling_at, tail_calling_at}
use Rattle.ir_parse_bodies.specs.Lines.{GIVING, OPCODES, opcode_of, begun_of, lined}
use Rattle.ir_parse_bodies.specs.declared.opcodes.Opcode.{Opcode}
use Rattle.ir_parse_bodies.specs.declared.opcodes.Opcode.TheVariants as opcodes
use Rattle.ir_parse_bodies.specs.declared.opcodes.Operation.{Operation}
use Rattle.ir_parse_bodies.specs.declared.opcodes.Operation.TheVariants as operations

-- what a line begins with
abbrev pub LINE : List ℕ
LINE = number kinds.Local ∷ OPCODES

abbrev pub operation_at : Operation → Reader Tok Instr
operation_at (operations.Wrapping op) = wrapping_at op
operation_at (operations.Dividing op) = dividing_at op
operation_at (operations.Plain op) = on_two_at op no_flags
operation_at operations.Or = joining_at
operation_at operations.Icmp = comparing_at
operation_at operations.Zext = extending_at casts.Zext
operation_at operations.Sext = casting_at casts.Sext
operation_at operations.Trunc = narrowing_at casts.Trunc
operation_at operations.Select = selecting_at
operation_at operations.Freeze = freezing_at

unfoldable pub attended_at : Reader Tok Instr → Reader Tok (Option Instr)
attended_at f = do
  i ← f
  _ ← attachments_at
  done (Some i)

unfoldable pub some_at : Reader Tok Instr → Reader Tok (Option Instr)
some_at f = do
  i ← f
  done (Some i)

abbrev pub behind_at : Bool → Opcode → Reader Tok (Option Instr)
behind_at named (opcodes.Value o) = attended_at (operation_at o)
behind_at named opcodes.Phi = some_at phi_at
behind_at named opcodes.Alloca = some_at reserving_at
behind_at named opcodes.Load = some_at loading_at
behind_at named opcodes.GetElementPtr = some_at addressing_at
behind_at named opcodes.Store = some_at storing_at
behind_at named opcodes.Tail = tail_calling_at named
behind_at named opcodes.Call = calling_at named

unfoldable pub line_behind_at : Tok → Reader Tok (Option WrittenLine)
line_behind_at name = do
  _ ← the_at kinds.Equals
  o ← one_of_at GIVING opcode_of
  i ← behind_at true o
  done (lined (Some name) name.line i)

unfoldable pub named_line_at : Reader Tok (Option WrittenLine)
named_line_at = do
  n ← local_at
  line_behind_at n

unfoldable pub plain_line_at : Reader Tok (Option WrittenLine)
plain_line_at = do
  b ← one_of_at OPCODES begun_of
  i ← behind_at false b.opcode
  done (lined None b.line i)

unfoldable pub line_at : Reader Tok (Option WrittenLine)
line_at = pick (among tokens LOCAL) named_line_at plain_line_at
