-- Instructions, dispatched by their first word, and lines: instructions with the names of their results (LangRef,
-- "Instruction Reference").
use Rattle.std.specs.Prelude.{ℕ, Bool, true, false, Option, Some, None, List, [], ◌∷◌}
use Rattle.ir_lex.specs.declared.token_kind.TokenKind.{TokenKind}
use Rattle.ir_lex.specs.declared.token_kind.TokenKind.TheVariants as kinds
use Rattle.ir_lex.specs.TokenKinds.{number}
use Rattle.ir_lex.specs.Tok.{Tok}
use Rattle.ir_tree.specs.declared.instr.BinaryOp.TheVariants as ops
use Rattle.ir_tree.specs.declared.instr.CastOp.TheVariants as casts
use Rattle.ir_parse_parts.specs.Forms.{Form, ◌>>=◌, either, gives}
use Rattle.ir_parse_operands.specs.Addressing.{reserving, addressing}
use Rattle.ir_parse_parts.specs.Shapes.{Written}
use Rattle.ir_parse_parts.specs.Classes.{the, one_of}
use Rattle.ir_parse_parts.specs.declared.raw.Instr.{Instr}
use Rattle.ir_parse_parts.specs.declared.raw.WrittenLine.{WrittenLine}
use Rattle.ir_parse_parts.specs.declared.shape.Typed.{Typed}
use Rattle.ir_parse_bodies.specs.Instructions.{no_flags, on_two, wrapping, dividing, joining, comparing, casting, extending, narrowing, selecting, freezing, loading, storing}
use Rattle.ir_parse_parts.specs.Metadata.{attachments}
use Rattle.ir_parse_bodies.specs.Phis.{phi}
use Rattle.ir_parse_bodies.specs.Calls.{calling, tail_calling}
use Rattle.ir_parse_bodies.specs.declared.opcodes.Begun.{Begun}
use Rattle.ir_parse_bodies.specs.declared.opcodes.Opcode.{Opcode}
use Rattle.ir_parse_bodies.specs.declared.opcodes.Opcode.TheVariants as opcodes
use Rattle.ir_parse_bodies.specs.declared.opcodes.Operation.{Operation}
use Rattle.ir_parse_bodies.specs.declared.opcodes.Operation.TheVariants as operations

-- ---- first words

-- of instructions that may give a result
abbrev pub GIVING : List ℕ
GIVING =
    number kinds.Add ∷ number kinds.Sub ∷ number kinds.Mul ∷ number kinds.Shl
    ∷ number kinds.Udiv ∷ number kinds.Sdiv ∷ number kinds.Lshr ∷ number kinds.Ashr
    ∷ number kinds.Urem ∷ number kinds.Srem ∷ number kinds.And ∷ number kinds.Xor ∷ number kinds.Or
    ∷ number kinds.Icmp ∷ number kinds.Zext ∷ number kinds.Sext ∷ number kinds.Trunc ∷ number kinds.Select ∷ number kinds.Freeze
    ∷ number kinds.Phi ∷ number kinds.Alloca ∷ number kinds.Load ∷ number kinds.GetElementPtr
    ∷ number kinds.TailMark ∷ number kinds.Call ∷ []

-- of all instructions
abbrev pub OPCODES : List ℕ
OPCODES = number kinds.Store ∷ GIVING

abbrev pub value_of : Operation → Opcode
value_of o = opcodes.Value o

abbrev pub opcode_by : TokenKind → Opcode
opcode_by kinds.Add = value_of (operations.Wrapping ops.Add)
opcode_by kinds.Sub = value_of (operations.Wrapping ops.Sub)
opcode_by kinds.Mul = value_of (operations.Wrapping ops.Mul)
opcode_by kinds.Shl = value_of (operations.Wrapping ops.Shl)
opcode_by kinds.Udiv = value_of (operations.Dividing ops.Udiv)
opcode_by kinds.Sdiv = value_of (operations.Dividing ops.Sdiv)
opcode_by kinds.Lshr = value_of (operations.Dividing ops.Lshr)
opcode_by kinds.Ashr = value_of (operations.Dividing ops.Ashr)
opcode_by kinds.Urem = value_of (operations.Plain ops.Urem)
opcode_by kinds.Srem = value_of (operations.Plain ops.Srem)
opcode_by kinds.And = value_of (operations.Plain ops.And)
opcode_by kinds.Xor = value_of (operations.Plain ops.Xor)
opcode_by kinds.Or = value_of operations.Or
opcode_by kinds.Icmp = value_of operations.Icmp
opcode_by kinds.Zext = value_of operations.Zext
opcode_by kinds.Sext = value_of operations.Sext
opcode_by kinds.Trunc = value_of operations.Trunc
opcode_by kinds.Select = value_of operations.Select
opcode_by kinds.Freeze = value_of operations.Freeze
opcode_by kinds.Phi = opcodes.Phi
opcode_by kinds.Alloca = opcodes.Alloca
opcode_by kinds.Load = opcodes.Load
opcode_by kinds.GetElementPtr = opcodes.GetElementPtr
opcode_by kinds.Store = opcodes.Store
opcode_by kinds.TailMark = opcodes.Tail
opcode_by h = opcodes.Call

abbrev pub opcode_of : Tok → Opcode
opcode_of t = opcode_by t.kind

abbrev pub begun_of : Tok → Begun
begun_of t = record { opcode = opcode_by t.kind; line = t.line }

-- ---- what follows them

-- of an operation on values, but for its attachments
abbrev pub operation : Form Tok Typed → Operation → Form Tok Instr
operation shape (operations.Wrapping op) = wrapping shape op
operation shape (operations.Dividing op) = dividing shape op
operation shape (operations.Plain op) = on_two shape op no_flags
operation shape operations.Or = joining shape
operation shape operations.Icmp = comparing shape
operation shape operations.Zext = extending shape casts.Zext
operation shape operations.Sext = casting shape casts.Sext
operation shape operations.Trunc = narrowing shape casts.Trunc
operation shape operations.Select = selecting shape
operation shape operations.Freeze = freezing shape

-- g {att}
unfoldable pub attended : Form Tok Instr → Form Tok (Option Instr)
attended g = do
  i ← g
  _ ← attachments
  gives (Some i)

unfoldable pub kept : Form Tok Instr → Form Tok (Option Instr)
kept g = do
  i ← g
  gives (Some i)

-- of an instruction, with its attachments, with a name before it or not; nothing where it is dropped. It is said over which counts of
-- a shape fit
abbrev pub behind : (Written → ℕ → Bool) → Form Tok Typed → Bool → Opcode → Form Tok (Option Instr)
behind fits shape named (opcodes.Value o) = attended (operation shape o)
behind fits shape named opcodes.Phi = kept (phi shape)
behind fits shape named opcodes.Alloca = kept (reserving fits shape)
behind fits shape named opcodes.Load = kept (loading shape)
behind fits shape named opcodes.GetElementPtr = kept (addressing shape)
behind fits shape named opcodes.Store = kept (storing shape)
behind fits shape named opcodes.Tail = tail_calling shape named
behind fits shape named opcodes.Call = calling shape named

-- ---- lines

abbrev pub lined : Option Tok → ℕ → Option Instr → Option WrittenLine
lined name line None = None
lined name line (Some i) = Some (record { name = name; instr = i; line = line })

-- = instr {att}, behind a name: an instruction that may give a result
unfoldable pub line_behind : (Written → ℕ → Bool) → Form Tok Typed → Tok → Form Tok (Option WrittenLine)
line_behind fits shape name = do
  _ ← the kinds.Equals
  o ← one_of GIVING opcode_of
  i ← behind fits shape true o
  gives (lined (Some name) name.line i)

-- Local = instr {att}, over what spells the name
unfoldable pub named_line : Form Tok Tok → (Written → ℕ → Bool) → Form Tok Typed → Form Tok (Option WrittenLine)
named_line name fits shape = do
  n ← name
  line_behind fits shape n

-- instr {att}
unfoldable pub plain_line : (Written → ℕ → Bool) → Form Tok Typed → Form Tok (Option WrittenLine)
plain_line fits shape = do
  b ← one_of OPCODES begun_of
  i ← behind fits shape false b.opcode
  gives (lined None b.line i)

-- [Local =] instr {att}
unfoldable pub line : Form Tok Tok → (Written → ℕ → Bool) → Form Tok Typed → Form Tok (Option WrittenLine)
line name fits shape = either (named_line name fits shape) (plain_line fits shape)
