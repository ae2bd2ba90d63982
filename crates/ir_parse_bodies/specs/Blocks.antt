-- Basic blocks, and definitions of functions (LangRef, "Functions"): how many more blocks and instructions there may be is
-- handed down, so that no reading goes on with the first token of the one too many.
use Rattle.std.specs.Prelude.{ℕ, ◌-◌, Bool, true, Option, Some, None, List, [], ◌∷◌, ◌++◌, length}
use Rattle.std.specs.List.{fold}
use Rattle.ir_lex.specs.declared.token_kind.TokenKind.TheVariants as kinds
use Rattle.ir_lex.specs.TokenKinds.{number}
use Rattle.ir_lex.specs.Tok.{Tok}
use Rattle.ir_parse_parts.specs.Chained.{Chain}
use Rattle.ir_parse_parts.specs.Forms.{Form, ◌>>=◌, either, gives, token, Many, Star}
use Rattle.ir_parse_parts.specs.Rules.{is_valued}
use Rattle.ir_parse_operands.specs.Addressing.{slots_fit, any_slots}
use Rattle.ir_parse_heads.specs.Attributes.{definition_attributes}
use Rattle.ir_parse_parts.specs.Classes.{tokens, refusal, the, one_of, itself}
use Rattle.ir_parse_heads.specs.declared.attributes.Kept.{Kept}
use Rattle.ir_parse_heads.specs.declared.function_heads.Role.TheVariants as roles
use Rattle.ir_parse_parts.specs.declared.raw.Block.{Block}
use Rattle.ir_parse_parts.specs.declared.raw.FunctionHeader.{FunctionHeader}
use Rattle.ir_parse_parts.specs.declared.raw.Item.{Item}
use Rattle.ir_parse_parts.specs.declared.raw.Item.TheVariants.{Definition}
use Rattle.ir_parse_parts.specs.declared.raw.WrittenLine.{WrittenLine}
use Rattle.ir_parse_operands.specs.declared.terminators.Ended.{Ended}
use Rattle.ir_parse_heads.specs.FunctionHeads.{head, any_head}
use Rattle.ir_parse_parts.specs.Operands.{LOCAL, local, named}
use Rattle.ir_parse_operands.specs.ShapeForms.{any_shape, memory_shape}
use Rattle.ir_parse_operands.specs.Terminators.{terminator}
use Rattle.ir_parse_bodies.specs.Lines.{line}
use Rattle.ir_parse_bodies.specs.Successive.{Successive}

-- ---- labels

abbrev pub LABEL : List ℕ
LABEL = number kinds.Label ∷ []

abbrev pub label : Form Tok Tok
label = token (is_valued tokens refusal LABEL named)

-- without the limit on numbers
abbrev pub any_label : Form Tok Tok
any_label = one_of LABEL itself

abbrev pub any_local : Form Tok Tok
any_local = one_of LOCAL itself

-- ---- blocks

abbrev pub keep : {A : Type 0} → List A → Option A → List A
keep front None = front
keep front (Some x) = front ++ x ∷ []

-- {[Local =] instr {att}}, so many at most: those that are kept, and how many more there may be behind them
unfoldable pub lines : ℕ → Form Tok (List WrittenLine × ℕ)
lines room = do
  ls ← Many (line local slots_fit memory_shape) room
  gives (fold keep [] ls, room - length ls)

abbrev pub block_of : Option Tok → List WrittenLine → Ended → Block
block_of name ls e = record { label = name; lines = ls; end = e.terminator; end_line = e.line }

-- {[Local =] instr {att}} term {att}, behind the label
unfoldable pub block_behind : ℕ → Option Tok → Form Tok (Block × ℕ)
block_behind room name = do
  ls ← lines room
  e ← terminator memory_shape
  gives (block_of name ls.0 e, ls.1)

-- [Label] {[Local =] instr {att}} term {att}
unfoldable pub block : ℕ → Form Tok (Block × ℕ)
block room = either
    (do
      l ← label
      block_behind room (Some l))
    (block_behind room None)

-- the same without limits
unfoldable pub any_lines : ℕ → Form Tok (List WrittenLine × ℕ)
any_lines room = do
  ls ← Star (line any_local any_slots any_shape)
  gives (fold keep [] ls, room - length ls)

unfoldable pub any_block_behind : ℕ → Option Tok → Form Tok (Block × ℕ)
any_block_behind room name = do
  ls ← any_lines room
  e ← terminator any_shape
  gives (block_of name ls.0 e, ls.1)

unfoldable pub any_block : ℕ → Form Tok (Block × ℕ)
any_block room = either
    (do
      l ← any_label
      any_block_behind room (Some l))
    (any_block_behind room None)

abbrev pub at_will : ℕ → Bool
at_will room = true

-- block {block}: so many blocks at most behind the first, and so many instructions in all of them
unfoldable pub blocks : ℕ → ℕ → Form Tok (List Block)
blocks further instructions = do
  first ← block instructions
  more ← Successive block further first.1
  gives (first.0 ∷ more)

unfoldable pub any_blocks : ℕ → Form Tok (List Block)
any_blocks instructions = do
  first ← any_block instructions
  more ← Chain at_will any_block first.1
  gives (first.0 ∷ more)

-- ---- definitions

-- a function has at most so many blocks behind the first
unfoldable pub FURTHER_BLOCKS : ℕ
FURTHER_BLOCKS = 65534

-- the blocks of a function have at most so many instructions, dropped ones too, but for the terminators
unfoldable pub INSTRUCTIONS : ℕ
INSTRUCTIONS = 200000

abbrev pub with_kept : FunctionHeader → Kept → FunctionHeader
with_kept h k = record { linkage = h.linkage; result = h.result; name = h.name; params = h.params; noinline = k.noinline; optnone = k.optnone; groups = k.groups }

-- define head { block {block} }; so many parameters at most behind the first
unfoldable pub definition : ℕ → Form Tok Item
definition room = do
  _ ← the kinds.Define
  h ← head roles.Definition room
  k ← definition_attributes
  _ ← the kinds.OpenBrace
  bs ← blocks FURTHER_BLOCKS INSTRUCTIONS
  _ ← the kinds.CloseBrace
  gives (Definition (with_kept h k) bs)

unfoldable pub any_definition : Form Tok Item
any_definition = do
  _ ← the kinds.Define
  h ← any_head roles.Definition
  k ← definition_attributes
  _ ← the kinds.OpenBrace
  bs ← any_blocks INSTRUCTIONS
  _ ← the kinds.CloseBrace
  gives (Definition (with_kept h k) bs)
