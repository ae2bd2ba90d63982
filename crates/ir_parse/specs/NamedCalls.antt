-- What stands before the callee of a void call that has a name, without the limits (LangRef, "'call' Instruction"): each form goes from
-- some part of a module up to that callee.
use Rattle.std.specs.Prelude.{ℕ}
use Rattle.ir_lex.specs.Tok.{Tok}
use Rattle.ir_lex.specs.declared.token_kind.TokenKind.TheVariants as kinds
use Rattle.ir_parse_parts.specs.Chained.{Chain}
use Rattle.ir_parse_parts.specs.Forms.{Form, ◌>>=◌, gives, optional, Star}
use Rattle.ir_parse_operands.specs.Addressing.{any_slots}
use Rattle.ir_parse_heads.specs.Attributes.{definition_attributes}
use Rattle.ir_parse_parts.specs.Classes.{the}
use Rattle.ir_parse_heads.specs.FunctionHeads.{any_head}
use Rattle.ir_parse_operands.specs.ShapeForms.{any_shape}
use Rattle.ir_parse_heads.specs.declared.function_heads.Role.TheVariants as roles
use Rattle.ir_parse_bodies.specs.Blocks.{INSTRUCTIONS, any_block, any_label, any_local, at_will}
use Rattle.ir_parse_bodies.specs.Calls.{conventions, types}
use Rattle.ir_parse_bodies.specs.Lines.{line}
use Rattle.ir_parse.specs.ItemForms.{any_items}
use Rattle.ir_parse.specs.Modules.{GLOBAL_NAMES}

-- {fastcc / ccc / pattr} void [( [reg {, reg}] )]
unfoldable pub before_callee : Form Tok (Unit {0})
before_callee = do
  _ ← conventions
  _ ← the kinds.Void
  _ ← optional types
  gives tt

-- Local = [tail] call
unfoldable pub before_named_callee : Form Tok (Unit {0})
before_named_callee = do
  _ ← any_local
  _ ← the kinds.Equals
  _ ← optional (the kinds.TailMark)
  _ ← the kinds.Call
  before_callee

-- {[Local =] instr {att}}
unfoldable pub in_lines : Form Tok (Unit {0})
in_lines = do
  _ ← Star (line any_local any_slots any_shape)
  before_named_callee

-- [Label]
unfoldable pub in_block : Form Tok (Unit {0})
in_block = do
  _ ← optional any_label
  in_lines

-- {block}
unfoldable pub in_blocks : ℕ → Form Tok (Unit {0})
in_blocks room = do
  _ ← Chain at_will any_block room
  in_block

-- define head {
unfoldable pub in_definition : Form Tok (Unit {0})
in_definition = do
  _ ← the kinds.Define
  _ ← any_head roles.Definition
  _ ← definition_attributes
  _ ← the kinds.OpenBrace
  in_blocks INSTRUCTIONS

-- {item}
unfoldable pub in_module : Form Tok (Unit {0})
in_module = do
  _ ← any_items GLOBAL_NAMES
  in_definition
