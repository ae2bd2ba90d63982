-- What the readers of `alloca` and `getelementptr` give.
use Rattle.std.specs.Prelude.{ℕ, max, Bool, true, false, ◌&&◌, not, if◌then◌else◌, Option, Some, None, Result, Err, List, []}
use Rattle.std.specs.List.{fold}
use Rattle.ir_lex.specs.declared.token_kind.TokenKind.TheVariants as kinds
use Rattle.ir_lex.specs.Tok.{Tok}
use Rattle.ir_tree.specs.declared.operand.Reg.TheVariants.{Ptr}
use Rattle.ir_parse_parts.specs.Alphabet.{among}
use Rattle.ir_parse_parts.specs.Chained.{chain_at}
use Rattle.ir_parse_parts.specs.declared.fault.TokenFault.{TokenFault}
use Rattle.ir_parse_parts.specs.declared.fault.TokenFault.TheVariants.{Limit}
use Rattle.ir_parse_parts.specs.Readers.{Reader, ◌>>=◌, done, pick, token_at}
use Rattle.ir_parse_parts.specs.Ahead.{ALIGNED}
use Rattle.ir_parse_parts.specs.Classes.{tokens, the_at}
use Rattle.ir_parse_operands.specs.declared.addressing.Slots.{Slots}
use Rattle.ir_parse_parts.specs.declared.raw.Argument.{Argument}
use Rattle.ir_parse_parts.specs.declared.raw.Instr.{Instr}
use Rattle.ir_parse_parts.specs.declared.raw.Instr.TheVariants as instrs
use Rattle.ir_parse_parts.specs.declared.raw.Operand.{Operand}
use Rattle.ir_parse_parts.specs.declared.shape.Typed.{Typed}
use Rattle.ir_parse_operands.specs.Addressing.{slots, slots_fit, is_count, keep}
use Rattle.ir_parse_operands.specs.AlignmentsAt.{aligned_at, align_at}
use Rattle.ir_parse_operands.specs.ValuesAt.{pointed_at, pointer_at, stepping_at, operand_at, argument_at}
use Rattle.ir_parse_parts.specs.Metadata.{META}
use Rattle.ir_parse_parts.specs.MetadataAt.{COMMA, attached_at}
use Rattle.ir_parse_parts.specs.OperandsAt.{integer_at}
use Rattle.ir_parse_operands.specs.Adding.{anywhere}
use Rattle.ir_parse_operands.specs.ShapeForms.{NUMBER, count_of}
use Rattle.ir_parse_operands.specs.ShapeFormsAt.{memory_shape_at}

abbrev pub passes : (ℕ → Bool) → Option ℕ → Bool
passes fits None = false
passes fits (Some n) = not (fits n)

-- a literal that passes a limit
abbrev pub too_many : (ℕ → Bool) → ℕ → Tok → Bool
too_many fits w t = among tokens NUMBER t && passes fits (count_of (max 1 w) t)

unfoldable pub count_means : (ℕ → Bool) → ℕ → Tok → Result ℕ TokenFault
count_means fits w t = if too_many fits w t then Err Limit else is_count fits w t

abbrev pub count_in_at : (ℕ → Bool) → ℕ → Reader Tok ℕ
count_in_at fits w = token_at (count_means fits w)

unfoldable pub many_slots_at : (ℕ → Bool) → Reader Tok Slots
many_slots_at fits = do
  w ← integer_at
  n ← count_in_at fits w
  a ← align_at
  done (slots n a)

unfoldable pub one_slot_at : Reader Tok Slots
one_slot_at = do
  a ← aligned_at
  done (slots 1 a)

-- behind the comma
abbrev pub slots_at : (ℕ → Bool) → Reader Tok Slots
slots_at fits = pick (among tokens ALIGNED) one_slot_at (many_slots_at fits)

unfoldable pub slots_behind_at : (ℕ → Bool) → Reader Tok Slots
slots_behind_at fits = pick (among tokens COMMA)
    (do
      _ ← the_at kinds.Comma
      slots_at fits)
    (done (slots 1 None))

unfoldable pub reserving_at : Reader Tok Instr
reserving_at = do
  typed ← memory_shape_at
  s ← slots_behind_at (slots_fit typed.shape)
  done (instrs.Alloca typed s.count s.align)

unfoldable pub indexing_at : Reader Tok (Option Argument × Bool)
indexing_at = do
  a ← argument_at
  done (Some a, false)

unfoldable pub attaching_at : Reader Tok (Option Argument × Bool)
attaching_at = do
  _ ← attached_at
  done (None, true)

abbrev pub behind_comma_at : Bool → Reader Tok (Option Argument × Bool)
behind_comma_at true = attaching_at
behind_comma_at false = pick (among tokens META) attaching_at indexing_at

unfoldable pub further_at : Bool → Reader Tok (Option Argument × Bool)
further_at s = do
  _ ← the_at kinds.Comma
  behind_comma_at s

abbrev pub begins : Bool → Tok → Bool
begins s = among tokens COMMA

unfoldable pub indices_at : Reader Tok (List Argument)
indices_at = do
  all ← chain_at anywhere begins further_at false
  done (fold keep [] all)

-- behind the address that is stepped from
abbrev pub stepped_at : Bool → Typed → Operand → Reader Tok Instr
stepped_at inbounds typed base = do
  is ← indices_at
  done (instrs.Address inbounds typed base is)

-- behind the shape
abbrev pub stepping_by_at : Bool → Typed → Reader Tok Instr
stepping_by_at inbounds typed = do
  _ ← the_at kinds.Comma
  _ ← pointer_at
  base ← operand_at Ptr
  stepped_at inbounds typed base

-- , ptr operand, and the indices
unfoldable pub steps_at : Reader Tok (Operand × List Argument)
steps_at = do
  base ← pointed_at
  is ← indices_at
  done (base, is)

unfoldable pub addressing_at : Reader Tok Instr
addressing_at = do
  inbounds ← stepping_at
  typed ← memory_shape_at
  stepping_by_at inbounds typed
