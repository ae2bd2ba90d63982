-- What the readers of instructions give.
use Rattle.std.specs.Prelude.{false}
use Rattle.std.specs.List.{fold}
use Rattle.ir_lex.specs.declared.token_kind.TokenKind.TheVariants as kinds
use Rattle.ir_lex.specs.Tok.{Tok}
use Rattle.ir_tree.specs.declared.instr.BinaryOp.{BinaryOp}
use Rattle.ir_tree.specs.declared.instr.BinaryOp.TheVariants as ops
use Rattle.ir_tree.specs.declared.instr.CastOp.{CastOp}
use Rattle.ir_tree.specs.declared.instr.Flags.{Flags}
use Rattle.ir_tree.specs.declared.operand.Reg.{Reg}
use Rattle.ir_tree.specs.declared.operand.Reg.TheVariants.{Int, Ptr}
use Rattle.ir_parse_parts.specs.Alphabet.{among}
use Rattle.ir_parse_parts.specs.Readers.{Reader, ◌>>=◌, done, star_at}
use Rattle.ir_parse_parts.specs.Ahead.{WRAPS}
use Rattle.ir_parse_parts.specs.Classes.{tokens, the_at, one_of_at}
use Rattle.ir_parse_parts.specs.declared.raw.Argument.{Argument}
use Rattle.ir_parse_parts.specs.declared.raw.Instr.{Instr}
use Rattle.ir_parse_parts.specs.declared.raw.Instr.TheVariants as instrs
use Rattle.ir_parse_parts.specs.declared.raw.Operand.{Operand}
use Rattle.ir_parse_bodies.specs.Instructions.{is_nuw, flags, with_wrap, no_flags, PREDICATES, predicate_of}
use Rattle.ir_parse_parts.specs.OperandsAt.{reg_at, integer_at, bit_at, scalar_at, maybe_at}
use Rattle.ir_parse_operands.specs.AlignmentsAt.{align_at}
use Rattle.ir_parse_operands.specs.ValuesAt.{pointer_at, operand_at, argument_at}

unfoldable pub wraps_at : Reader Tok Flags
wraps_at = do
  fs ← star_at (among tokens WRAPS) (one_of_at WRAPS is_nuw)
  done (fold with_wrap no_flags fs)

-- , operand
unfoldable pub second_at : Reg → Reader Tok Operand
second_at r = do
  _ ← the_at kinds.Comma
  operand_at r

unfoldable pub on_two_at : BinaryOp → Flags → Reader Tok Instr
on_two_at op f = do
  w ← integer_at
  left ← operand_at (Int w)
  _ ← the_at kinds.Comma
  right ← operand_at (Int w)
  done (instrs.Binary op f w left right)

unfoldable pub wrapping_at : BinaryOp → Reader Tok Instr
wrapping_at op = do
  f ← wraps_at
  on_two_at op f

unfoldable pub dividing_at : BinaryOp → Reader Tok Instr
dividing_at op = do
  exact ← maybe_at kinds.Exact
  on_two_at op (flags false false exact)

unfoldable pub joining_at : Reader Tok Instr
joining_at = do
  _ ← maybe_at kinds.Disjoint
  on_two_at ops.Or no_flags

unfoldable pub comparing_at : Reader Tok Instr
comparing_at = do
  _ ← maybe_at kinds.Samesign
  p ← one_of_at PREDICATES predicate_of
  r ← reg_at
  left ← operand_at r
  _ ← the_at kinds.Comma
  right ← operand_at r
  done (instrs.Icmp p r left right)

unfoldable pub casting_at : CastOp → Reader Tok Instr
casting_at op = do
  from ← reg_at
  value ← operand_at from
  _ ← the_at kinds.To
  to ← reg_at
  done (instrs.Cast op from value to)

unfoldable pub extending_at : CastOp → Reader Tok Instr
extending_at op = do
  _ ← maybe_at kinds.Nneg
  casting_at op

unfoldable pub narrowing_at : CastOp → Reader Tok Instr
narrowing_at op = do
  _ ← wraps_at
  casting_at op

-- , reg operand
unfoldable pub arm_at : Reader Tok Argument
arm_at = do
  _ ← the_at kinds.Comma
  argument_at

-- behind the condition and the first arm
abbrev pub other_at : Operand → Argument → Reader Tok Instr
other_at condition one = do
  _ ← the_at kinds.Comma
  other ← argument_at
  done (instrs.Select condition one other)

-- behind the condition
abbrev pub arms_at : Operand → Reader Tok Instr
arms_at condition = do
  _ ← the_at kinds.Comma
  one ← argument_at
  other_at condition one

unfoldable pub selecting_at : Reader Tok Instr
selecting_at = do
  w ← bit_at
  condition ← operand_at (Int w)
  arms_at condition

unfoldable pub freezing_at : Reader Tok Instr
freezing_at = do
  r ← reg_at
  value ← operand_at r
  done (instrs.Freeze r value)

unfoldable pub loading_at : Reader Tok Instr
loading_at = do
  r ← scalar_at
  _ ← the_at kinds.Comma
  _ ← pointer_at
  address ← operand_at Ptr
  n ← align_at
  done (instrs.Load r address n)

-- behind the address
abbrev pub stored_at : Reg → Operand → Operand → Reader Tok Instr
stored_at r value address = do
  n ← align_at
  done (instrs.Store r value address n)

-- behind the value
abbrev pub storing_to_at : Reg → Operand → Reader Tok Instr
storing_to_at r value = do
  _ ← the_at kinds.Comma
  _ ← pointer_at
  address ← operand_at Ptr
  stored_at r value address

unfoldable pub storing_at : Reader Tok Instr
storing_at = do
  r ← scalar_at
  value ← operand_at r
  storing_to_at r value
