-- What the readers of operands give.
use Rattle.std.specs.Prelude.{ℕ, Bool, false, List, [], ◌∷◌, reverse}
use Rattle.std.specs.List.{fold}
use Rattle.ir_lex.specs.declared.token_kind.TokenKind.TheVariants as kinds
use Rattle.ir_lex.specs.TokenKinds.{number}
use Rattle.ir_lex.specs.Tok.{Tok}
use Rattle.ir_tree.specs.declared.operand.Reg.{Reg}
use Rattle.ir_tree.specs.declared.operand.Reg.TheVariants.{Ptr}
use Rattle.ir_parse_parts.specs.Alphabet.{among}
use Rattle.ir_parse_parts.specs.Readers.{Reader, ◌>>=◌, done, pick, token_at, star_at}
use Rattle.ir_parse_parts.specs.Rules.{is_class, is_valued}
use Rattle.ir_parse_parts.specs.Ahead.{STEPPING}
use Rattle.ir_parse_parts.specs.Classes.{tokens, refusal, the_at, one_of_at}
use Rattle.ir_parse_parts.specs.declared.address.Index.{Index}
use Rattle.ir_parse_parts.specs.declared.address.Level.{Level}
use Rattle.ir_parse_parts.specs.declared.raw.Argument.{Argument}
use Rattle.ir_parse_parts.specs.declared.raw.Operand.{Operand}
use Rattle.ir_parse_parts.specs.declared.raw.Operand.TheVariants as operands
use Rattle.ir_parse_parts.specs.declared.shape.Typed.{Typed}
use Rattle.ir_parse_parts.specs.MetadataAt.{COMMA}
use Rattle.ir_parse_parts.specs.Operands.{type_refusal, global_named}
use Rattle.ir_parse_parts.specs.OperandsAt.{reg_at, integer_at, simple_at}
use Rattle.ir_parse_operands.specs.ShapeFormsAt.{memory_shape_at}
use Rattle.ir_parse_operands.specs.Values.{is_inbounds, or_inbounds, NUMBER, index_of, GLOBAL, level, steps}

abbrev pub ADDRESS : List ℕ
ADDRESS = number kinds.GetElementPtr ∷ []

abbrev pub pointer_at : Reader Tok (Unit {0})
pointer_at = token_at (is_class tokens type_refusal (number kinds.Ptr))

unfoldable pub stepping_at : Reader Tok Bool
stepping_at = do
  flags ← star_at (among tokens STEPPING) (one_of_at STEPPING is_inbounds)
  done (fold or_inbounds false flags)

abbrev pub index_number_at : ℕ → Reader Tok Index
index_number_at w = token_at (is_valued tokens refusal NUMBER (index_of w))

unfoldable pub index_at : Reader Tok Index
index_at = do
  _ ← the_at kinds.Comma
  w ← integer_at
  index_number_at w

abbrev pub indices_at : Reader Tok (List Index)
indices_at = star_at (among tokens COMMA) index_at

unfoldable pub closing_one_at : Typed → Reader Tok Level
closing_one_at typed = do
  indices ← indices_at
  _ ← the_at kinds.CloseParen
  done (level typed indices)

abbrev pub closing_at : List Typed → Reader Tok (List Level)
closing_at [] = done []
closing_at (typed ∷ outer) = do
  one ← closing_one_at typed
  more ← closing_at outer
  done (one ∷ more)

unfoldable pub opened_at : Reader Tok Typed
opened_at = do
  _ ← stepping_at
  _ ← the_at kinds.OpenParen
  typed ← memory_shape_at
  _ ← the_at kinds.Comma
  _ ← pointer_at
  done typed

unfoldable pub opening_at : Reader Tok Typed
opening_at = do
  _ ← the_at kinds.GetElementPtr
  opened_at

abbrev pub openings_at : Reader Tok (List Typed)
openings_at = star_at (among tokens ADDRESS) opening_at

-- the first, and those in it
abbrev pub all_openings_at : Reader Tok (List Typed)
all_openings_at = do
  first ← opening_at
  inner ← openings_at
  done (first ∷ inner)

abbrev pub global_at : Reader Tok Tok
global_at = token_at (is_valued tokens refusal GLOBAL global_named)

unfoldable pub reached_at : List Typed → Reader Tok Operand
reached_at outer = do
  name ← global_at
  levels ← closing_at (reverse outer)
  done (operands.Address (steps name levels))

unfoldable pub address_behind_at : Typed → Reader Tok Operand
address_behind_at first = do
  inner ← openings_at
  reached_at (first ∷ inner)

unfoldable pub address_at : Reader Tok Operand
address_at = do
  first ← opening_at
  address_behind_at first

unfoldable pub operand_at : Reg → Reader Tok Operand
operand_at r = pick (among tokens ADDRESS) address_at (simple_at r)

unfoldable pub argument_at : Reader Tok Argument
argument_at = do
  r ← reg_at
  v ← operand_at r
  done (record { reg = r; operand = v })

-- , ptr operand
unfoldable pub pointed_at : Reader Tok Operand
pointed_at = do
  _ ← the_at kinds.Comma
  _ ← pointer_at
  operand_at Ptr
