-- Tokens that write types of memory.
use Rattle.std.specs.Prelude.{◌≡◌}
use Rattle.ir_lex.specs.TokenKinds.{number}
use Rattle.ir_lex.specs.Tok.{Tok}
use Rattle.ir_lex.specs.declared.token_kind.TokenKind.TheVariants as kinds
use Rattle.ir_parse_parts.specs.Operands.{width}
use Rattle.ir_tree.specs.Formed.{IsStored}

-- one of the class of integers in memory writes i8, i16, i32 or i64
pub record IsSized (t : Tok) : Type 0 where
  pub stored : number t.kind ≡ number kinds.MemoryInteger → IsStored (width t)
