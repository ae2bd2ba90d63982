-- What the readers of types, names and operands give.
use Rattle.std.specs.Prelude.{ℕ, Bool, true, false, Option, List, [], ◌∷◌}
use Rattle.ir_lex.specs.declared.token_kind.TokenKind.{TokenKind}
use Rattle.ir_lex.specs.TokenKinds.{number}
use Rattle.ir_lex.specs.Tok.{Tok}
use Rattle.ir_tree.specs.declared.operand.Reg.{Reg}
use Rattle.ir_parse_parts.specs.Alphabet.{among}
use Rattle.ir_parse_parts.specs.Readers.{Reader, ◌>>=◌, done, pick, token_at}
use Rattle.ir_parse_parts.specs.Rules.{is_among, is_exact, is_valued}
use Rattle.ir_parse_parts.specs.Classes.{tokens, refusal, the_at}
use Rattle.ir_parse_parts.specs.declared.raw.Operand.{Operand}
use Rattle.ir_parse_parts.specs.Operands.{INTEGER, REG, SCALAR, RESULT, LOCAL, type_refusal, memory_refusal, width, reg_of, is_bit, result_of, named, classes_of, operand_of}

abbrev pub reg_at : Reader Tok Reg
reg_at = token_at (is_among tokens type_refusal REG reg_of)

abbrev pub integer_at : Reader Tok ℕ
integer_at = token_at (is_among tokens type_refusal INTEGER width)

abbrev pub bit_at : Reader Tok ℕ
bit_at = token_at (is_exact tokens type_refusal INTEGER is_bit width)

abbrev pub scalar_at : Reader Tok Reg
scalar_at = token_at (is_among tokens memory_refusal SCALAR reg_of)

abbrev pub result_at : Reader Tok (Option Reg)
result_at = token_at (is_among tokens type_refusal RESULT result_of)

abbrev pub local_at : Reader Tok Tok
local_at = token_at (is_valued tokens refusal LOCAL named)

abbrev pub simple_at : Reg → Reader Tok Operand
simple_at r = token_at (is_valued tokens refusal (classes_of r) (operand_of r))

abbrev pub maybe_at : TokenKind → Reader Tok Bool
maybe_at word = pick (among tokens (number word ∷ []))
    (do
      _ ← the_at word
      done true)
    (done false)
