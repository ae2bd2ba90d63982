-- What the readers of constants give.
use Rattle.std.specs.Prelude.{Option}
use Rattle.ir_lex.specs.Tok.{Tok}
use Rattle.ir_tree.specs.declared.operand.Reg.{Reg}
use Rattle.ir_parse_parts.specs.Alphabet.{among}
use Rattle.ir_parse_parts.specs.Readers.{Reader, ◌>>=◌, done, pick, token_at}
use Rattle.ir_parse_parts.specs.Rules.{is_valued}
use Rattle.ir_parse_parts.specs.Classes.{tokens, refusal}
use Rattle.ir_parse_parts.specs.declared.raw.InitHead.{InitHead}
use Rattle.ir_parse_operands.specs.ValuesAt.{ADDRESS, address_at}
use Rattle.ir_parse_globals.specs.Constants.{CONSTANTS, plain, constant_of}

abbrev pub single_at : Option Reg → Reader Tok InitHead
single_at scalar = token_at (is_valued tokens refusal CONSTANTS (constant_of scalar))

unfoldable pub constant_at : Option Reg → Reader Tok InitHead
constant_at scalar = pick (among tokens ADDRESS)
    (do
      v ← address_at
      done (plain v))
    (single_at scalar)
