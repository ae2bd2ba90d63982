use Rattle.std.proofs.Common.{sym}
use Rattle.ir_lex.specs.declared.token_kind.TokenKind.TheVariants as kinds
use Rattle.ir_parse_heads.specs.Attributes.{OTHER_WORDS}
use Rattle.ir_parse_parts.proofs.Heads.{is_in}
use Rattle.ir_parse_heads.proofs.attributes.is_attribute_word.Goals as goal

pub returns-in-Word : goal.returns-in-Word
returns-in-Word c = sym (is_in kinds.Word OTHER_WORDS c.args.head c.in-Word.is)
