-- The readers of type definitions tell a token that is left out in some places where one that it stands for goes on.
use Rattle.std.proofs.Common.{[], refl}
use Rattle.std.specs.Prelude.{codes}
use Rattle.ir_lex.specs.Bytes.{has}
use Rattle.ir_lex.specs.TokenKinds.{kind_of, word_kind, listed_kind, words_4, words_6}
use Rattle.ir_lex.specs.Lexing.{is_bad}
use Rattle.ir_lex.specs.Quotes.{is_zero_name}
use Rattle.ir_lex.specs.Rows.{best_fit, rest_fit, label_len, number_len, word_len, name_len, meta_len, dots_len, other_len, string_len}
use Rattle.ir_lex.specs.declared.token_kind.TokenKind.TheVariants as kinds
use Rattle.ir_parse_parts.specs.Rules.{is_class}
use Rattle.ir_parse_parts.specs.Classes.{IsReal, the, the_at}
use Rattle.ir_parse_operands.specs.ShapeForms.{any_shape}
use Rattle.ir_parse_parts.proofs.Singles.{word, the_rule}
use Rattle.ir_parse_globals.specs.TypeDefinitions.{defined, type_line}
use Rattle.ir_parse_globals.specs.TypeDefinitionsAt.{OPAQUE, defined_at, type_line_at}
use Rattle.ir_parse.proofs.Exchanged.{Exchanges, alt, nothing, seq}
use Rattle.ir_parse.proofs.ExchangedOperands.{local_exchanged}
use Rattle.ir_parse.proofs.ExchangedShapes.{memory_shape_exchanged}
use Rattle.ir_parse.proofs.ExchangedTokens.{plain_class}
use Rattle.ir_parse.proofs.ExchangedWords.{equals_exchanged}

opaque_real : IsReal (word kinds.Opaque (codes "opaque"))
unfolding best_fit rest_fit label_len number_len word_len name_len meta_len dots_len other_len string_len has is_bad is_zero_name kind_of word_kind listed_kind words_6
opaque_real = record { behind = []; some = refl; fits = refl; good = refl; class = refl }

type_real : IsReal (word kinds.Type (codes "type"))
unfolding best_fit rest_fit label_len number_len word_len name_len meta_len dots_len other_len string_len has is_bad is_zero_name kind_of word_kind listed_kind words_4
type_real = record { behind = []; some = refl; fits = refl; good = refl; class = refl }

pub type_exchanged : Exchanges (the kinds.Type) (the_at kinds.Type)
unfolding is_class
type_exchanged = plain_class kinds.Type (the_rule kinds.Type (word kinds.Type (codes "type")) refl type_real) refl

pub opaque_exchanged : Exchanges (the kinds.Opaque) (the_at kinds.Opaque)
unfolding is_class
opaque_exchanged = plain_class kinds.Opaque (the_rule kinds.Opaque (word kinds.Opaque (codes "opaque")) refl opaque_real) refl

pub defined_exchanged : Exchanges (defined any_shape) defined_at
unfolding defined defined_at
defined_exchanged = alt OPAQUE refl (seq opaque_exchanged (λ _. nothing _)) (seq memory_shape_exchanged (λ _. nothing _))

pub type_line_exchanged : Exchanges (type_line any_shape) type_line_at
unfolding type_line type_line_at
type_line_exchanged = seq local_exchanged (λ name. seq equals_exchanged (λ _. seq type_exchanged (λ _. seq defined_exchanged (λ _. nothing _))))
