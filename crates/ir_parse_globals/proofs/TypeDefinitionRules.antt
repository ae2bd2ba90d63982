-- The readers of type definitions read them.
use Rattle.std.proofs.Common.{false, [], ◌∷◌, refl}
use Rattle.std.specs.Prelude.{codes}
use Rattle.ir_lex.specs.Bytes.{has}
use Rattle.ir_lex.specs.declared.token_kind.TokenKind.TheVariants as kinds
use Rattle.ir_lex.specs.TokenKinds.{number, kind_of, word_kind, listed_kind, words_4, words_6}
use Rattle.ir_lex.specs.Lexing.{is_bad}
use Rattle.ir_lex.specs.Quotes.{is_zero_name}
use Rattle.ir_lex.specs.Rows.{best_fit, rest_fit, label_len, number_len, word_len, name_len, meta_len, dots_len, other_len, string_len}
use Rattle.ir_parse_parts.specs.Rules.{Rule, is_class}
use Rattle.ir_parse_parts.proofs.Rules as rules
use Rattle.ir_parse_parts.specs.Classes.{tokens, IsReal, the, the_at}
use Rattle.ir_parse_parts.specs.Operands.{LOCAL}
use Rattle.ir_parse_operands.specs.ShapeForms.{any_shape, memory_shape}
use Rattle.ir_parse_parts.proofs.OperandRules.{local_rule}
use Rattle.ir_parse_operands.proofs.ShapeRules.{SHAPE, memory_shape_rule}
use Rattle.ir_parse_parts.proofs.Singles.{word, the_rule, equals_rule}
use Rattle.ir_parse_globals.specs.TypeDefinitions.{defined, type_line}
use Rattle.ir_parse_globals.specs.TypeDefinitionsAt.{OPAQUE, defined_at, type_line_at}

type_real : IsReal (word kinds.Type (codes "type"))
unfolding best_fit rest_fit label_len number_len word_len name_len meta_len dots_len other_len string_len has is_bad is_zero_name kind_of word_kind listed_kind words_4
type_real = record { behind = []; some = refl; fits = refl; good = refl; class = refl }

type_rule : Rule tokens (the kinds.Type) (the kinds.Type) (the_at kinds.Type) (number kinds.Type ∷ []) [] false
unfolding is_class
type_rule = the_rule kinds.Type (word kinds.Type (codes "type")) refl type_real

opaque_real : IsReal (word kinds.Opaque (codes "opaque"))
unfolding best_fit rest_fit label_len number_len word_len name_len meta_len dots_len other_len string_len has is_bad is_zero_name kind_of word_kind listed_kind words_6
opaque_real = record { behind = []; some = refl; fits = refl; good = refl; class = refl }

opaque_rule : Rule tokens (the kinds.Opaque) (the kinds.Opaque) (the_at kinds.Opaque) OPAQUE [] false
unfolding is_class
opaque_rule = the_rule kinds.Opaque (word kinds.Opaque (codes "opaque")) refl opaque_real

defined_rule : Rule tokens (defined memory_shape) (defined any_shape) defined_at (number kinds.Opaque ∷ SHAPE) [] false
unfolding defined defined_at
defined_rule = rules.alt tokens OPAQUE (rules.seq tokens opaque_rule (λ _. rules.nothing tokens _) refl) (rules.seq tokens memory_shape_rule (λ _. rules.nothing tokens _) refl) refl refl

pub type_line_rule : Rule tokens (type_line memory_shape) (type_line any_shape) type_line_at LOCAL [] false
unfolding type_line type_line_at
type_line_rule = rules.seq tokens local_rule (λ name. rules.seq tokens equals_rule (λ _. rules.seq tokens type_rule (λ _. rules.seq tokens defined_rule (λ _. rules.nothing tokens _) refl) refl) refl) refl
