-- The first fault of the readers of attributes is of a kind that its token allows.
use Rattle.ir_parse.proofs.Told.{Tells, takes_of, seq, nothing, alt, star, maybe, single, valued, any, the_told, one_told, refusal_refuses, group_told, is_alignment_allowed}
use Rattle.std.specs.Prelude.{ℕ, List}
use Rattle.ir_lex.specs.declared.token_kind.TokenKind.TheVariants as kinds
use Rattle.ir_parse_parts.specs.Alphabet.{among}
use Rattle.ir_parse_heads.specs.Attributes.{WORDS, CALL_WORDS, GROUP_WORDS, GROUP, word_kept}
use Rattle.ir_parse_parts.specs.Classes.{tokens, refusal}
use Rattle.ir_parse_parts.specs.Decimals.{is_alignment}
use Rattle.ir_parse_parts.specs.Metadata.{META}
use Rattle.ir_parse_parts.specs.MetadataAt.{PAREN}
use Rattle.ir_parse.proofs.ToldMetadata.{attached_told}
use Rattle.ir_parse_parts.specs.Operands.{group_named}
use Rattle.ir_parse_parts.specs.declared.brackets.Bracket.TheVariants.{Paren}
use Rattle.ir_parse_heads.specs.AttributesAt.{NUMBER, EQUALS, STRING, ALIGN, PARAMETER_WORD, PARAMETER_GROUP, PARAMETER, CALL, DEFINITION, aligned_at, parameter_attribute_at, parameter_attributes_at, word_tail_at, word_attribute_at, string_value_at, string_attribute_at, function_attribute_at, group_name_at, group_attribute_at, call_attribute_at, call_attributes_at, head_alignment_at, head_attribute_at, attached_attribute_at, definition_attribute_at, definition_attributes_at, GROUPED, grouped_at, attribute_group_at}
use Rattle.ir_parse_heads.proofs.AttributeRules.{grouped_attribute_rule}
use Rattle.std.proofs.Common.{refl}

pub aligned_told : Tells aligned_at
unfolding aligned_at
aligned_told = alt (among tokens NUMBER) (seq (single is_alignment is_alignment_allowed) (λ _. nothing _)) (group_told Paren)

pub parameter_attribute_told : Tells parameter_attribute_at
unfolding parameter_attribute_at
parameter_attribute_told =
    alt (among tokens PARAMETER_WORD) (the_told kinds.ParameterWord) (alt (among tokens PARAMETER_GROUP) (seq (the_told kinds.ParameterGroup) (λ _. group_told Paren)) (seq (the_told kinds.Align) (λ _. aligned_told)))

pub parameter_attributes_told : Tells parameter_attributes_at
unfolding parameter_attributes_at
parameter_attributes_told = seq (star PARAMETER refl parameter_attribute_told) (λ _. nothing _)

pub word_tail_told : Tells word_tail_at
unfolding word_tail_at
word_tail_told =
    alt (among tokens PAREN) (group_told Paren) (alt (among tokens EQUALS) (seq (the_told kinds.Equals) (λ _. the_told kinds.Number)) (nothing _))

pub word_attribute_told : (words : List ℕ) → Tells (word_attribute_at words)
unfolding word_attribute_at
word_attribute_told words = seq (one_told words word_kept) (λ kept. seq word_tail_told (λ _. nothing _))

pub string_value_told : Tells string_value_at
unfolding string_value_at
string_value_told = seq (the_told kinds.Equals) (λ _. the_told kinds.Str)

pub string_attribute_told : Tells string_attribute_at
unfolding string_attribute_at
string_attribute_told = seq (the_told kinds.Str) (λ _. seq (maybe (among tokens EQUALS) string_value_told) (λ _. nothing _))

pub function_attribute_told : (words : List ℕ) → Tells (function_attribute_at words)
unfolding function_attribute_at
function_attribute_told words = alt (among tokens STRING) string_attribute_told (word_attribute_told words)

pub group_name_told : Tells group_name_at
group_name_told = valued refusal refusal_refuses GROUP refl group_named

pub group_attribute_told : Tells group_attribute_at
unfolding group_attribute_at
group_attribute_told = seq group_name_told (λ name. nothing _)

pub call_attribute_told : Tells call_attribute_at
unfolding call_attribute_at
call_attribute_told = alt (among tokens GROUP) group_attribute_told (function_attribute_told CALL_WORDS)

pub call_attributes_told : Tells call_attributes_at
unfolding call_attributes_at
call_attributes_told = seq (star CALL refl call_attribute_told) (λ _. nothing _)

pub head_alignment_told : Tells head_alignment_at
unfolding head_alignment_at
head_alignment_told =
    seq (the_told kinds.Align) (λ _. seq (alt (among tokens NUMBER) (seq (single is_alignment is_alignment_allowed) (λ _. nothing _)) word_tail_told) (λ _. nothing _))

pub head_attribute_told : Tells head_attribute_at
unfolding head_attribute_at
head_attribute_told = alt (among tokens GROUP) group_attribute_told (alt (among tokens ALIGN) head_alignment_told (function_attribute_told WORDS))

pub attached_attribute_told : Tells attached_attribute_at
unfolding attached_attribute_at
attached_attribute_told = seq attached_told (λ _. nothing _)

pub definition_attribute_told : Tells definition_attribute_at
unfolding definition_attribute_at
definition_attribute_told = alt (among tokens META) attached_attribute_told head_attribute_told

pub definition_attributes_told : Tells definition_attributes_at
unfolding definition_attributes_at
definition_attributes_told = seq (star DEFINITION refl definition_attribute_told) (λ all. nothing _)

pub grouped_told : Tells grouped_at
unfolding grouped_at
grouped_told = seq (any (among tokens GROUPED) (function_attribute_told GROUP_WORDS) (takes_of grouped_attribute_rule)) (λ all. nothing _)

pub attribute_group_told : Tells attribute_group_at
unfolding attribute_group_at
attribute_group_told =
    seq (the_told kinds.Attributes) (λ _. seq group_name_told (λ name. seq (the_told kinds.Equals) (λ _. seq (the_told kinds.OpenBrace) (λ _. seq grouped_told (λ kept. seq (the_told kinds.CloseBrace) (λ _. nothing _))))))
