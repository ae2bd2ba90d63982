-- Words and marks tell a token that is left out in some places against the syntax.
use Rattle.std.proofs.Common.{false, true, refl}
use Rattle.ir_lex.specs.declared.token_kind.TokenKind.TheVariants as kinds
use Rattle.ir_parse_parts.specs.Classes.{the, the_at}
use Rattle.ir_parse_parts.proofs.Singles.{align_rule, attributes_rule, bang_rule, close_angle_rule, close_brace_rule, close_bracket_rule, close_paren_rule, comma_rule, equals_rule, group_name_rule, meta_rule, number_rule, open_angle_rule, open_brace_rule, open_bracket_rule, open_paren_rule, parameter_group_rule, parameter_word_rule, string_rule}
use Rattle.ir_parse_parts.proofs.Words.{disjoint_rule, exact_rule, label_rule, nneg_rule, samesign_rule, to_rule}
use Rattle.ir_parse.proofs.Exchanged.{Exchanges, Swaps, nowhere}
use Rattle.ir_parse.proofs.ExchangedTokens.{loose_class, plain_class}

pub comma_exchanged : Exchanges (the kinds.Comma) (the_at kinds.Comma)
comma_exchanged = plain_class kinds.Comma comma_rule refl

pub equals_exchanged : Exchanges (the kinds.Equals) (the_at kinds.Equals)
equals_exchanged = plain_class kinds.Equals equals_rule refl

pub open_paren_exchanged : Exchanges (the kinds.OpenParen) (the_at kinds.OpenParen)
open_paren_exchanged = plain_class kinds.OpenParen open_paren_rule refl

pub close_paren_exchanged : Exchanges (the kinds.CloseParen) (the_at kinds.CloseParen)
close_paren_exchanged = plain_class kinds.CloseParen close_paren_rule refl

pub open_bracket_exchanged : Exchanges (the kinds.OpenBracket) (the_at kinds.OpenBracket)
open_bracket_exchanged = plain_class kinds.OpenBracket open_bracket_rule refl

pub close_bracket_exchanged : Exchanges (the kinds.CloseBracket) (the_at kinds.CloseBracket)
close_bracket_exchanged = plain_class kinds.CloseBracket close_bracket_rule refl

pub open_brace_exchanged : Exchanges (the kinds.OpenBrace) (the_at kinds.OpenBrace)
open_brace_exchanged = plain_class kinds.OpenBrace open_brace_rule refl

pub close_brace_exchanged : Exchanges (the kinds.CloseBrace) (the_at kinds.CloseBrace)
close_brace_exchanged = plain_class kinds.CloseBrace close_brace_rule refl

pub open_angle_exchanged : Swaps false true nowhere (the kinds.OpenAngle) (the_at kinds.OpenAngle)
open_angle_exchanged = loose_class kinds.OpenAngle open_angle_rule refl

pub close_angle_exchanged : Exchanges (the kinds.CloseAngle) (the_at kinds.CloseAngle)
close_angle_exchanged = plain_class kinds.CloseAngle close_angle_rule refl

pub number_exchanged : Exchanges (the kinds.Number) (the_at kinds.Number)
number_exchanged = plain_class kinds.Number number_rule refl

pub meta_exchanged : Exchanges (the kinds.Meta) (the_at kinds.Meta)
meta_exchanged = plain_class kinds.Meta meta_rule refl

pub bang_exchanged : Exchanges (the kinds.Bang) (the_at kinds.Bang)
bang_exchanged = plain_class kinds.Bang bang_rule refl

pub group_name_exchanged : Exchanges (the kinds.Group) (the_at kinds.Group)
group_name_exchanged = plain_class kinds.Group group_name_rule refl

pub string_exchanged : Exchanges (the kinds.Str) (the_at kinds.Str)
string_exchanged = plain_class kinds.Str string_rule refl

pub align_exchanged : Exchanges (the kinds.Align) (the_at kinds.Align)
align_exchanged = plain_class kinds.Align align_rule refl

pub parameter_word_exchanged : Exchanges (the kinds.ParameterWord) (the_at kinds.ParameterWord)
parameter_word_exchanged = plain_class kinds.ParameterWord parameter_word_rule refl

pub parameter_group_exchanged : Exchanges (the kinds.ParameterGroup) (the_at kinds.ParameterGroup)
parameter_group_exchanged = plain_class kinds.ParameterGroup parameter_group_rule refl

pub attributes_exchanged : Exchanges (the kinds.Attributes) (the_at kinds.Attributes)
attributes_exchanged = plain_class kinds.Attributes attributes_rule refl

pub to_exchanged : Exchanges (the kinds.To) (the_at kinds.To)
to_exchanged = plain_class kinds.To to_rule refl

pub exact_exchanged : Exchanges (the kinds.Exact) (the_at kinds.Exact)
exact_exchanged = plain_class kinds.Exact exact_rule refl

pub disjoint_exchanged : Exchanges (the kinds.Disjoint) (the_at kinds.Disjoint)
disjoint_exchanged = plain_class kinds.Disjoint disjoint_rule refl

pub samesign_exchanged : Exchanges (the kinds.Samesign) (the_at kinds.Samesign)
samesign_exchanged = plain_class kinds.Samesign samesign_rule refl

pub nneg_exchanged : Exchanges (the kinds.Nneg) (the_at kinds.Nneg)
nneg_exchanged = plain_class kinds.Nneg nneg_rule refl

pub label_exchanged : Exchanges (the kinds.LabelType) (the_at kinds.LabelType)
label_exchanged = plain_class kinds.LabelType label_rule refl
