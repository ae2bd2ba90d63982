-- The readers of operands tell a token that is left out in some places where one that it stands for goes on.
use Rattle.std.proofs.Common.{ℕ, List, [], ◌∷◌, refl, reverse}
use Rattle.std.specs.Prelude.{codes}
use Rattle.ir_lex.specs.Bytes.{has}
use Rattle.ir_lex.specs.TokenKinds.{number, kind_of, word_kind, listed_kind, words_13}
use Rattle.ir_lex.specs.Lexing.{is_bad}
use Rattle.ir_lex.specs.Quotes.{is_zero_name}
use Rattle.ir_lex.specs.Rows.{best_fit, rest_fit, label_len, number_len, word_len, name_len, meta_len, dots_len, other_len, string_len}
use Rattle.ir_lex.specs.declared.token_kind.TokenKind.TheVariants as kinds
use Rattle.ir_tree.specs.declared.operand.Reg.{Reg}
use Rattle.ir_parse_parts.proofs.Rules as rules
use Rattle.ir_parse_parts.specs.Forms.{Star}
use Rattle.ir_parse_parts.specs.Rules.{is_class}
use Rattle.ir_parse_parts.specs.Ahead.{STEPPING}
use Rattle.ir_parse_parts.specs.Classes.{tokens, IsReal, the, the_at, one_of, one_of_at}
use Rattle.ir_parse_parts.specs.MetadataAt.{COMMA}
use Rattle.ir_parse_parts.specs.Operands.{global_named, type_refusal}
use Rattle.ir_parse_operands.specs.ShapeForms.{any_shape}
use Rattle.ir_parse_operands.specs.Values.{is_inbounds, stepping, NUMBER, index_of, index_number, index, GLOBAL, global, closing_one, closing, opened, opening, reached, address_behind, address, operand, argument, pointer}
use Rattle.ir_parse_operands.specs.ValuesAt.{ADDRESS, pointer_at, stepping_at, index_number_at, index_at, indices_at, closing_one_at, closing_at, opened_at, opening_at, openings_at, global_at, reached_at, address_behind_at, address_at, operand_at, argument_at}
use Rattle.ir_parse_parts.specs.declared.shape.Typed.{Typed}
use Rattle.ir_parse_parts.proofs.OperandRules.{type_not_number, type_not_limit}
use Rattle.ir_parse_parts.proofs.Singles.{word, the_rule}
use Rattle.ir_parse_operands.proofs.ValueRules.{flag_rule, global_rule, index_number_rule, index_rule, opening_rule}
use Rattle.ir_parse_parts.proofs.Words.{pointer_real}
use Rattle.ir_parse.proofs.Exchanged.{Exchanges, alt, nothing, seq, star, taken}
use Rattle.ir_parse.proofs.ExchangedOperands.{integer_exchanged, reg_exchanged, simple_exchanged}
use Rattle.ir_parse.proofs.ExchangedShapes.{memory_shape_exchanged}
use Rattle.ir_parse.proofs.ExchangedTokens.{plain_class, plain_one, plain_valued, type_class}
use Rattle.ir_parse.proofs.ExchangedWords.{close_paren_exchanged, comma_exchanged, open_paren_exchanged}

get_element_real : IsReal (word kinds.GetElementPtr (codes "getelementptr"))
unfolding best_fit rest_fit label_len number_len word_len name_len meta_len dots_len other_len string_len has is_bad is_zero_name kind_of word_kind listed_kind words_13
get_element_real = record { behind = []; some = refl; fits = refl; good = refl; class = refl }

pub pointer_exchanged : Exchanges pointer pointer_at
unfolding is_class
pointer_exchanged = type_class (number kinds.Ptr) (rules.class_rule tokens type_refusal type_not_number type_not_limit (number kinds.Ptr) (word kinds.Ptr (codes "ptr")) refl pointer_real) refl refl (word kinds.Ptr (codes "ptr")) refl pointer_real refl

pub flag_exchanged : Exchanges (one_of STEPPING is_inbounds) (one_of_at STEPPING is_inbounds)
flag_exchanged = plain_one STEPPING is_inbounds flag_rule refl

pub stepping_exchanged : Exchanges stepping stepping_at
unfolding stepping stepping_at
stepping_exchanged = seq (star STEPPING refl flag_exchanged (taken flag_rule)) (λ _. nothing _)

pub index_number_exchanged : (w : ℕ) → Exchanges (index_number w) (index_number_at w)
index_number_exchanged w = plain_valued NUMBER (index_of w) (index_number_rule w) refl

pub index_exchanged : Exchanges index index_at
unfolding index index_at
index_exchanged = seq comma_exchanged (λ _. seq integer_exchanged index_number_exchanged)

pub indices_exchanged : Exchanges (Star index) indices_at
indices_exchanged = star COMMA refl index_exchanged (taken index_rule)

pub closing_one_exchanged : (typed : Typed) → Exchanges (closing_one typed) (closing_one_at typed)
unfolding closing_one closing_one_at
closing_one_exchanged typed = seq indices_exchanged (λ _. seq close_paren_exchanged (λ _. nothing _))

pub closing_exchanged : (outer : List Typed) → Exchanges (closing outer) (closing_at outer)
closing_exchanged [] = nothing []
closing_exchanged (typed ∷ outer) = seq (closing_one_exchanged typed) (λ one. seq (closing_exchanged outer) (λ more. nothing (one ∷ more)))

pub get_element_exchanged : Exchanges (the kinds.GetElementPtr) (the_at kinds.GetElementPtr)
unfolding is_class
get_element_exchanged = plain_class kinds.GetElementPtr (the_rule kinds.GetElementPtr (word kinds.GetElementPtr (codes "getelementptr")) refl get_element_real) refl

pub opened_exchanged : Exchanges (opened any_shape) opened_at
unfolding opened opened_at
opened_exchanged = seq stepping_exchanged (λ _. seq open_paren_exchanged (λ _. seq memory_shape_exchanged (λ typed. seq comma_exchanged (λ _. seq pointer_exchanged (λ _. nothing typed)))))

pub opening_exchanged : Exchanges (opening any_shape) opening_at
unfolding opening opening_at
opening_exchanged = seq get_element_exchanged (λ _. opened_exchanged)

pub openings_exchanged : Exchanges (Star (opening any_shape)) openings_at
openings_exchanged = star ADDRESS refl opening_exchanged (taken opening_rule)

pub global_exchanged : Exchanges global global_at
global_exchanged = plain_valued GLOBAL global_named global_rule refl

pub reached_exchanged : (outer : List Typed) → Exchanges (reached outer) (reached_at outer)
unfolding reached reached_at
reached_exchanged outer = seq global_exchanged (λ name. seq (closing_exchanged (reverse outer)) (λ levels. nothing _))

pub address_behind_exchanged : (first : Typed) → Exchanges (address_behind any_shape first) (address_behind_at first)
unfolding address_behind address_behind_at
address_behind_exchanged first = seq openings_exchanged (λ inner. reached_exchanged (first ∷ inner))

pub address_exchanged : Exchanges (address any_shape) address_at
unfolding address address_at
address_exchanged = seq opening_exchanged address_behind_exchanged

pub operand_exchanged : (r : Reg) → Exchanges (operand any_shape r) (operand_at r)
unfolding operand operand_at
operand_exchanged r = alt ADDRESS refl address_exchanged (simple_exchanged r)

pub argument_exchanged : Exchanges (argument any_shape) argument_at
unfolding argument argument_at
argument_exchanged = seq reg_exchanged (λ r. seq (operand_exchanged r) (λ _. nothing _))
