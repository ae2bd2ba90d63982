-- The readers of terminators tell a token that is left out in some places where one that it stands for goes on.
use Rattle.std.proofs.Common.{Option, Some, None, [], refl, ◌≡◌, true, List, ◌∷◌, ap, Result}
use Rattle.std.specs.Prelude.{codes}
use Rattle.ir_lex.specs.Bytes.{has}
use Rattle.ir_lex.specs.TokenKinds.{kind_of, word_kind, listed_kind, words_3}
use Rattle.ir_lex.specs.Lexing.{is_bad}
use Rattle.ir_lex.specs.Quotes.{is_zero_name}
use Rattle.ir_lex.specs.Rows.{best_fit, rest_fit, label_len, number_len, word_len, name_len, meta_len, dots_len, other_len, string_len}
use Rattle.ir_lex.specs.Tok.{Tok}
use Rattle.ir_lex.specs.declared.token_kind.TokenKind.TheVariants as kinds
use Rattle.ir_tree.specs.declared.operand.Reg.TheVariants.{Int, Ptr}
use Rattle.ir_tree.specs.declared.operand.Reg.{Reg}
use Rattle.ir_parse_parts.specs.Readers.{Reader, fault_at, follow, ◌>>=◌}
use Rattle.ir_parse_parts.specs.declared.fault.Fault.{Fault}
use Rattle.ir_parse_parts.specs.declared.fault.TokenFault.TheVariants.{Syntax}
use Rattle.ir_parse_parts.specs.Classes.{IsReal}
use Rattle.ir_parse_parts.specs.Operands.{reg_of}
use Rattle.ir_parse_parts.specs.OperandsAt.{reg_at}
use Rattle.ir_parse_operands.specs.ShapeForms.{any_shape}
use Rattle.ir_parse_operands.specs.Terminators.{ENDS, case_classes, matched_of, ending_of, returned, returning, target, branching, constant, case_of, case, switching, behind_end, terminator}
use Rattle.ir_parse_operands.specs.TerminatorsAt.{LABEL, returned_at, returning_at, target_at, branching_at, constant_at, case_of_at, case_at, switching_at, behind_end_at, terminator_at}
use Rattle.ir_parse_parts.specs.declared.raw.Terminator.TheVariants as terminators
use Rattle.ir_parse_operands.specs.declared.terminators.End.TheVariants as end
use Rattle.ir_parse_operands.specs.declared.terminators.End.{End}
use Rattle.ir_parse_operands.specs.declared.terminators.Ended.{Ended}
use Rattle.ir_parse_parts.proofs.Singles.{word}
use Rattle.ir_parse_operands.proofs.TerminatorRules.{case_rule, constant_rule}
use Rattle.ir_parse.proofs.Exchanged.{Exchanges, alt, nothing, seq, taken, is_target}
use Rattle.ir_parse.proofs.ExchangedNodes.{attachments_exchanged}
use Rattle.ir_parse.proofs.ExchangedOperands.{bit_exchanged, integer_exchanged, local_exchanged, reg_exchanged, result_exchanged}
use Rattle.ir_parse.proofs.ExchangedTokens.{one_sample, plain_valued, refused_one}
use Rattle.ir_parse.proofs.ExchangedTypes.{Types, all_exchanged as typed_all, type_told, types_first}
use Rattle.ir_parse.proofs.ExchangedValues.{operand_exchanged}
use Rattle.ir_parse.proofs.ExchangedWords.{comma_exchanged, label_exchanged, open_bracket_exchanged, close_bracket_exchanged}

ret_real : IsReal (word kinds.Ret (codes "ret"))
unfolding best_fit rest_fit label_len number_len word_len name_len meta_len dots_len other_len string_len has is_bad is_zero_name kind_of word_kind listed_kind words_3
ret_real = record { behind = []; some = refl; fits = refl; good = refl; class = refl }

pub returned_exchanged : (r : Option Reg) → Exchanges (returned any_shape r) (returned_at r)
returned_exchanged None = nothing _
returned_exchanged (Some r) = seq (operand_exchanged r) (λ _. nothing _)

pub returning_exchanged : Exchanges (returning any_shape) returning_at
unfolding returning returning_at
returning_exchanged = seq result_exchanged returned_exchanged

pub target_exchanged : Exchanges target target_at
unfolding target target_at
target_exchanged = seq label_exchanged (λ _. local_exchanged)

pub branching_exchanged : Exchanges (branching any_shape) branching_at
unfolding branching branching_at
branching_exchanged = alt LABEL refl (seq target_exchanged (λ _. nothing _)) (seq bit_exchanged (λ w. seq (operand_exchanged (Int w)) (λ _. seq comma_exchanged (λ _. seq target_exchanged (λ _. seq comma_exchanged (λ _. seq target_exchanged (λ _. nothing _)))))))

pub constant_exchanged : (r : Reg) → Exchanges (constant r) (constant_at r)
constant_exchanged (Int w) = plain_valued (case_classes (Int w)) (matched_of (Int w)) (constant_rule (Int w)) refl
constant_exchanged Ptr = plain_valued (case_classes Ptr) (matched_of Ptr) (constant_rule Ptr) refl

pub case_of_exchanged : (r : Reg) → Exchanges (case_of r) (case_of_at r)
unfolding case_of case_of_at
case_of_exchanged r = seq (constant_exchanged r) (λ _. seq comma_exchanged (λ _. seq target_exchanged (λ _. nothing _)))

pub case_exchanged : Exchanges case case_at
unfolding case case_at
case_exchanged = seq reg_exchanged case_of_exchanged

case_types : Types case_at
unfolding case_at
case_types = types_first reg_at (type_told reg_of) _

pub switching_exchanged : Exchanges (switching any_shape) switching_at
unfolding switching switching_at
switching_exchanged = seq integer_exchanged (λ w. seq (operand_exchanged (Int w)) (λ value. seq comma_exchanged (λ _. seq target_exchanged (λ to. seq open_bracket_exchanged (λ _. typed_all kinds.CloseBracket refl close_bracket_exchanged (λ cs. terminators.Switch w value to cs) case_exchanged (taken case_rule) case_types)))))

pub behind_end_exchanged : (e : End) → Exchanges (behind_end any_shape e) (behind_end_at e)
behind_end_exchanged end.Ret = returning_exchanged
behind_end_exchanged end.Br = branching_exchanged
behind_end_exchanged end.Switch = switching_exchanged
behind_end_exchanged end.Unreachable = nothing _

pub terminator_exchanged : Exchanges (terminator any_shape) terminator_at
unfolding terminator terminator_at
terminator_exchanged = seq (one_sample ENDS ending_of (word kinds.Ret (codes "ret")) refl ret_real refl) (λ e. seq (behind_end_exchanged e.end) (λ _. seq attachments_exchanged (λ _. nothing _)))

-- it doesn't begin one
pub terminator_closes : {B : Type 0} (h : Ended → Reader Tok B) (t : Tok) (rest : List Tok) → is_target t.kind ≡ true → (terminator_at >>= h) (t ∷ rest) ≡ fault_at Syntax (t ∷ rest)
unfolding terminator_at
terminator_closes h t rest q = ap (λ (r : Result (Ended × List Tok) Fault). follow r h) (refused_one _ ENDS ending_of refl t rest q)
