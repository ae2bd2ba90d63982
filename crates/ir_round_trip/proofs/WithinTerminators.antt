-- Terminators that the grammar spells: constants are of the types that stand before them.
use Rattle.std.proofs.Common.{◌≡◌, ℕ, inl, inr, Option, Some, None, refl, subst}
use Rattle.ir_lex.specs.Tok.{Tok}
use Rattle.ir_lex.specs.declared.token_kind.TokenKind.{TokenKind}
use Rattle.ir_lex.specs.declared.token_kind.TokenKind.TheVariants as kinds
use Rattle.ir_parse_parts.specs.Literals.{literal}
use Rattle.ir_parse_operands.specs.ShapeForms.{memory_shape}
use Rattle.ir_parse_operands.specs.Terminators.{behind_end, branching, case, case_of, constant, matched, matched_by, matched_number, returned, returning, switching, terminator}
use Rattle.ir_parse_operands.specs.declared.terminators.End.{End}
use Rattle.ir_parse_operands.specs.declared.terminators.End.TheVariants as end
use Rattle.ir_parse_operands.specs.declared.terminators.Matched.{Matched}
use Rattle.ir_tree.specs.declared.operand.Reg.{Reg}
use Rattle.ir_tree.specs.declared.operand.Reg.TheVariants.{Int, Ptr}
use Rattle.ir_round_trip.specs.PrintedTyped.{NumberTyped}
use Rattle.ir_round_trip.specs.Spelled.{CaseSpelled, EndSpelled, OperandSpelled}
use Rattle.ir_round_trip.proofs.Means.{Means, either_means, follow, nothing, skip, star_means, valued_means}
use Rattle.ir_round_trip.proofs.WithinOperands.{bit_is, from_literal, operand_spelled}

returned_spelled : (r : Option Reg) → Means (returned memory_shape r) EndSpelled
returned_spelled None = nothing tt
returned_spelled (Some r) = follow (operand_spelled r) (λ v g. nothing g)

returning_spelled : Means (returning memory_shape) EndSpelled
unfolding returning
returning_spelled = skip _ (λ r. returned_spelled r)

branching_spelled : Means (branching memory_shape) EndSpelled
unfolding branching
branching_spelled =
    either_means (skip _ (λ to. nothing tt))
    (follow bit_is (λ w one.
    follow (operand_spelled (Int w)) (λ condition g. skip _ (λ _. skip _ (λ if_true. skip _ (λ _. skip _ (λ if_false. nothing (subst (λ (n : ℕ). OperandSpelled (Int n) condition) one g))))))))

-- ---- cases

abbrev MatchedTyped : Reg → Matched → Type 0
MatchedTyped r m = NumberTyped r m.width

number_matched : (r : Reg) (t : Tok) (m : Matched) → matched_number r t ≡ Some m → MatchedTyped r m
number_matched (Int w) t m e = from_literal (matched w) (MatchedTyped (Int w)) (λ n. inr refl) (literal w t.text) m e
number_matched Ptr t m e = absurd cc

matched_class : (head : TokenKind) (r : Reg) (t : Tok) (m : Matched) → matched_by head r t ≡ Some m → MatchedTyped r m
matched_class kinds.Number r t m e = number_matched r t m e
matched_class kinds.True r t m e = let same : matched 1 1 ≡ m = cc in subst (MatchedTyped r) same (inl refl)
matched_class kinds.False r t m e = let same : matched 1 0 ≡ m = cc in subst (MatchedTyped r) same (inl refl)
matched_class head r t m e = absurd cc

constant_typed : (r : Reg) → Means (constant r) (MatchedTyped r)
constant_typed r = valued_means _ _ (λ t m s e. matched_class t.kind r t m e)

case_of_spelled : (r : Reg) → Means (case_of r) CaseSpelled
unfolding case_of
case_of_spelled r = follow (constant_typed r) (λ m g. skip _ (λ _. skip _ (λ to. nothing g)))

case_spelled : Means case CaseSpelled
unfolding case
case_spelled = skip _ (λ r. case_of_spelled r)

switching_spelled : Means (switching memory_shape) EndSpelled
unfolding switching
switching_spelled =
    skip _ (λ w. follow (operand_spelled (Int w)) (λ value g. skip _ (λ _. skip _ (λ default. skip _ (λ _. follow (star_means case_spelled) (λ cases k. skip _ (λ _. nothing (g, k))))))))

-- ---- any terminator

behind_end_spelled : (e : End) → Means (behind_end memory_shape e) EndSpelled
behind_end_spelled end.Ret = returning_spelled
behind_end_spelled end.Br = branching_spelled
behind_end_spelled end.Switch = switching_spelled
behind_end_spelled end.Unreachable = nothing tt

pub terminator_spelled : Means (terminator memory_shape) (λ e. EndSpelled e.terminator)
unfolding terminator
terminator_spelled = skip _ (λ e. follow (behind_end_spelled e.end) (λ t h. skip _ (λ _. nothing h)))
