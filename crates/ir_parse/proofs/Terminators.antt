-- Terminators that the grammar spells.
use Rattle.std.proofs.Common.{◌≡◌, ◌<◌, ◌^◌, Option, Some, None, subst, arith}
use Rattle.std.proofs.lemmas.List.Elements.{All-from_recursion}
use Rattle.ir_lex.specs.Tok.{Tok}
use Rattle.ir_lex.specs.declared.token_kind.TokenKind.{TokenKind}
use Rattle.ir_lex.specs.declared.token_kind.TokenKind.TheVariants as kinds
use Rattle.ir_parse_parts.proofs.LiteralRange.{literal_fits}
use Rattle.ir_parse_parts.specs.Literals.{literal}
use Rattle.ir_parse_operands.specs.ShapeForms.{memory_shape}
use Rattle.ir_parse_operands.specs.Terminators.{behind_end, branching, case, case_of, constant, matched, matched_by, matched_number, returned, returning, switching, terminator}
use Rattle.ir_parse_operands.specs.declared.terminators.End.{End}
use Rattle.ir_parse_operands.specs.declared.terminators.End.TheVariants as end
use Rattle.ir_parse_operands.specs.declared.terminators.Matched.{Matched}
use Rattle.ir_tree.specs.Formed.{IsReg, IsResult, IsWidth}
use Rattle.ir_tree.specs.declared.operand.Reg.{Reg}
use Rattle.ir_tree.specs.declared.operand.Reg.TheVariants.{Int, Ptr}
use Rattle.ir_parse.specs.Written.{CaseWritten, EndWritten}
use Rattle.ir_parse.proofs.Means.{Means, either_means, follow, nothing, skip, star_means, valued_means}
use Rattle.ir_parse.proofs.Operands.{bit_written, integer_written, mapped, one_bit, operand_written, reg_written, result_written}

returned_written : (r : Option Reg) → IsResult r → Means (returned memory_shape r) EndWritten
returned_written None h = nothing tt
returned_written (Some r) h = follow (operand_written memory_shape r h) (λ v g. nothing (h, g))

returning_written : Means (returning memory_shape) EndWritten
unfolding returning
returning_written = follow result_written (λ r h. returned_written r h)

branching_written : Means (branching memory_shape) EndWritten
unfolding branching
branching_written =
    either_means (skip _ (λ to. nothing tt))
    (follow bit_written (λ w h. follow (operand_written memory_shape (Int w) h) (λ condition g. skip _ (λ _. skip _ (λ one. skip _ (λ _. skip _ (λ other. nothing g)))))))

-- ---- cases

abbrev MatchedWritten : Matched → Type 0
MatchedWritten m = IsWidth m.width × (m.bits < 2 ^ m.width)

number_matched : (r : Reg) → IsReg r → (t : Tok) (m : Matched) → matched_number r t ≡ Some m → MatchedWritten m
number_matched (Int w) h t m e = let found = mapped (matched w) (literal w t.text) m e in subst MatchedWritten found.2 (h, literal_fits w t.text found.0 found.1)
number_matched Ptr h t m e = absurd cc

matched_class : (head : TokenKind) (r : Reg) → IsReg r → (t : Tok) (m : Matched) → matched_by head r t ≡ Some m → MatchedWritten m
matched_class kinds.Number r h t m e = number_matched r h t m e
matched_class kinds.True r h t m e = let same : matched 1 1 ≡ m = cc in subst MatchedWritten same (one_bit, omega arith)
matched_class kinds.False r h t m e = let same : matched 1 0 ≡ m = cc in subst MatchedWritten same (one_bit, omega arith)
matched_class head r h t m e = absurd cc

constant_written : (r : Reg) → IsReg r → Means (constant r) MatchedWritten
constant_written r h = valued_means _ _ (λ t m s e. matched_class t.kind r h t m e)

case_of_written : (r : Reg) → IsReg r → Means (case_of r) CaseWritten
unfolding case_of
case_of_written r h = follow (constant_written r h) (λ m g. skip _ (λ _. skip _ (λ to. nothing (h, g.0, g.1))))

case_written : Means case CaseWritten
unfolding case
case_written = follow reg_written (λ r h. case_of_written r h)

switching_written : Means (switching memory_shape) EndWritten
unfolding switching
switching_written =
    follow integer_written (λ w h.
    follow (operand_written memory_shape (Int w) h) (λ value g.
    skip _ (λ _. skip _ (λ default. skip _ (λ _. follow (star_means case_written) (λ cases k. skip _ (λ _. nothing (h, g, All-from_recursion CaseWritten cases k))))))))

-- ---- any terminator

behind_end_written : (e : End) → Means (behind_end memory_shape e) EndWritten
behind_end_written end.Ret = returning_written
behind_end_written end.Br = branching_written
behind_end_written end.Switch = switching_written
behind_end_written end.Unreachable = nothing tt

pub terminator_written : Means (terminator memory_shape) (λ e. EndWritten e.terminator)
unfolding terminator
terminator_written = skip _ (λ e. follow (behind_end_written e.end) (λ t h. skip _ (λ _. nothing h)))
