-- The first fault of the readers of terminators is of a kind that its token allows.
use Rattle.ir_parse.proofs.Told.{Tells, seq, nothing, alt, star, class, valued, the_told, one_told, refusal_refuses, type_refusal_refuses}
use Rattle.std.specs.Prelude.{ℕ, Option, Some, None}
use Rattle.ir_lex.specs.declared.token_kind.TokenKind.TheVariants as kinds
use Rattle.ir_lex.specs.TokenKinds.{number}
use Rattle.ir_lex.specs.Tok.{Tok}
use Rattle.ir_tree.specs.declared.operand.Reg.{Reg}
use Rattle.ir_tree.specs.declared.operand.Reg.TheVariants.{Int, Ptr}
use Rattle.ir_parse_parts.specs.Alphabet.{among}
use Rattle.ir_parse_parts.specs.Classes.{tokens, refusal}
use Rattle.ir_parse_parts.specs.declared.raw.Operand.{Operand}
use Rattle.ir_parse_operands.specs.declared.terminators.End.{End}
use Rattle.ir_parse_operands.specs.declared.terminators.End.TheVariants as end
use Rattle.ir_parse.proofs.ToldMetadata.{attachments_told}
use Rattle.ir_parse_parts.specs.Operands.{REG, type_refusal}
use Rattle.ir_parse.proofs.ToldOperands.{reg_told, integer_told, bit_told, result_told, local_told}
use Rattle.ir_parse.proofs.ToldValues.{operand_told}
use Rattle.ir_parse_operands.specs.Terminators.{case_classes, matched_of, ENDS, ending_of}
use Rattle.ir_parse_operands.specs.TerminatorsAt.{LABEL, returned_at, returning_at, target_at, branches_at, branching_at, constant_at, case_of_at, case_at, cases_at, end_of_cases_at, switched_at, switches_at, switching_at, behind_end_at, terminator_at}
use Rattle.ir_parse_parts.specs.Rules.{disjoint}
use Rattle.std.proofs.Common.{true, ◌≡◌, refl}
use Rattle.ir_parse.specs.Refusals.{REFUSED_EVERYWHERE}

pub returned_told : (x0 : Option Reg) → Tells (returned_at x0)
returned_told None = nothing _
returned_told (Some r) = seq (operand_told r) (λ v. nothing _)

pub returning_told : Tells returning_at
unfolding returning_at
returning_told = seq result_told (λ r. returned_told r)

pub target_told : Tells target_at
unfolding target_at
target_told = seq (the_told kinds.LabelType) (λ _. local_told)

pub branches_told : (condition : Operand) → Tells (branches_at condition)
branches_told condition =
    seq (the_told kinds.Comma) (λ _. seq target_told (λ if_true. seq (the_told kinds.Comma) (λ _. seq target_told (λ if_false. nothing _))))

pub branching_told : Tells branching_at
unfolding branching_at
branching_told =
    alt (among tokens LABEL) (seq target_told (λ to. nothing _)) (seq bit_told (λ w. seq (operand_told (Int w)) (λ condition. branches_told condition)))

case_classes_apart : (r : Reg) → disjoint (case_classes r) REFUSED_EVERYWHERE ≡ true
case_classes_apart (Int w) = refl
case_classes_apart Ptr = refl

pub constant_told : (r : Reg) → Tells (constant_at r)
constant_told r = valued refusal refusal_refuses (case_classes r) (case_classes_apart r) (matched_of r)

pub case_of_told : (r : Reg) → Tells (case_of_at r)
unfolding case_of_at
case_of_told r = seq (constant_told r) (λ m. seq (the_told kinds.Comma) (λ _. seq target_told (λ to. nothing _)))

pub case_told : Tells case_at
unfolding case_at
case_told = seq reg_told (λ r. case_of_told r)

pub cases_told : Tells cases_at
cases_told = star REG refl case_told

pub end_of_cases_told : Tells end_of_cases_at
end_of_cases_told = class type_refusal type_refusal_refuses (number kinds.CloseBracket)

pub switched_told : (w : ℕ) → (value : Operand) → (default : Tok) → Tells (switched_at w value default)
switched_told w value default = seq (the_told kinds.OpenBracket) (λ _. seq cases_told (λ cases. seq end_of_cases_told (λ _. nothing _)))

pub switches_told : (w : ℕ) → (value : Operand) → Tells (switches_at w value)
switches_told w value = seq (the_told kinds.Comma) (λ _. seq target_told (λ default. switched_told w value default))

pub switching_told : Tells switching_at
unfolding switching_at
switching_told = seq integer_told (λ w. seq (operand_told (Int w)) (λ value. switches_told w value))

pub behind_end_told : (x0 : End) → Tells (behind_end_at x0)
behind_end_told end.Ret = returning_told
behind_end_told end.Br = branching_told
behind_end_told end.Switch = switching_told
behind_end_told end.Unreachable = nothing _

pub terminator_told : Tells terminator_at
unfolding terminator_at
terminator_told = seq (one_told ENDS ending_of) (λ e. seq (behind_end_told e.end) (λ t. seq attachments_told (λ _. nothing _)))
