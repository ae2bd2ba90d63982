-- What the readers of terminators give, once their parts are read.
use Rattle.std.proofs.Common.{◌≡◌, true, false, Some, None, List, Ok, ◌∙◌}
use Rattle.ir_lex.specs.declared.token_kind.TokenKind.TheVariants as kinds
use Rattle.ir_lex.specs.Tok.{Tok}
use Rattle.ir_tree.specs.declared.operand.Reg.{Reg}
use Rattle.ir_parse_parts.specs.Alphabet.{among}
use Rattle.ir_parse_parts.specs.Classes.{tokens, one_of_at, the_at}
use Rattle.ir_parse_parts.specs.declared.raw.Operand.{Operand}
use Rattle.ir_parse_parts.specs.declared.raw.Terminator.{Terminator}
use Rattle.ir_parse_parts.specs.declared.raw.Terminator.TheVariants as terminators
use Rattle.ir_parse_parts.specs.MetadataAt.{attachments_at}
use Rattle.ir_parse_parts.specs.OperandsAt.{reg_at, result_at}
use Rattle.ir_parse_parts.specs.Readers.{◌>>=◌, done, follow, next_is}
use Rattle.ir_parse_operands.specs.declared.terminators.Ending.{Ending}
use Rattle.ir_parse_operands.specs.declared.terminators.Matched.{Matched}
use Rattle.ir_parse_operands.specs.Terminators.{ENDS, ending_of}
use Rattle.ir_parse_operands.specs.TerminatorsAt.{LABEL, behind_end_at, branch_at, branching_at, case_at, case_of_at, choosing_at, constant_at, returned_at, returning_at, target_at, terminator_at}
use Rattle.ir_parse_operands.specs.ValuesAt.{operand_at}
use Rattle.ir_parse_operands.proofs.Choices.{goes_on, passes_over, picks}
use Rattle.ir_parse_operands.proofs.Grouping.{grouped}

pub returns_nothing : (ts after : List Tok) → result_at ts ≡ Ok (None, after) → returning_at ts ≡ Ok (terminators.Return None, after)
unfolding returning_at
returns_nothing ts after e = goes_on returned_at (result_at ts) None after e

pub returns_operand : (ts mid after : List Tok) (r : Reg) (v : Operand) → result_at ts ≡ Ok (Some r, mid) → operand_at r mid ≡ Ok (v, after) → returning_at ts ≡ Ok (terminators.Return (Some (record { reg = r; operand = v })), after)
unfolding returning_at
returns_operand ts mid after r v e f =
    goes_on returned_at (result_at ts) (Some r) mid e
    ∙ goes_on (λ x. done (terminators.Return (Some (record { reg = r; operand = x })))) (operand_at r mid) v after f

pub jumps : (ts after : List Tok) (to : Tok) → next_is (among tokens LABEL) ts ≡ true → target_at ts ≡ Ok (to, after) → branching_at ts ≡ Ok (terminators.Jump to, after)
unfolding branching_at
jumps ts after to h e =
    picks (among tokens LABEL) (target_at >>= λ x. done (terminators.Jump x)) choosing_at ts h
    ∙ goes_on (λ x. done (terminators.Jump x)) (target_at ts) to after e

pub chooses : (ts : List Tok) → next_is (among tokens LABEL) ts ≡ false → branching_at ts ≡ choosing_at ts
unfolding branching_at
chooses ts h = passes_over (among tokens LABEL) (target_at >>= λ x. done (terminators.Jump x)) choosing_at ts h

pub case_begun : (ts behind_reg behind_number : List Tok) (r : Reg) (m : Matched) → reg_at ts ≡ Ok (r, behind_reg) → constant_at r behind_reg ≡ Ok (m, behind_number)
    → case_at ts ≡ follow (branch_at behind_number) (λ to. done (record { reg = r; width = m.width; bits = m.bits; target = to }))
unfolding case_at case_of_at branch_at
case_begun ts behind_reg behind_number r m e f =
    goes_on case_of_at (reg_at ts) r behind_reg e
    ∙ goes_on (λ n. the_at kinds.Comma >>= λ _. target_at >>= λ x. done (record { reg = r; width = n.width; bits = n.bits; target = x })) (constant_at r behind_reg) m behind_number f
    ∙ grouped (λ _. target_at) (λ x. done (record { reg = r; width = m.width; bits = m.bits; target = x })) (the_at kinds.Comma behind_number)

pub terminator_begun : (ts behind_first behind_parts : List Tok) (e : Ending) (t : Terminator) → one_of_at ENDS ending_of ts ≡ Ok (e, behind_first) → behind_end_at e.end behind_first ≡ Ok (t, behind_parts)
    → terminator_at ts ≡ follow (attachments_at behind_parts) (λ _. done (record { terminator = t; line = e.line }))
unfolding terminator_at
terminator_begun ts behind_first behind_parts e t f g =
    goes_on (λ x. behind_end_at x.end >>= λ y. attachments_at >>= λ _. done (record { terminator = y; line = x.line })) (one_of_at ENDS ending_of ts) e behind_first f
    ∙ goes_on (λ y. attachments_at >>= λ _. done (record { terminator = y; line = e.line })) (behind_end_at e.end behind_first) t behind_parts g
