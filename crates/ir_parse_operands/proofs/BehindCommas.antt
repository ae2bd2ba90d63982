-- What stands behind commas, each read as one.
use Rattle.std.proofs.Common.{◌≡◌, ℕ, Bool, List, Result, Ok, Err, refl, ◌∙◌}
use Rattle.ir_lex.specs.declared.token_kind.TokenKind.TheVariants as kinds
use Rattle.ir_lex.specs.Tok.{Tok}
use Rattle.ir_tree.specs.declared.operand.Reg.TheVariants.{Int, Ptr}
use Rattle.ir_parse_parts.specs.declared.fault.Fault.{Fault}
use Rattle.ir_parse_parts.specs.Readers.{Reader, done, follow, ◌>>=◌}
use Rattle.ir_parse_parts.specs.Classes.{the_at}
use Rattle.ir_parse_parts.specs.declared.raw.Argument.{Argument}
use Rattle.ir_parse_parts.specs.declared.raw.Case.{Case}
use Rattle.ir_parse_parts.specs.declared.raw.Instr.TheVariants as instrs
use Rattle.ir_parse_parts.specs.declared.raw.Operand.{Operand}
use Rattle.ir_parse_parts.specs.declared.raw.Terminator.TheVariants as terminators
use Rattle.ir_parse_parts.specs.declared.shape.Typed.{Typed}
use Rattle.ir_parse_parts.specs.OperandsAt.{bit_at, integer_at}
use Rattle.ir_parse_operands.specs.ShapeFormsAt.{memory_shape_at}
use Rattle.ir_parse_operands.specs.ValuesAt.{operand_at, pointer_at, stepping_at, pointed_at}
use Rattle.ir_parse_operands.proofs.Grouping.{grouped}
use Rattle.ir_parse_operands.specs.AddressingAt.{addressing_at, indices_at, stepped_at, stepping_by_at, steps_at}
use Rattle.ir_parse_operands.specs.TerminatorsAt.{branch_at, branches_at, bracketed_cases_at, cases_at, choosing_at, end_of_cases_at, switched_at, switches_at, switching_at, target_at}

-- an address behind a comma, and what follows it
pub pointed_then : {B : Type 0} (k : Operand → Reader Tok B) (ts : List Tok) → follow (the_at kinds.Comma ts) (λ _. pointer_at >>= λ _. operand_at Ptr >>= k) ≡ follow (pointed_at ts) k
unfolding pointed_at
pointed_then {B} k ts = by_comma (the_at kinds.Comma ts)
  where
    by_pointer : (r : Result (Unit {0} × List Tok) Fault) → follow r (λ _. operand_at Ptr >>= k) ≡ follow (follow r (λ _. operand_at Ptr)) k
    by_pointer (Ok x) = refl
    by_pointer (Err e) = refl

    by_comma : (r : Result (Unit {0} × List Tok) Fault) → follow r (λ _. pointer_at >>= λ _. operand_at Ptr >>= k) ≡ follow (follow r (λ _. pointer_at >>= λ _. operand_at Ptr)) k
    by_comma (Ok x) = by_pointer (pointer_at x.1)
    by_comma (Err e) = refl

pub addressing_is : (ts : List Tok) → addressing_at ts ≡ follow (stepping_at ts) (λ inbounds. memory_shape_at >>= λ typed. steps_at >>= λ steps. done (instrs.Address inbounds typed steps.0 steps.1))
unfolding addressing_at steps_at
addressing_is ts = by_flags (stepping_at ts)
  where
    by_indices : (i : Bool) (typed : Typed) (base : Operand) (t : Result (List Argument × List Tok) Fault) → follow t (λ is. done (instrs.Address i typed base is)) ≡ follow (follow {B = Operand × List Argument} t (λ is. done (base, is))) (λ steps. done (instrs.Address i typed steps.0 steps.1))
    by_indices i typed base (Ok x) = refl
    by_indices i typed base (Err e) = refl

    by_base : (i : Bool) (typed : Typed) (t : Result (Operand × List Tok) Fault) → follow t (stepped_at i typed) ≡ follow (follow {B = Operand × List Argument} t (λ base. indices_at >>= λ is. done (base, is))) (λ steps. done (instrs.Address i typed steps.0 steps.1))
    by_base i typed (Ok x) = by_indices i typed x.0 (indices_at x.1)
    by_base i typed (Err e) = refl

    by_shape : (i : Bool) (t : Result (Typed × List Tok) Fault) → follow t (stepping_by_at i) ≡ follow t (λ typed. steps_at >>= λ steps. done (instrs.Address i typed steps.0 steps.1))
    by_shape i (Ok x) = pointed_then (stepped_at i x.0) x.1 ∙ by_base i x.0 (pointed_at x.1)
    by_shape i (Err e) = refl

    by_flags : (t : Result (Bool × List Tok) Fault) → follow t (λ i. memory_shape_at >>= stepping_by_at i) ≡ follow t (λ i. memory_shape_at >>= λ typed. steps_at >>= λ steps. done (instrs.Address i typed steps.0 steps.1))
    by_flags (Ok x) = by_shape x.0 (memory_shape_at x.1)
    by_flags (Err e) = refl

pub choosing_is : (ts : List Tok) → choosing_at ts ≡ follow (bit_at ts) (λ w. operand_at (Int w) >>= λ condition. branch_at >>= λ if_true. branch_at >>= λ if_false. done (terminators.Branch condition if_true if_false))
unfolding branch_at
choosing_is ts = by_width (bit_at ts)
  where
    by_one : (condition : Operand) (t : Result (Tok × List Tok) Fault) → follow t (λ if_true. the_at kinds.Comma >>= λ _. target_at >>= λ if_false. done (terminators.Branch condition if_true if_false)) ≡ follow t (λ if_true. branch_at >>= λ if_false. done (terminators.Branch condition if_true if_false))
    by_one condition (Ok x) = grouped (λ _. target_at) (λ if_false. done (terminators.Branch condition x.0 if_false)) (the_at kinds.Comma x.1)
    by_one condition (Err e) = refl

    by_condition : (t : Result (Operand × List Tok) Fault) → follow t branches_at ≡ follow t (λ condition. branch_at >>= λ if_true. branch_at >>= λ if_false. done (terminators.Branch condition if_true if_false))
    by_condition (Ok x) = grouped (λ _. target_at) (λ if_true. the_at kinds.Comma >>= λ _. target_at >>= λ if_false. done (terminators.Branch x.0 if_true if_false)) (the_at kinds.Comma x.1) ∙ by_one x.0 (branch_at x.1)
    by_condition (Err e) = refl

    by_width : (t : Result (ℕ × List Tok) Fault) → follow t (λ w. operand_at (Int w) >>= branches_at) ≡ follow t (λ w. operand_at (Int w) >>= λ condition. branch_at >>= λ if_true. branch_at >>= λ if_false. done (terminators.Branch condition if_true if_false))
    by_width (Ok x) = by_condition (operand_at (Int x.0) x.1)
    by_width (Err e) = refl

-- the cases in their brackets, and what they are of
bracketed : (w : ℕ) (value : Operand) (default : Tok) (ts : List Tok) → switched_at w value default ts ≡ follow (bracketed_cases_at ts) (λ cases. done (terminators.Switch w value default cases))
unfolding bracketed_cases_at
bracketed w value default ts = by_bracket (the_at kinds.OpenBracket ts)
  where
    by_end : (cases : List Case) (t : Result (Unit {0} × List Tok) Fault) → follow t (λ _. done (terminators.Switch w value default cases)) ≡ follow (follow t (λ _. done cases)) (λ cs. done (terminators.Switch w value default cs))
    by_end cases (Ok x) = refl
    by_end cases (Err e) = refl

    by_cases : (t : Result (List Case × List Tok) Fault) → follow t (λ cases. end_of_cases_at >>= λ _. done (terminators.Switch w value default cases)) ≡ follow (follow t (λ cases. end_of_cases_at >>= λ _. done cases)) (λ cs. done (terminators.Switch w value default cs))
    by_cases (Ok x) = by_end x.0 (end_of_cases_at x.1)
    by_cases (Err e) = refl

    by_bracket : (t : Result (Unit {0} × List Tok) Fault) → follow t (λ _. cases_at >>= λ cases. end_of_cases_at >>= λ _. done (terminators.Switch w value default cases)) ≡ follow (follow t (λ _. cases_at >>= λ cases. end_of_cases_at >>= λ _. done cases)) (λ cs. done (terminators.Switch w value default cs))
    by_bracket (Ok x) = by_cases (cases_at x.1)
    by_bracket (Err e) = refl

pub switching_is : (ts : List Tok) → switching_at ts ≡ follow (integer_at ts) (λ w. operand_at (Int w) >>= λ value. branch_at >>= λ default. bracketed_cases_at >>= λ cases. done (terminators.Switch w value default cases))
unfolding switching_at branch_at
switching_is ts = by_width (integer_at ts)
  where
    by_default : (w : ℕ) (value : Operand) (t : Result (Tok × List Tok) Fault) → follow t (switched_at w value) ≡ follow t (λ default. bracketed_cases_at >>= λ cases. done (terminators.Switch w value default cases))
    by_default w value (Ok x) = bracketed w value x.0 x.1
    by_default w value (Err e) = refl

    by_value : (w : ℕ) (t : Result (Operand × List Tok) Fault) → follow t (switches_at w) ≡ follow t (λ value. branch_at >>= λ default. bracketed_cases_at >>= λ cases. done (terminators.Switch w value default cases))
    by_value w (Ok x) = grouped (λ _. target_at) (switched_at w x.0) (the_at kinds.Comma x.1) ∙ by_default w x.0 (branch_at x.1)
    by_value w (Err e) = refl

    by_width : (t : Result (ℕ × List Tok) Fault) → follow t (λ w. operand_at (Int w) >>= switches_at w) ≡ follow t (λ w. operand_at (Int w) >>= λ value. branch_at >>= λ default. bracketed_cases_at >>= λ cases. done (terminators.Switch w value default cases))
    by_width (Ok x) = by_value x.0 (operand_at (Int x.0) x.1)
    by_width (Err e) = refl
