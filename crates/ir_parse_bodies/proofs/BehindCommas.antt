-- What stands behind commas, each read as one.
use Rattle.std.proofs.Common.{◌≡◌, ℕ, Bool, List, Result, Ok, Err, refl, ◌∙◌}
use Rattle.ir_lex.specs.declared.token_kind.TokenKind.TheVariants as kinds
use Rattle.ir_lex.specs.Tok.{Tok}
use Rattle.ir_tree.specs.declared.instr.BinaryOp.{BinaryOp}
use Rattle.ir_tree.specs.declared.instr.Flags.{Flags}
use Rattle.ir_tree.specs.declared.instr.Predicate.{Predicate}
use Rattle.ir_tree.specs.declared.operand.Reg.{Reg}
use Rattle.ir_tree.specs.declared.operand.Reg.TheVariants.{Int, Ptr}
use Rattle.ir_parse_parts.specs.declared.fault.Fault.{Fault}
use Rattle.ir_parse_parts.specs.Readers.{done, follow, ◌>>=◌}
use Rattle.ir_parse_parts.specs.Classes.{one_of_at, the_at}
use Rattle.ir_parse_parts.specs.declared.raw.Argument.{Argument}
use Rattle.ir_parse_parts.specs.declared.raw.Instr.TheVariants as instrs
use Rattle.ir_parse_parts.specs.declared.raw.Operand.{Operand}
use Rattle.ir_parse_parts.specs.OperandsAt.{bit_at, integer_at, maybe_at, reg_at, scalar_at}
use Rattle.ir_parse_operands.specs.ValuesAt.{argument_at, operand_at, pointer_at, pointed_at}
use Rattle.ir_parse_operands.proofs.BehindCommas.{pointed_then}
use Rattle.ir_parse_operands.proofs.Grouping.{grouped}
use Rattle.ir_parse_bodies.specs.Instructions.{PREDICATES, predicate_of}
use Rattle.ir_parse_operands.specs.AlignmentsAt.{align_at}
use Rattle.ir_parse_bodies.specs.InstructionsAt.{arm_at, arms_at, comparing_at, loading_at, on_two_at, other_at, second_at, selecting_at, stored_at, storing_at, storing_to_at}

pub on_two_is : (op : BinaryOp) (f : Flags) (ts : List Tok) → on_two_at op f ts ≡ follow (integer_at ts) (λ w. operand_at (Int w) >>= λ left. second_at (Int w) >>= λ right. done (instrs.Binary op f w left right))
unfolding on_two_at second_at
on_two_is op f ts = by_width (integer_at ts)
  where
    by_left : (w : ℕ) (t : Result (Operand × List Tok) Fault) → follow t (λ left. the_at kinds.Comma >>= λ _. operand_at (Int w) >>= λ right. done (instrs.Binary op f w left right)) ≡ follow t (λ left. second_at (Int w) >>= λ right. done (instrs.Binary op f w left right))
    by_left w (Ok x) = grouped (λ _. operand_at (Int w)) (λ right. done (instrs.Binary op f w x.0 right)) (the_at kinds.Comma x.1)
    by_left w (Err e) = refl

    by_width : (t : Result (ℕ × List Tok) Fault) → follow t (λ w. operand_at (Int w) >>= λ left. the_at kinds.Comma >>= λ _. operand_at (Int w) >>= λ right. done (instrs.Binary op f w left right)) ≡ follow t (λ w. operand_at (Int w) >>= λ left. second_at (Int w) >>= λ right. done (instrs.Binary op f w left right))
    by_width (Ok x) = by_left x.0 (operand_at (Int x.0) x.1)
    by_width (Err e) = refl

pub comparing_is : (ts : List Tok) → comparing_at ts ≡ follow (maybe_at kinds.Samesign ts) (λ _. one_of_at PREDICATES predicate_of >>= λ p. reg_at >>= λ r. operand_at r >>= λ left. second_at r >>= λ right. done (instrs.Icmp p r left right))
unfolding comparing_at second_at
comparing_is ts = by_sign (maybe_at kinds.Samesign ts)
  where
    by_left : (p : Predicate) (r : Reg) (t : Result (Operand × List Tok) Fault) → follow t (λ left. the_at kinds.Comma >>= λ _. operand_at r >>= λ right. done (instrs.Icmp p r left right)) ≡ follow t (λ left. second_at r >>= λ right. done (instrs.Icmp p r left right))
    by_left p r (Ok x) = grouped (λ _. operand_at r) (λ right. done (instrs.Icmp p r x.0 right)) (the_at kinds.Comma x.1)
    by_left p r (Err e) = refl

    by_type : (p : Predicate) (t : Result (Reg × List Tok) Fault) → follow t (λ r. operand_at r >>= λ left. the_at kinds.Comma >>= λ _. operand_at r >>= λ right. done (instrs.Icmp p r left right)) ≡ follow t (λ r. operand_at r >>= λ left. second_at r >>= λ right. done (instrs.Icmp p r left right))
    by_type p (Ok x) = by_left p x.0 (operand_at x.0 x.1)
    by_type p (Err e) = refl

    by_predicate : (t : Result (Predicate × List Tok) Fault) → follow t (λ p. reg_at >>= λ r. operand_at r >>= λ left. the_at kinds.Comma >>= λ _. operand_at r >>= λ right. done (instrs.Icmp p r left right)) ≡ follow t (λ p. reg_at >>= λ r. operand_at r >>= λ left. second_at r >>= λ right. done (instrs.Icmp p r left right))
    by_predicate (Ok x) = by_type x.0 (reg_at x.1)
    by_predicate (Err e) = refl

    by_sign : (t : Result (Bool × List Tok) Fault) → follow t (λ _. one_of_at PREDICATES predicate_of >>= λ p. reg_at >>= λ r. operand_at r >>= λ left. the_at kinds.Comma >>= λ _. operand_at r >>= λ right. done (instrs.Icmp p r left right)) ≡ follow t (λ _. one_of_at PREDICATES predicate_of >>= λ p. reg_at >>= λ r. operand_at r >>= λ left. second_at r >>= λ right. done (instrs.Icmp p r left right))
    by_sign (Ok x) = by_predicate (one_of_at PREDICATES predicate_of x.1)
    by_sign (Err e) = refl

pub loading_is : (ts : List Tok) → loading_at ts ≡ follow (scalar_at ts) (λ r. pointed_at >>= λ address. align_at >>= λ n. done (instrs.Load r address n))
unfolding loading_at
loading_is ts = by_type (scalar_at ts)
  where
    by_type : (t : Result (Reg × List Tok) Fault) → follow t (λ r. the_at kinds.Comma >>= λ _. pointer_at >>= λ _. operand_at Ptr >>= λ address. align_at >>= λ n. done (instrs.Load r address n)) ≡ follow t (λ r. pointed_at >>= λ address. align_at >>= λ n. done (instrs.Load r address n))
    by_type (Ok x) = pointed_then (λ address. align_at >>= λ n. done (instrs.Load x.0 address n)) x.1
    by_type (Err e) = refl

pub storing_is : (ts : List Tok) → storing_at ts ≡ follow (scalar_at ts) (λ r. operand_at r >>= λ value. pointed_at >>= stored_at r value)
unfolding storing_at
storing_is ts = by_type (scalar_at ts)
  where
    by_value : (r : Reg) (t : Result (Operand × List Tok) Fault) → follow t (storing_to_at r) ≡ follow t (λ value. pointed_at >>= stored_at r value)
    by_value r (Ok x) = pointed_then (stored_at r x.0) x.1
    by_value r (Err e) = refl

    by_type : (t : Result (Reg × List Tok) Fault) → follow t (λ r. operand_at r >>= storing_to_at r) ≡ follow t (λ r. operand_at r >>= λ value. pointed_at >>= stored_at r value)
    by_type (Ok x) = by_value x.0 (operand_at x.0 x.1)
    by_type (Err e) = refl

pub selecting_is : (ts : List Tok) → selecting_at ts ≡ follow (bit_at ts) (λ w. operand_at (Int w) >>= λ condition. arm_at >>= λ one. arm_at >>= λ other. done (instrs.Select condition one other))
unfolding selecting_at arm_at
selecting_is ts = by_width (bit_at ts)
  where
    by_one : (condition : Operand) (t : Result (Argument × List Tok) Fault) → follow t (other_at condition) ≡ follow t (λ one. arm_at >>= λ other. done (instrs.Select condition one other))
    by_one condition (Ok x) = grouped (λ _. argument_at) (λ other. done (instrs.Select condition x.0 other)) (the_at kinds.Comma x.1)
    by_one condition (Err e) = refl

    by_condition : (t : Result (Operand × List Tok) Fault) → follow t arms_at ≡ follow t (λ condition. arm_at >>= λ one. arm_at >>= λ other. done (instrs.Select condition one other))
    by_condition (Ok x) = grouped (λ _. argument_at) (other_at x.0) (the_at kinds.Comma x.1) ∙ by_one x.0 (arm_at x.1)
    by_condition (Err e) = refl

    by_width : (t : Result (ℕ × List Tok) Fault) → follow t (λ w. operand_at (Int w) >>= arms_at) ≡ follow t (λ w. operand_at (Int w) >>= λ condition. arm_at >>= λ one. arm_at >>= λ other. done (instrs.Select condition one other))
    by_width (Ok x) = by_condition (operand_at (Int x.0) x.1)
    by_width (Err e) = refl
