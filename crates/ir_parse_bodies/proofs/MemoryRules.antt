-- The readers of loads and stores read them.
use Rattle.std.proofs.Common.{false, refl}
use Rattle.ir_tree.specs.declared.operand.Reg.TheVariants.{Ptr}
use Rattle.ir_parse_parts.specs.Rules.{Rule}
use Rattle.ir_parse_parts.proofs.Rules as rules
use Rattle.ir_parse_parts.specs.Classes.{tokens}
use Rattle.ir_parse_bodies.specs.Instructions.{loading, storing}
use Rattle.ir_parse_bodies.specs.InstructionsAt.{loading_at, storing_at}
use Rattle.ir_parse_parts.specs.Operands.{SCALAR}
use Rattle.ir_parse_operands.specs.ShapeForms.{any_shape, memory_shape}
use Rattle.ir_parse_parts.proofs.OperandRules.{scalar_rule}
use Rattle.ir_parse_parts.proofs.Singles.{comma_rule}
use Rattle.ir_parse_operands.proofs.AlignmentRules.{AFTER, alignment_rest_rule}
use Rattle.ir_parse_operands.proofs.ValueRules.{pointer_rule, operand_rule}

pub loading_rule : Rule tokens (loading memory_shape) (loading any_shape) loading_at SCALAR AFTER false
unfolding loading loading_at
loading_rule = rules.broader tokens SCALAR AFTER
    (rules.seq tokens scalar_rule (λ r. rules.seq tokens comma_rule (λ _. rules.seq tokens pointer_rule (λ _. rules.seq tokens (operand_rule Ptr) (λ _. rules.seq tokens alignment_rest_rule (λ _. rules.nothing tokens _) refl) refl) refl) refl) refl)
    refl refl

pub storing_rule : Rule tokens (storing memory_shape) (storing any_shape) storing_at SCALAR AFTER false
unfolding storing storing_at
storing_rule = rules.broader tokens SCALAR AFTER
    (rules.seq tokens scalar_rule (λ r. rules.seq tokens (operand_rule r) (λ _. rules.seq tokens comma_rule (λ _. rules.seq tokens pointer_rule (λ _. rules.seq tokens (operand_rule Ptr) (λ _. rules.seq tokens alignment_rest_rule (λ _. rules.nothing tokens _) refl) refl) refl) refl) refl) refl)
    refl refl
