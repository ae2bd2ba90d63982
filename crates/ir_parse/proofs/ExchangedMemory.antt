-- The readers of loads and stores tell a token that is left out in some places where one that it stands for goes on.
use Rattle.std.proofs.Common.{None, refl}
use Rattle.ir_tree.specs.declared.operand.Reg.TheVariants.{Ptr}
use Rattle.ir_parse_operands.specs.Alignments.{aligned, align}
use Rattle.ir_parse_bodies.specs.Instructions.{loading, storing}
use Rattle.ir_parse_operands.specs.AlignmentsAt.{ALIGN, aligned_at, align_at}
use Rattle.ir_parse_bodies.specs.InstructionsAt.{loading_at, storing_at}
use Rattle.ir_parse_parts.specs.MetadataAt.{COMMA}
use Rattle.ir_parse_operands.specs.ShapeForms.{any_shape}
use Rattle.ir_parse.proofs.Exchanged.{Exchanges, alt, nothing, seq}
use Rattle.ir_parse.proofs.ExchangedAttributes.{alignment_exchanged}
use Rattle.ir_parse.proofs.ExchangedNodes.{attached_exchanged, attachments_exchanged}
use Rattle.ir_parse.proofs.ExchangedOperands.{scalar_exchanged}
use Rattle.ir_parse.proofs.ExchangedValues.{operand_exchanged, pointer_exchanged}
use Rattle.ir_parse.proofs.ExchangedWords.{align_exchanged, comma_exchanged}

pub aligned_exchanged : Exchanges aligned aligned_at
unfolding aligned aligned_at
aligned_exchanged = alt ALIGN refl (seq align_exchanged (λ _. seq alignment_exchanged (λ _. seq attachments_exchanged (λ _. nothing _)))) (seq attached_exchanged (λ _. seq attachments_exchanged (λ _. nothing _)))

pub alignment_rest_exchanged : Exchanges align align_at
unfolding align align_at
alignment_rest_exchanged = alt COMMA refl (seq comma_exchanged (λ _. aligned_exchanged)) (nothing None)

pub loading_exchanged : Exchanges (loading any_shape) loading_at
unfolding loading loading_at
loading_exchanged = seq scalar_exchanged (λ r. seq comma_exchanged (λ _. seq pointer_exchanged (λ _. seq (operand_exchanged Ptr) (λ _. seq alignment_rest_exchanged (λ _. nothing _)))))

pub storing_exchanged : Exchanges (storing any_shape) storing_at
unfolding storing storing_at
storing_exchanged = seq scalar_exchanged (λ r. seq (operand_exchanged r) (λ _. seq comma_exchanged (λ _. seq pointer_exchanged (λ _. seq (operand_exchanged Ptr) (λ _. seq alignment_rest_exchanged (λ _. nothing _))))))
