-- `getelementptr` that the grammar spells: counts of its shape, and constants among its base and its indices.
use Rattle.std.proofs.Common.{Bool, true, false, [], refl}
use Rattle.std.specs.List.{AllByRecursion as Each}
use Rattle.std.specs.Prelude.{IfSome}
use Rattle.ir_parse_operands.specs.Addressing.{addressing, attaching, behind_comma, further, indexing, indices, keep}
use Rattle.ir_parse_operands.specs.ShapeForms.{memory_shape}
use Rattle.ir_tree.specs.declared.operand.Reg.TheVariants.{Ptr}
use Rattle.ir_round_trip.specs.Spelled.{ArgumentSpelled, InstrSpelled}
use Rattle.ir_round_trip.proofs.Means.{Means, chain_means, either_means, follow, kept_means, nothing, skip}
use Rattle.ir_round_trip.proofs.WithinOperands.{argument_spelled, operand_spelled}
use Rattle.ir_round_trip.proofs.WithinShapes.{shape_counted}

attaching_spelled : Means attaching (λ x. IfSome x.0 ArgumentSpelled)
unfolding attaching
attaching_spelled = skip _ (λ _. nothing tt)

indexing_spelled : Means (indexing memory_shape) (λ x. IfSome x.0 ArgumentSpelled)
unfolding indexing
indexing_spelled = follow argument_spelled (λ a h. nothing h)

behind_comma_spelled : (s : Bool) → Means (behind_comma memory_shape s) (λ x. IfSome x.0 ArgumentSpelled)
behind_comma_spelled true = attaching_spelled
behind_comma_spelled false = either_means attaching_spelled indexing_spelled

further_spelled : (s : Bool) → Means (further memory_shape s) (λ x. IfSome x.0 ArgumentSpelled)
unfolding further
further_spelled s = skip _ (λ _. behind_comma_spelled s)

indices_spelled : Means (indices memory_shape) (Each ArgumentSpelled)
unfolding indices
indices_spelled =
    follow (chain_means {P = λ o. IfSome o ArgumentSpelled} false further_spelled) (λ all h. nothing (kept_means ArgumentSpelled keep (λ _. refl) (λ _ _. refl) [] all tt h))

pub addressing_spelled : Means (addressing memory_shape) InstrSpelled
unfolding addressing
addressing_spelled =
    skip _ (λ inbounds. follow shape_counted (λ typed h. skip _ (λ _. skip _ (λ _. follow (operand_spelled Ptr) (λ base g. follow indices_spelled (λ is k. nothing (h, g, k)))))))
