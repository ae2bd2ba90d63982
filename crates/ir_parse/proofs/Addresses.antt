-- `alloca` and `getelementptr` that the grammar spells.
use Rattle.std.proofs.Common.{ℕ, Bool, true, false, [], Option, refl}
use Rattle.std.specs.List.{AllByRecursion as Each}
use Rattle.std.specs.Prelude.{IfSome}
use Rattle.std.proofs.lemmas.List.Elements.{All-from_recursion}
use Rattle.ir_lex.specs.Tok.{Tok}
use Rattle.ir_parse_operands.specs.Addressing.{addressing, attaching, behind_comma, further, indexing, indices, keep, many_slots, one_slot, reserving, slots_behind, slots_fit}
use Rattle.ir_parse_operands.specs.ShapeForms.{memory_shape}
use Rattle.ir_parse_operands.specs.declared.addressing.Slots.{Slots}
use Rattle.ir_tree.specs.declared.operand.Reg.TheVariants.{Ptr}
use Rattle.ir_parse.specs.Written.{AlignWritten, ArgumentWritten}
use Rattle.ir_parse.proofs.Alignments.{align_written, aligned_written}
use Rattle.ir_parse.proofs.Instructions.{Named}
use Rattle.ir_parse.proofs.Means.{Means, chain_means, either_means, follow, kept_means, nothing, skip}
use Rattle.ir_parse.proofs.Operands.{argument_written, operand_written}
use Rattle.ir_parse.proofs.Shapes.{shape_written}

-- ---- alloca

abbrev SlotsWritten : Slots → Type 0
SlotsWritten s = AlignWritten s.align

many_written : (fits : ℕ → Bool) → Means (many_slots fits) SlotsWritten
unfolding many_slots
many_written fits = skip _ (λ w. skip _ (λ n. follow align_written (λ a h. nothing h)))

one_written : Means one_slot SlotsWritten
unfolding one_slot
one_written = follow aligned_written (λ a h. nothing h)

slots_written : (fits : ℕ → Bool) → Means (slots_behind fits) SlotsWritten
unfolding slots_behind
slots_written fits = either_means (skip _ (λ _. either_means one_written (many_written fits))) (nothing tt)

pub reserving_written : (name : Option Tok) → Means (reserving slots_fit memory_shape) (Named name)
unfolding reserving
reserving_written name = follow shape_written (λ typed h. follow (slots_written (slots_fit typed.shape)) (λ s g. nothing ((h, g), tt)))

-- ---- getelementptr

attaching_written : Means attaching (λ x. IfSome x.0 ArgumentWritten)
unfolding attaching
attaching_written = skip _ (λ _. nothing tt)

indexing_written : Means (indexing memory_shape) (λ x. IfSome x.0 ArgumentWritten)
unfolding indexing
indexing_written = follow (argument_written memory_shape) (λ a h. nothing h)

behind_comma_written : (s : Bool) → Means (behind_comma memory_shape s) (λ x. IfSome x.0 ArgumentWritten)
behind_comma_written true = attaching_written
behind_comma_written false = either_means attaching_written indexing_written

further_written : (s : Bool) → Means (further memory_shape s) (λ x. IfSome x.0 ArgumentWritten)
unfolding further
further_written s = skip _ (λ _. behind_comma_written s)

indices_written : Means (indices memory_shape) (Each ArgumentWritten)
unfolding indices
indices_written =
    follow (chain_means {P = λ o. IfSome o ArgumentWritten} false further_written) (λ all h. nothing (kept_means ArgumentWritten keep (λ _. refl) (λ _ _. refl) [] all tt h))

pub addressing_written : (name : Option Tok) → Means (addressing memory_shape) (Named name)
unfolding addressing
addressing_written name =
    skip _ (λ inbounds.
    follow shape_written (λ typed h.
    skip _ (λ _. skip _ (λ _. follow (operand_written memory_shape Ptr tt) (λ base g. follow indices_written (λ is k. nothing ((h, g, All-from_recursion ArgumentWritten is k), tt)))))))
