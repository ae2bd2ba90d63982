-- The first fault of the readers of instructions is of a kind that its token allows.
use Rattle.ir_parse.proofs.Told.{Tells, seq, nothing, alt, star, single, one, the_told, one_told, is_alignment_allowed}
use Rattle.std.specs.Prelude.{false}
use Rattle.ir_lex.specs.declared.token_kind.TokenKind.TheVariants as kinds
use Rattle.ir_tree.specs.declared.instr.BinaryOp.{BinaryOp}
use Rattle.ir_tree.specs.declared.instr.BinaryOp.TheVariants as ops
use Rattle.ir_tree.specs.declared.instr.CastOp.{CastOp}
use Rattle.ir_tree.specs.declared.instr.Flags.{Flags}
use Rattle.ir_tree.specs.declared.operand.Reg.{Reg}
use Rattle.ir_tree.specs.declared.operand.Reg.TheVariants.{Int, Ptr}
use Rattle.ir_parse_parts.specs.Alphabet.{among}
use Rattle.ir_parse_parts.specs.Ahead.{WRAPS}
use Rattle.ir_parse_parts.specs.Classes.{tokens}
use Rattle.ir_parse_parts.specs.Decimals.{is_alignment}
use Rattle.ir_parse_parts.specs.declared.raw.Argument.{Argument}
use Rattle.ir_parse_parts.specs.declared.raw.Operand.{Operand}
use Rattle.ir_parse_bodies.specs.Instructions.{is_nuw, flags, no_flags, PREDICATES, predicate_of}
use Rattle.ir_parse_parts.specs.MetadataAt.{COMMA}
use Rattle.ir_parse.proofs.ToldMetadata.{attached_told, attachments_told}
use Rattle.ir_parse.proofs.ToldOperands.{reg_told, integer_told, bit_told, scalar_told, maybe_told}
use Rattle.ir_parse.proofs.ToldValues.{pointer_told, operand_told, argument_told}
use Rattle.ir_parse_operands.specs.AlignmentsAt.{ALIGN, aligned_at, align_at}
use Rattle.ir_parse_bodies.specs.InstructionsAt.{wraps_at, on_two_at, wrapping_at, dividing_at, joining_at, comparing_at, casting_at, extending_at, narrowing_at, other_at, arms_at, selecting_at, freezing_at, loading_at, stored_at, storing_to_at, storing_at}
use Rattle.std.proofs.Common.{refl}

pub wraps_told : Tells wraps_at
unfolding wraps_at
wraps_told = seq (star WRAPS refl (one_told WRAPS is_nuw)) (λ fs. nothing _)

pub on_two_told : (op : BinaryOp) → (f : Flags) → Tells (on_two_at op f)
unfolding on_two_at
on_two_told op f =
    seq integer_told (λ w. seq (operand_told (Int w)) (λ left. seq (the_told kinds.Comma) (λ _. seq (operand_told (Int w)) (λ right. nothing _))))

pub wrapping_told : (op : BinaryOp) → Tells (wrapping_at op)
unfolding wrapping_at
wrapping_told op = seq wraps_told (λ f. on_two_told op f)

pub dividing_told : (op : BinaryOp) → Tells (dividing_at op)
unfolding dividing_at
dividing_told op = seq (maybe_told kinds.Exact) (λ exact. on_two_told op (flags false false exact))

pub joining_told : Tells joining_at
unfolding joining_at
joining_told = seq (maybe_told kinds.Disjoint) (λ _. on_two_told ops.Or no_flags)

pub comparing_told : Tells comparing_at
unfolding comparing_at
comparing_told =
    seq (maybe_told kinds.Samesign) (λ _. seq (one_told PREDICATES predicate_of) (λ p. seq reg_told (λ r. seq (operand_told r) (λ left. seq (the_told kinds.Comma) (λ _. seq (operand_told r) (λ right. nothing _))))))

pub casting_told : (op : CastOp) → Tells (casting_at op)
unfolding casting_at
casting_told op = seq reg_told (λ from. seq (operand_told from) (λ value. seq (the_told kinds.To) (λ _. seq reg_told (λ to. nothing _))))

pub extending_told : (op : CastOp) → Tells (extending_at op)
unfolding extending_at
extending_told op = seq (maybe_told kinds.Nneg) (λ _. casting_told op)

pub narrowing_told : (op : CastOp) → Tells (narrowing_at op)
unfolding narrowing_at
narrowing_told op = seq wraps_told (λ _. casting_told op)

pub other_told : (condition : Operand) → (one : Argument) → Tells (other_at condition one)
other_told condition one = seq (the_told kinds.Comma) (λ _. seq argument_told (λ other. nothing _))

pub arms_told : (condition : Operand) → Tells (arms_at condition)
arms_told condition = seq (the_told kinds.Comma) (λ _. seq argument_told (λ one. other_told condition one))

pub selecting_told : Tells selecting_at
unfolding selecting_at
selecting_told = seq bit_told (λ w. seq (operand_told (Int w)) (λ condition. arms_told condition))

pub freezing_told : Tells freezing_at
unfolding freezing_at
freezing_told = seq reg_told (λ r. seq (operand_told r) (λ value. nothing _))

pub aligned_told : Tells aligned_at
unfolding aligned_at
aligned_told =
    alt (among tokens ALIGN) (seq (the_told kinds.Align) (λ _. seq (single is_alignment is_alignment_allowed) (λ n. seq attachments_told (λ _. nothing _)))) (seq attached_told (λ _. seq attachments_told (λ _. nothing _)))

pub align_told : Tells align_at
unfolding align_at
align_told = alt (among tokens COMMA) (seq (the_told kinds.Comma) (λ _. aligned_told)) (nothing _)

pub loading_told : Tells loading_at
unfolding loading_at
loading_told =
    seq scalar_told (λ r. seq (the_told kinds.Comma) (λ _. seq pointer_told (λ _. seq (operand_told Ptr) (λ address. seq align_told (λ n. nothing _)))))

pub stored_told : (r : Reg) → (value : Operand) → (address : Operand) → Tells (stored_at r value address)
stored_told r value address = seq align_told (λ n. nothing _)

pub storing_to_told : (r : Reg) → (value : Operand) → Tells (storing_to_at r value)
storing_to_told r value = seq (the_told kinds.Comma) (λ _. seq pointer_told (λ _. seq (operand_told Ptr) (λ address. stored_told r value address)))

pub storing_told : Tells storing_at
unfolding storing_at
storing_told = seq scalar_told (λ r. seq (operand_told r) (λ value. storing_to_told r value))
