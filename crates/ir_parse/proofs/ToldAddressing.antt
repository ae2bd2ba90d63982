-- The first fault of the readers of `alloca` and `getelementptr` is of a kind that its token allows.
use Rattle.ir_parse.proofs.Told.{Tells, takes_of, first_true, seq, nothing, alt, single, value_allowed, chain, the_told, refusal_refuses, AllowedBy, never_among}
use Rattle.std.specs.Prelude.{ℕ, Bool, true, false, Err}
use Rattle.ir_lex.specs.declared.token_kind.TokenKind.TheVariants as kinds
use Rattle.ir_lex.specs.Tok.{Tok}
use Rattle.ir_tree.specs.declared.operand.Reg.TheVariants.{Ptr}
use Rattle.ir_parse_parts.specs.Alphabet.{among}
use Rattle.ir_parse_parts.specs.declared.fault.TokenFault.TheVariants.{Limit}
use Rattle.ir_parse_parts.specs.Ahead.{ALIGNED}
use Rattle.ir_parse_parts.specs.Classes.{tokens, refusal}
use Rattle.ir_parse_parts.specs.declared.raw.Operand.{Operand}
use Rattle.ir_parse_parts.specs.declared.shape.Typed.{Typed}
use Rattle.ir_parse_operands.specs.Addressing.{slots_fit, is_count, fitting_count}
use Rattle.ir_parse.proofs.ToldInstructions.{aligned_told, align_told}
use Rattle.ir_parse_parts.specs.Metadata.{META}
use Rattle.ir_parse_parts.specs.MetadataAt.{COMMA}
use Rattle.ir_parse.proofs.ToldMetadata.{attached_told}
use Rattle.ir_parse.proofs.ToldOperands.{integer_told}
use Rattle.ir_parse_operands.specs.Adding as adding
use Rattle.ir_parse_operands.specs.ShapeForms.{NUMBER}
use Rattle.ir_parse.proofs.ToldShapeForms.{memory_shape_told}
use Rattle.ir_parse.proofs.ToldValues.{pointer_told, stepping_told, operand_told, argument_told}
use Rattle.ir_parse_operands.specs.AddressingAt.{too_many, count_means, count_in_at, many_slots_at, one_slot_at, slots_behind_at, reserving_at, indexing_at, attaching_at, behind_comma_at, further_at, begins, indices_at, stepped_at, stepping_by_at, addressing_at}
use Rattle.std.proofs.Common.{Err, cond, Bool, true, false, ◌≡◌, refl}
use Rattle.ir_parse_operands.proofs.AddressingRules.{further_rule}

count_means_allowed : (fits : ℕ → Bool) (w : ℕ) (t : Tok) → AllowedBy t (count_means fits w t)
unfolding count_means
count_means_allowed fits w t = by_size (too_many fits w t) refl
  where
    by_size : (b : Bool) → too_many fits w t ≡ b → AllowedBy t (cond b (Err Limit) (is_count fits w t))
    by_size true e = never_among NUMBER refl t (first_true _ _ e)
    by_size false e = value_allowed refusal refusal_refuses NUMBER refl (fitting_count fits w) t

pub count_in_told : (fits : (ℕ → Bool)) → (w : ℕ) → Tells (count_in_at fits w)
count_in_told fits w = single (count_means fits w) (count_means_allowed fits w)

pub many_slots_told : (fits : (ℕ → Bool)) → Tells (many_slots_at fits)
unfolding many_slots_at
many_slots_told fits = seq integer_told (λ w. seq (count_in_told fits w) (λ n. seq align_told (λ a. nothing _)))

pub one_slot_told : Tells one_slot_at
unfolding one_slot_at
one_slot_told = seq aligned_told (λ a. nothing _)

pub slots_behind_told : (fits : (ℕ → Bool)) → Tells (slots_behind_at fits)
unfolding slots_behind_at
slots_behind_told fits =
    alt (among tokens COMMA) (seq (the_told kinds.Comma) (λ _. alt (among tokens ALIGNED) one_slot_told (many_slots_told fits))) (nothing _)

pub reserving_told : Tells reserving_at
unfolding reserving_at
reserving_told = seq memory_shape_told (λ typed. seq (slots_behind_told (slots_fit typed.shape)) (λ s. nothing _))

pub indexing_told : Tells indexing_at
unfolding indexing_at
indexing_told = seq argument_told (λ a. nothing _)

pub attaching_told : Tells attaching_at
unfolding attaching_at
attaching_told = seq attached_told (λ _. nothing _)

pub behind_comma_told : (x0 : Bool) → Tells (behind_comma_at x0)
behind_comma_told true = attaching_told
behind_comma_told false = alt (among tokens META) attaching_told indexing_told

pub further_told : (s : Bool) → Tells (further_at s)
unfolding further_at
further_told s = seq (the_told kinds.Comma) (λ _. behind_comma_told s)

pub indices_told : Tells indices_at
unfolding indices_at
indices_told = seq (chain adding.anywhere begins (λ s. further_told s) (λ s. takes_of (further_rule s)) false) (λ all. nothing _)

pub stepped_told : (inbounds : Bool) → (typed : Typed) → (base : Operand) → Tells (stepped_at inbounds typed base)
stepped_told inbounds typed base = seq indices_told (λ is. nothing _)

pub stepping_by_told : (inbounds : Bool) → (typed : Typed) → Tells (stepping_by_at inbounds typed)
stepping_by_told inbounds typed =
    seq (the_told kinds.Comma) (λ _. seq pointer_told (λ _. seq (operand_told Ptr) (λ base. stepped_told inbounds typed base)))

pub addressing_told : Tells addressing_at
unfolding addressing_at
addressing_told = seq stepping_told (λ inbounds. seq memory_shape_told (λ typed. stepping_by_told inbounds typed))
