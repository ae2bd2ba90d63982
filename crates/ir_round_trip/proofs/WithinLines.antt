-- Lines that the grammar spells: an `alloca` reserves fewer than 2^64 shapes, a phi has an entry, and constants are of the types
-- that stand before them.
use Rattle.std.proofs.Common.{◌≡◌, ℕ, ◌≤◌, max, min, Bool, true, false, if◌then◌else◌, drop, Option, Some, None, subst, arith}
use Rattle.std.specs.Prelude.{IfSome}
use Rattle.ir_parse_bodies.specs.Calls.{tail_calling}
use Rattle.ir_parse_bodies.specs.Lines.{attended, behind, kept, line, line_behind, lined, named_line, operation, plain_line}
use Rattle.ir_parse_bodies.specs.declared.opcodes.Opcode.{Opcode}
use Rattle.ir_parse_bodies.specs.declared.opcodes.Opcode.TheVariants as opcodes
use Rattle.ir_parse_bodies.specs.declared.opcodes.Operation.{Operation}
use Rattle.ir_parse_bodies.specs.declared.opcodes.Operation.TheVariants as operations
use Rattle.ir_lex.specs.TokenKinds.{width_of}
use Rattle.ir_lex.specs.Tok.{Tok}
use Rattle.ir_parse_operands.specs.Addressing.{slots_fit, fitting, many_slots, one_slot, reserving, slots_behind}
use Rattle.ir_parse_bodies.specs.Instructions as instr
use Rattle.ir_parse_parts.specs.Operands.{width}
use Rattle.ir_parse_operands.specs.ShapeForms.{memory_shape, count_of}
use Rattle.ir_parse_operands.specs.declared.addressing.Slots.{Slots}
use Rattle.ir_parse_parts.specs.declared.raw.Instr.{Instr}
use Rattle.ir_tree.specs.declared.instr.BinaryOp.{BinaryOp}
use Rattle.ir_tree.specs.declared.instr.BinaryOp.TheVariants as ops
use Rattle.ir_tree.specs.declared.instr.CastOp.{CastOp}
use Rattle.ir_tree.specs.declared.instr.CastOp.TheVariants as casts
use Rattle.ir_tree.specs.declared.instr.Flags.{Flags}
use Rattle.ir_tree.specs.declared.operand.Reg.TheVariants.{Int, Ptr}
use Rattle.ir_parse_parts.specs.Forms.{Form}
use Rattle.ir_round_trip.specs.Spelled.{InstrSpelled, IsCount, LineSpelled, OperandSpelled}
use Rattle.ir_round_trip.proofs.Means.{Means, among_means, either_means, follow, nothing, skip, valued_means}
use Rattle.ir_round_trip.proofs.Addresses.{addressing_spelled}
use Rattle.ir_round_trip.proofs.WithinCalls.{IfSpelled, calling_spelled}
use Rattle.ir_round_trip.proofs.WithinOperands.{argument_spelled, bit_is, operand_spelled}
use Rattle.ir_round_trip.proofs.WithinPhis.{phi_spelled}
use Rattle.ir_round_trip.proofs.WithinShapes.{counted_fits, shape_counted}

-- ---- instructions

-- so many shapes
abbrev SlotsCounted : Slots → Type 0
SlotsCounted s = IsCount s.count

one_count : IsCount 1
one_count = omega arith

width_narrow : (t : Tok) → width t ≤ 64
width_narrow t = by (width_of (drop 1 t.text))
  where
    by : (n : ℕ) → min 64 (max 1 n) ≤ 64
    by n = omega arith

fitting_is : (fits : ℕ → Bool) (o : Option ℕ) (n : ℕ) → fitting fits o ≡ Some n → o ≡ Some n
fitting_is fits None n e = absurd cc
fitting_is fits (Some m) n e = by (fits m) e
  where
    by : (b : Bool) → (if b then Some m else None) ≡ Some n → Some m ≡ Some n
    by true d = d
    by false d = absurd cc

wide_narrow : (w : ℕ) → w ≤ 64 → max 1 w ≤ 64
wide_narrow w le = omega (arith, le)

slots_counted : (fits : ℕ → Bool) → Means (slots_behind fits) SlotsCounted
unfolding slots_behind many_slots one_slot
slots_counted fits =
    either_means
    (skip _ (λ _.
    either_means (skip _ (λ a. nothing one_count))
    (follow {P = λ w. w ≤ 64} (among_means _ _ _ (λ t s c. width_narrow t)) (λ w le. follow {P = IsCount} (valued_means _ _ (λ t n s e. counted_fits (max 1 w) (wide_narrow w le) t.text n (fitting_is fits (count_of (max 1 w) t) n e))) (λ n c. skip _ (λ a. nothing c))))))
    (nothing one_count)

reserving_spelled : Means (reserving slots_fit memory_shape) InstrSpelled
unfolding reserving
reserving_spelled = follow shape_counted (λ typed h. follow (slots_counted (slots_fit typed.shape)) (λ s g. nothing (h, g)))

on_two_spelled : (op : BinaryOp) (f : Flags) → Means (instr.on_two memory_shape op f) InstrSpelled
unfolding instr.on_two
on_two_spelled op f = skip _ (λ w. follow (operand_spelled (Int w)) (λ left g. skip _ (λ _. follow (operand_spelled (Int w)) (λ right k. nothing (g, k)))))

casting_spelled : (op : CastOp) → Means (instr.casting memory_shape op) InstrSpelled
unfolding instr.casting
casting_spelled op = skip _ (λ from. follow (operand_spelled from) (λ value g. skip _ (λ _. skip _ (λ to. nothing g))))

operation_spelled : (o : Operation) → Means (operation memory_shape o) InstrSpelled
unfolding instr.wrapping instr.dividing instr.joining instr.comparing instr.extending instr.narrowing instr.selecting instr.freezing
operation_spelled (operations.Wrapping op) = skip _ (λ f. on_two_spelled op f)
operation_spelled (operations.Dividing op) = skip _ (λ exact. on_two_spelled op (instr.flags false false exact))
operation_spelled (operations.Plain op) = on_two_spelled op instr.no_flags
operation_spelled operations.Or = skip _ (λ _. on_two_spelled ops.Or instr.no_flags)
operation_spelled operations.Icmp = skip _ (λ _. skip _ (λ p. skip _ (λ r. follow (operand_spelled r) (λ left g. skip _ (λ _. follow (operand_spelled r) (λ right k. nothing (g, k)))))))
operation_spelled operations.Zext = skip _ (λ _. casting_spelled casts.Zext)
operation_spelled operations.Sext = casting_spelled casts.Sext
operation_spelled operations.Trunc = skip _ (λ _. casting_spelled casts.Trunc)
operation_spelled operations.Select =
    follow bit_is (λ w one.
    follow (operand_spelled (Int w)) (λ condition g.
    skip _ (λ _. follow argument_spelled (λ if_true k. skip _ (λ _. follow argument_spelled (λ if_false l. nothing (subst (λ (n : ℕ). OperandSpelled (Int n) condition) one g, k, l)))))))
operation_spelled operations.Freeze = skip _ (λ r. follow (operand_spelled r) (λ value g. nothing g))

kept_spelled : {g : Form Tok Instr} → Means g InstrSpelled → Means (kept g) IfSpelled
unfolding kept
kept_spelled h = follow h (λ i k. nothing k)

behind_spelled : (named : Bool) (o : Opcode) → Means (behind slots_fit memory_shape named o) IfSpelled
unfolding attended tail_calling instr.loading instr.storing
behind_spelled named (opcodes.Value o) = follow (operation_spelled o) (λ i k. skip _ (λ _. nothing k))
behind_spelled named opcodes.Phi = kept_spelled phi_spelled
behind_spelled named opcodes.Alloca = kept_spelled reserving_spelled
behind_spelled named opcodes.Load = kept_spelled (skip _ (λ r. skip _ (λ _. skip _ (λ _. follow (operand_spelled Ptr) (λ address g. skip _ (λ n. nothing g))))))
behind_spelled named opcodes.GetElementPtr = kept_spelled addressing_spelled
behind_spelled named opcodes.Store =
    kept_spelled (skip _ (λ r. follow (operand_spelled r) (λ value g. skip _ (λ _. skip _ (λ _. follow (operand_spelled Ptr) (λ address k. skip _ (λ n. nothing (g, k))))))))
behind_spelled named opcodes.Tail = skip _ (λ _. calling_spelled named)
behind_spelled named opcodes.Call = calling_spelled named

-- ---- lines

lined_spelled : (name : Option Tok) (line : ℕ) (i : Option Instr) → IfSpelled i → IfSome (lined name line i) LineSpelled
lined_spelled name line None h = tt
lined_spelled name line (Some i) h = h

pub line_spelled : (name : Form Tok Tok) → Means (line name slots_fit memory_shape) (λ l. IfSome l LineSpelled)
unfolding line named_line line_behind plain_line
line_spelled name =
    either_means (skip _ (λ n. skip _ (λ _. skip _ (λ o. follow (behind_spelled true o) (λ i g. nothing (lined_spelled (Some n) n.line i g))))))
    (skip _ (λ b. follow (behind_spelled false b.opcode) (λ i g. nothing (lined_spelled None b.line i g))))
