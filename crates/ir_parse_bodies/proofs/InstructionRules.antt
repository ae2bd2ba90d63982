-- The readers of instructions on integers and on any values read them.
use Rattle.std.proofs.Common.{true, false, [], ◌∷◌, refl}
use Rattle.std.specs.Prelude.{codes}
use Rattle.ir_lex.specs.declared.token_kind.TokenKind.TheVariants as kinds
use Rattle.ir_lex.specs.TokenKinds.{number}
use Rattle.ir_tree.specs.declared.instr.BinaryOp.{BinaryOp}
use Rattle.ir_tree.specs.declared.instr.CastOp.{CastOp}
use Rattle.ir_tree.specs.declared.instr.Flags.{Flags}
use Rattle.ir_tree.specs.declared.operand.Reg.TheVariants.{Int}
use Rattle.ir_parse_parts.specs.Rules.{Rule}
use Rattle.ir_parse_parts.proofs.Rules as rules
use Rattle.ir_parse_parts.specs.Ahead.{WRAPS}
use Rattle.ir_parse_parts.specs.Classes.{tokens, one_of, one_of_at}
use Rattle.ir_parse_bodies.specs.Instructions.{is_nuw, PREDICATES, predicate_of, wraps, on_two, wrapping, dividing, joining, comparing, casting, extending, narrowing, selecting, freezing}
use Rattle.ir_parse_bodies.specs.InstructionsAt.{wraps_at, on_two_at, wrapping_at, dividing_at, joining_at, comparing_at, casting_at, extending_at, narrowing_at, selecting_at, freezing_at}
use Rattle.ir_parse_parts.specs.Operands.{INTEGER, REG}
use Rattle.ir_parse_operands.specs.ShapeForms.{any_shape, memory_shape}
use Rattle.ir_parse_parts.proofs.Singles.{word, one_rule, one_opens, comma_rule}
use Rattle.ir_parse_parts.proofs.OperandRules.{reg_rule, integer_rule, bit_rule, maybe_exact_rule, maybe_disjoint_rule, maybe_samesign_rule, maybe_nneg_rule}
use Rattle.ir_parse_operands.proofs.ValueRules.{operand_rule, argument_rule}
use Rattle.ir_parse_parts.proofs.Words.{no_wrap_real, equal_real, to_rule}

-- ---- flags

pub wrap_rule : Rule tokens (one_of WRAPS is_nuw) (one_of WRAPS is_nuw) (one_of_at WRAPS is_nuw) WRAPS [] false
wrap_rule = one_rule WRAPS is_nuw (word kinds.Nuw (codes "nuw")) refl no_wrap_real

pub wraps_rule : Rule tokens wraps wraps wraps_at WRAPS WRAPS true
unfolding wraps wraps_at
wraps_rule = rules.seq tokens (rules.star tokens WRAPS wrap_rule (one_opens WRAPS is_nuw) refl refl) (λ _. rules.nothing tokens _) refl

-- ---- on integers

pub on_two_rule : (op : BinaryOp) (f : Flags) → Rule tokens (on_two memory_shape op f) (on_two any_shape op f) (on_two_at op f) INTEGER [] false
unfolding on_two on_two_at
on_two_rule op f = rules.seq tokens integer_rule (λ w. rules.seq tokens (operand_rule (Int w)) (λ _. rules.seq tokens comma_rule (λ _. rules.seq tokens (operand_rule (Int w)) (λ _. rules.nothing tokens _) refl) refl) refl) refl

pub wrapping_rule : (op : BinaryOp) → Rule tokens (wrapping memory_shape op) (wrapping any_shape op) (wrapping_at op) (number kinds.Nuw ∷ number kinds.Nsw ∷ INTEGER) [] false
unfolding wrapping wrapping_at
wrapping_rule op = rules.seq tokens wraps_rule (λ f. on_two_rule op f) refl

pub dividing_rule : (op : BinaryOp) → Rule tokens (dividing memory_shape op) (dividing any_shape op) (dividing_at op) (number kinds.Exact ∷ INTEGER) [] false
unfolding dividing dividing_at
dividing_rule op = rules.seq tokens maybe_exact_rule (λ exact. on_two_rule op _) refl

pub joining_rule : Rule tokens (joining memory_shape) (joining any_shape) joining_at (number kinds.Disjoint ∷ INTEGER) [] false
unfolding joining joining_at
joining_rule = rules.seq tokens maybe_disjoint_rule (λ _. on_two_rule _ _) refl

pub comparing_rule : Rule tokens (comparing memory_shape) (comparing any_shape) comparing_at (number kinds.Samesign ∷ PREDICATES) [] false
unfolding comparing comparing_at
comparing_rule = rules.seq tokens maybe_samesign_rule
    (λ _. rules.seq tokens (one_rule PREDICATES predicate_of (word kinds.Eq (codes "eq")) refl equal_real) (λ _. rules.seq tokens reg_rule (λ r. rules.seq tokens (operand_rule r) (λ _. rules.seq tokens comma_rule (λ _. rules.seq tokens (operand_rule r) (λ _. rules.nothing tokens _) refl) refl) refl) refl) refl)
    refl

pub casting_rule : (op : CastOp) → Rule tokens (casting memory_shape op) (casting any_shape op) (casting_at op) REG [] false
unfolding casting casting_at
casting_rule op = rules.seq tokens reg_rule (λ from. rules.seq tokens (operand_rule from) (λ _. rules.seq tokens to_rule (λ _. rules.seq tokens reg_rule (λ _. rules.nothing tokens _) refl) refl) refl) refl

pub extending_rule : (op : CastOp) → Rule tokens (extending memory_shape op) (extending any_shape op) (extending_at op) (number kinds.Nneg ∷ REG) [] false
unfolding extending extending_at
extending_rule op = rules.seq tokens maybe_nneg_rule (λ _. casting_rule op) refl

pub narrowing_rule : (op : CastOp) → Rule tokens (narrowing memory_shape op) (narrowing any_shape op) (narrowing_at op) (number kinds.Nuw ∷ number kinds.Nsw ∷ REG) [] false
unfolding narrowing narrowing_at
narrowing_rule op = rules.seq tokens wraps_rule (λ _. casting_rule op) refl

-- ---- on any values

pub selecting_rule : Rule tokens (selecting memory_shape) (selecting any_shape) selecting_at INTEGER [] false
unfolding selecting selecting_at
selecting_rule = rules.seq tokens bit_rule
    (λ w. rules.seq tokens (operand_rule (Int w)) (λ _. rules.seq tokens comma_rule (λ _. rules.seq tokens argument_rule (λ _. rules.seq tokens comma_rule (λ _. rules.seq tokens argument_rule (λ _. rules.nothing tokens _) refl) refl) refl) refl) refl)
    refl

pub freezing_rule : Rule tokens (freezing memory_shape) (freezing any_shape) freezing_at REG [] false
unfolding freezing freezing_at
freezing_rule = rules.seq tokens reg_rule (λ r. rules.seq tokens (operand_rule r) (λ _. rules.nothing tokens _) refl) refl
