-- The readers of instructions tell a token that is left out in some places where one that it stands for goes on.
use Rattle.std.proofs.Common.{refl}
use Rattle.std.specs.Prelude.{codes}
use Rattle.ir_lex.specs.declared.token_kind.TokenKind.TheVariants as kinds
use Rattle.ir_tree.specs.declared.instr.BinaryOp.{BinaryOp}
use Rattle.ir_tree.specs.declared.instr.CastOp.{CastOp}
use Rattle.ir_tree.specs.declared.instr.Flags.{Flags}
use Rattle.ir_tree.specs.declared.operand.Reg.TheVariants.{Int}
use Rattle.ir_parse_parts.specs.Ahead.{WRAPS}
use Rattle.ir_parse_parts.specs.Classes.{one_of, one_of_at}
use Rattle.ir_parse_bodies.specs.Instructions.{is_nuw, PREDICATES, predicate_of, wraps, on_two, wrapping, dividing, joining, comparing, casting, extending, narrowing, selecting, freezing}
use Rattle.ir_parse_bodies.specs.InstructionsAt.{wraps_at, on_two_at, wrapping_at, dividing_at, joining_at, comparing_at, casting_at, extending_at, narrowing_at, selecting_at, freezing_at}
use Rattle.ir_parse_operands.specs.ShapeForms.{any_shape}
use Rattle.ir_parse_bodies.proofs.InstructionRules.{wrap_rule}
use Rattle.ir_parse_parts.proofs.Singles.{word}
use Rattle.ir_parse_parts.proofs.Words.{equal_real}
use Rattle.ir_parse.proofs.Exchanged.{Exchanges, nothing, seq, star, taken}
use Rattle.ir_parse.proofs.ExchangedOperands.{bit_exchanged, integer_exchanged, maybe_disjoint_exchanged, maybe_exact_exchanged, maybe_nneg_exchanged, maybe_samesign_exchanged, reg_exchanged}
use Rattle.ir_parse.proofs.ExchangedTokens.{one_sample, plain_one}
use Rattle.ir_parse.proofs.ExchangedValues.{argument_exchanged, operand_exchanged}
use Rattle.ir_parse.proofs.ExchangedWords.{comma_exchanged, to_exchanged}

pub wrap_exchanged : Exchanges (one_of WRAPS is_nuw) (one_of_at WRAPS is_nuw)
wrap_exchanged = plain_one WRAPS is_nuw wrap_rule refl

pub wraps_exchanged : Exchanges wraps wraps_at
unfolding wraps wraps_at
wraps_exchanged = seq (star WRAPS refl wrap_exchanged (taken wrap_rule)) (λ _. nothing _)

pub on_two_exchanged : (op : BinaryOp) (f : Flags) → Exchanges (on_two any_shape op f) (on_two_at op f)
unfolding on_two on_two_at
on_two_exchanged op f = seq integer_exchanged (λ w. seq (operand_exchanged (Int w)) (λ _. seq comma_exchanged (λ _. seq (operand_exchanged (Int w)) (λ _. nothing _))))

pub wrapping_exchanged : (op : BinaryOp) → Exchanges (wrapping any_shape op) (wrapping_at op)
unfolding wrapping wrapping_at
wrapping_exchanged op = seq wraps_exchanged (λ f. on_two_exchanged op f)

pub dividing_exchanged : (op : BinaryOp) → Exchanges (dividing any_shape op) (dividing_at op)
unfolding dividing dividing_at
dividing_exchanged op = seq maybe_exact_exchanged (λ exact. on_two_exchanged op _)

pub joining_exchanged : Exchanges (joining any_shape) joining_at
unfolding joining joining_at
joining_exchanged = seq maybe_disjoint_exchanged (λ _. on_two_exchanged _ _)

pub comparing_exchanged : Exchanges (comparing any_shape) comparing_at
unfolding comparing comparing_at
comparing_exchanged = seq maybe_samesign_exchanged (λ _. seq (one_sample PREDICATES predicate_of (word kinds.Eq (codes "eq")) refl equal_real refl) (λ _. seq reg_exchanged (λ r. seq (operand_exchanged r) (λ _. seq comma_exchanged (λ _. seq (operand_exchanged r) (λ _. nothing _))))))

pub casting_exchanged : (op : CastOp) → Exchanges (casting any_shape op) (casting_at op)
unfolding casting casting_at
casting_exchanged op = seq reg_exchanged (λ from. seq (operand_exchanged from) (λ _. seq to_exchanged (λ _. seq reg_exchanged (λ _. nothing _))))

pub extending_exchanged : (op : CastOp) → Exchanges (extending any_shape op) (extending_at op)
unfolding extending extending_at
extending_exchanged op = seq maybe_nneg_exchanged (λ _. casting_exchanged op)

pub narrowing_exchanged : (op : CastOp) → Exchanges (narrowing any_shape op) (narrowing_at op)
unfolding narrowing narrowing_at
narrowing_exchanged op = seq wraps_exchanged (λ _. casting_exchanged op)

pub selecting_exchanged : Exchanges (selecting any_shape) selecting_at
unfolding selecting selecting_at
selecting_exchanged = seq bit_exchanged (λ w. seq (operand_exchanged (Int w)) (λ _. seq comma_exchanged (λ _. seq argument_exchanged (λ _. seq comma_exchanged (λ _. seq argument_exchanged (λ _. nothing _))))))

pub freezing_exchanged : Exchanges (freezing any_shape) freezing_at
unfolding freezing freezing_at
freezing_exchanged = seq reg_exchanged (λ r. seq (operand_exchanged r) (λ _. nothing _))
