-- The first fault of the readers of types, names and operands is of a kind that its token allows.
use Rattle.ir_parse.proofs.Told.{Tells, seq, nothing, alt, one, exact, valued, the_told, refusal_refuses, type_refusal_refuses, memory_refusal_refuses}
use Rattle.std.specs.Prelude.{true, [], ◌∷◌}
use Rattle.ir_lex.specs.declared.token_kind.TokenKind.{TokenKind}
use Rattle.ir_lex.specs.TokenKinds.{number}
use Rattle.ir_tree.specs.declared.operand.Reg.{Reg}
use Rattle.ir_parse_parts.specs.Alphabet.{among}
use Rattle.ir_parse_parts.specs.Classes.{tokens, refusal}
use Rattle.ir_parse_parts.specs.Operands.{INTEGER, REG, SCALAR, RESULT, LOCAL, type_refusal, memory_refusal, width, reg_of, is_bit, result_of, named, classes_of, operand_of}
use Rattle.ir_parse_parts.specs.OperandsAt.{reg_at, integer_at, bit_at, scalar_at, result_at, local_at, simple_at, maybe_at}
use Rattle.ir_parse_parts.specs.Rules.{disjoint}
use Rattle.ir_tree.specs.declared.operand.Reg.TheVariants.{Int, Ptr}
use Rattle.ir_parse.specs.Refusals.{REFUSED_EVERYWHERE}
use Rattle.std.proofs.Common.{◌≡◌, refl}

pub reg_told : Tells reg_at
reg_told = one type_refusal type_refusal_refuses REG reg_of

pub integer_told : Tells integer_at
integer_told = one type_refusal type_refusal_refuses INTEGER width

pub bit_told : Tells bit_at
bit_told = exact type_refusal type_refusal_refuses INTEGER is_bit width

pub scalar_told : Tells scalar_at
scalar_told = one memory_refusal memory_refusal_refuses SCALAR reg_of

pub result_told : Tells result_at
result_told = one type_refusal type_refusal_refuses RESULT result_of

pub local_told : Tells local_at
local_told = valued refusal refusal_refuses LOCAL refl named

classes_of_apart : (r : Reg) → disjoint (classes_of r) REFUSED_EVERYWHERE ≡ true
classes_of_apart (Int w) = refl
classes_of_apart Ptr = refl

pub simple_told : (r : Reg) → Tells (simple_at r)
simple_told r = valued refusal refusal_refuses (classes_of r) (classes_of_apart r) (operand_of r)

pub maybe_told : (word : TokenKind) → Tells (maybe_at word)
maybe_told word = alt (among tokens (number word ∷ [])) (seq (the_told word) (λ _. nothing _)) (nothing _)
