-- The readers of types, names and operands tell a token that is left out in some places where one that it stands for goes on.
use Rattle.std.proofs.Common.{◌≡◌, nat_eq, Bool, true, false, ◌||◌, [], ◌∷◌, refl}
use Rattle.std.specs.Prelude.{codes}
use Rattle.ir_lex.specs.TokenKinds.{number}
use Rattle.ir_lex.specs.Tok.{Tok}
use Rattle.ir_lex.specs.declared.token_kind.TokenKind.TheVariants as kinds
use Rattle.ir_tree.specs.declared.operand.Reg.TheVariants.{Int, Ptr}
use Rattle.ir_tree.specs.declared.operand.Reg.{Reg}
use Rattle.ir_parse_parts.specs.Alphabet.{among}
use Rattle.ir_parse_parts.specs.Classes.{tokens}
use Rattle.ir_parse_parts.specs.Operands.{INTEGER, REG, SCALAR, RESULT, LOCAL, NUMBER_OPERAND, POINTER_OPERAND, width, reg_of, is_bit, result_of, reg, integer, bit, scalar, result, named, local, operand_of, simple, maybe}
use Rattle.ir_parse_parts.specs.OperandsAt.{reg_at, integer_at, bit_at, scalar_at, result_at, local_at, simple_at, maybe_at}
use Rattle.ir_parse_parts.proofs.OperandRules.{reg_rule, integer_rule, bit_rule, scalar_rule, result_rule, local_rule, simple_rule}
use Rattle.ir_parse_parts.proofs.Singles.{word}
use Rattle.ir_parse_parts.proofs.Words.{int_32_real, int_1_real}
use Rattle.ir_parse.specs.Refusals.{MEMORY}
use Rattle.ir_parse.proofs.Exchanged.{Exchanges, alt, nothing, seq}
use Rattle.ir_parse.proofs.ExchangedTokens.{exact_type, i8_real, memory_one, plain_valued, type_one}
use Rattle.ir_parse.proofs.ExchangedWords.{disjoint_exchanged, exact_exchanged, nneg_exchanged, samesign_exchanged}

abbrev i8 : Tok
i8 = word kinds.MemoryInteger (codes "i8")

abbrev i32 : Tok
i32 = word kinds.MemoryInteger (codes "i32")

pub reg_exchanged : Exchanges reg reg_at
reg_exchanged = type_one REG reg_of reg_rule refl refl i32 refl int_32_real refl

pub integer_exchanged : Exchanges integer integer_at
integer_exchanged = type_one INTEGER width integer_rule refl refl i32 refl int_32_real refl

pub bit_exchanged : Exchanges bit bit_at
bit_exchanged = exact_type INTEGER is_bit width refl (word kinds.RegisterInteger (codes "i1")) refl refl refl int_1_real i8 refl refl i8_real bit_rule

pub scalar_exchanged : Exchanges scalar scalar_at
scalar_exchanged = memory_one SCALAR reg_of scalar_rule refl refl i32 refl int_32_real refl (λ v i. scalar_too v i)
  where
    scalar_too : (v : Tok) → among tokens MEMORY v ≡ true → among tokens SCALAR v ≡ true
    scalar_too v i = by_test (nat_eq (number v.kind) (number kinds.MemoryInteger)) (nat_eq (number v.kind) (number kinds.Ptr)) i
      where
        by_test : (b c : Bool) → b || false ≡ true → b || (c || false) ≡ true
        by_test true c h = refl
        by_test false c h = absurd cc

pub result_exchanged : Exchanges result result_at
result_exchanged = type_one RESULT result_of result_rule refl refl i32 refl int_32_real refl

pub local_exchanged : Exchanges local local_at
local_exchanged = plain_valued LOCAL named local_rule refl

pub simple_exchanged : (r : Reg) → Exchanges (simple r) (simple_at r)
simple_exchanged (Int w) = plain_valued NUMBER_OPERAND (operand_of (Int w)) (simple_rule (Int w)) refl
simple_exchanged Ptr = plain_valued POINTER_OPERAND (operand_of Ptr) (simple_rule Ptr) refl

pub maybe_exact_exchanged : Exchanges (maybe kinds.Exact) (maybe_at kinds.Exact)
maybe_exact_exchanged = alt (number kinds.Exact ∷ []) refl (seq exact_exchanged (λ _. nothing true)) (nothing false)

pub maybe_disjoint_exchanged : Exchanges (maybe kinds.Disjoint) (maybe_at kinds.Disjoint)
maybe_disjoint_exchanged = alt (number kinds.Disjoint ∷ []) refl (seq disjoint_exchanged (λ _. nothing true)) (nothing false)

pub maybe_samesign_exchanged : Exchanges (maybe kinds.Samesign) (maybe_at kinds.Samesign)
maybe_samesign_exchanged = alt (number kinds.Samesign ∷ []) refl (seq samesign_exchanged (λ _. nothing true)) (nothing false)

pub maybe_nneg_exchanged : Exchanges (maybe kinds.Nneg) (maybe_at kinds.Nneg)
maybe_nneg_exchanged = alt (number kinds.Nneg ∷ []) refl (seq nneg_exchanged (λ _. nothing true)) (nothing false)
