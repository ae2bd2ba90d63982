-- Operands and arguments that the grammar spells are of the types that stand before them.
use Rattle.std.proofs.Common.{◌≡◌, ◌∙◌, ℕ, ◌&&◌, true, inl, inr, Option, Some, None, option_map, Ok, refl, sym, subst}
use Rattle.std.proofs.lemmas.Bool.{and_parts, eqb-true}
use Rattle.ir_lex.specs.TokenKinds.{number}
use Rattle.ir_lex.specs.Tok.{Tok}
use Rattle.ir_lex.specs.declared.token_kind.TokenKind.{TokenKind}
use Rattle.ir_lex.specs.declared.token_kind.TokenKind.TheVariants as kinds
use Rattle.ir_parse_parts.specs.Alphabet.{contains}
use Rattle.ir_parse_parts.specs.Rules.{is_exact}
use Rattle.ir_parse_parts.specs.Literals.{literal}
use Rattle.ir_parse_parts.specs.Operands.{INTEGER, bit, bits_of, is_bit, named, operand_by, simple, type_refusal, width}
use Rattle.ir_parse_operands.specs.ShapeForms.{memory_shape}
use Rattle.ir_parse_operands.specs.Values.{address, address_behind, argument, operand, reached, steps}
use Rattle.ir_parse_parts.specs.declared.address.Steps.{Steps}
use Rattle.ir_parse_parts.specs.declared.raw.Operand.{Operand}
use Rattle.ir_parse_parts.specs.declared.raw.Operand.TheVariants as operands
use Rattle.ir_tree.specs.declared.operand.Reg.{Reg}
use Rattle.ir_tree.specs.declared.operand.Reg.TheVariants.{Int, Ptr}
use Rattle.ir_round_trip.specs.Spelled.{ArgumentSpelled, OperandSpelled}
use Rattle.ir_round_trip.proofs.Means.{Means, either_means, follow, nothing, skip, token_means, valued_means}
use Rattle.ir_parse.proofs.Means.{accepted}

-- ---- i1

pub bit_is : Means bit (λ w. w ≡ 1)
unfolding is_exact
bit_is =
    token_means (λ t w s h.
    let yes = accepted (contains INTEGER (number t.kind) && is_bit t) (Ok (width t)) (type_refusal (number t.kind)) w h in
    let same : width t ≡ w = cc (yes.1) in sym same ∙ eqb-true (width t) 1 (and_parts (contains INTEGER (number t.kind)) (is_bit t) yes.0).1)

-- ---- operands

-- a literal of this width
pub from_literal : {A : Type 0} (make : ℕ → A) (P : A → Type 0) → ((n : ℕ) → P (make n)) → (n : Option ℕ) (a : A) → option_map make n ≡ Some a → P a
from_literal make P h None a e = absurd cc
from_literal make P h (Some n) a e = let same : make n ≡ a = cc in subst P same (h n)

bits_spelled : (r : Reg) (t : Tok) (o : Operand) → bits_of r t ≡ Some o → OperandSpelled r o
bits_spelled (Int w) t o e = from_literal (operands.Number w) (OperandSpelled (Int w)) (λ n. inr refl) (literal w t.text) o e
bits_spelled Ptr t o e = absurd cc

local_spelled : (r : Reg) (t : Option Tok) (o : Operand) → option_map operands.Local t ≡ Some o → OperandSpelled r o
local_spelled r None o e = absurd cc
local_spelled r (Some t) o e = let same : operands.Local t ≡ o = cc in subst (OperandSpelled r) same tt

global_spelled : (r : Reg) (t : Option Tok) (o : Operand) → option_map operands.Global t ≡ Some o → OperandSpelled r o
global_spelled r None o e = absurd cc
global_spelled r (Some t) o e = let same : operands.Global t ≡ o = cc in subst (OperandSpelled r) same tt

by_class : (head : TokenKind) (r : Reg) (t : Tok) (o : Operand) → operand_by head r t ≡ Some o → OperandSpelled r o
by_class kinds.Number r t o e = bits_spelled r t o e
by_class kinds.Local r t o e = local_spelled r (named t) o e
by_class kinds.True r t o e = let same : operands.Number 1 1 ≡ o = cc in subst (OperandSpelled r) same (inl refl)
by_class kinds.False r t o e = let same : operands.Number 1 0 ≡ o = cc in subst (OperandSpelled r) same (inl refl)
by_class kinds.Null r t o e = let same : operands.Null ≡ o = cc in subst (OperandSpelled r) same tt
by_class kinds.Poison r t o e = let same : operands.Poison r ≡ o = cc in subst (OperandSpelled r) same refl
by_class kinds.Global r t o e = let same : operands.Global t ≡ o = cc in subst (OperandSpelled r) same tt
by_class kinds.NumberedGlobal r t o e = global_spelled r (named t) o e
by_class kinds.NumberedDefinition r t o e = global_spelled r (named t) o e
by_class head r t o e = absurd cc

pub token_spelled : (r : Reg) (t : Tok) (o : Operand) → operand_by t.kind r t ≡ Some o → OperandSpelled r o
token_spelled r t o e = by_class t.kind r t o e

simple_spelled : (r : Reg) → Means (simple r) (OperandSpelled r)
simple_spelled r = valued_means _ _ (λ t o s e. token_spelled r t o e)

pub address_means : {P : Operand → Type 0} → ((s : Steps) → P (operands.Address s)) → Means (address memory_shape) P
unfolding address address_behind reached
address_means h = skip _ (λ first. skip _ (λ inner. skip _ (λ name. skip _ (λ levels. nothing (h (steps name levels))))))

pub operand_spelled : (r : Reg) → Means (operand memory_shape r) (OperandSpelled r)
unfolding operand
operand_spelled r = either_means (address_means (λ s. tt)) (simple_spelled r)

pub argument_spelled : Means (argument memory_shape) ArgumentSpelled
unfolding argument
argument_spelled = skip _ (λ r. follow (operand_spelled r) (λ v g. nothing g))
