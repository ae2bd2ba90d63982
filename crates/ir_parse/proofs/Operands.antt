-- Types, operands and arguments that the grammar spells.
use Rattle.std.proofs.Common.{◌≡◌, ℕ, max, min, nat_eq, ◌||◌, Bool, true, false, ◌⊎◌, inl, inr, drop, Option, Some, None, option_map, refl, subst, arith, if◌then◌else◌}
use Rattle.std.proofs.lemmas.Bool.{eqb-true, or_cases}
use Rattle.ir_lex.specs.TokenKinds.{number, width_of}
use Rattle.ir_lex.specs.Tok.{Tok}
use Rattle.ir_lex.specs.declared.token_kind.TokenKind.{TokenKind}
use Rattle.ir_lex.specs.declared.token_kind.TokenKind.TheVariants as kinds
use Rattle.ir_parse_parts.specs.Alphabet.{contains}
use Rattle.ir_parse_parts.specs.Forms.{Form}
use Rattle.ir_parse_parts.specs.Literals.{literal}
use Rattle.ir_parse_parts.proofs.LiteralRange.{literal_fits}
use Rattle.ir_parse_parts.specs.Operands.{SCALAR, bit, bits_of, integer, named, operand_by, reg, reg_of, result, result_of, scalar, simple, width}
use Rattle.ir_parse_operands.specs.Values.{address, address_behind, argument, operand, reached}
use Rattle.ir_parse_parts.specs.declared.raw.Operand.{Operand}
use Rattle.ir_parse_parts.specs.declared.raw.Operand.TheVariants as operands
use Rattle.ir_parse_parts.specs.declared.shape.Typed.{Typed}
use Rattle.ir_tree.specs.Formed.{IsReg, IsResult, IsScalar, IsStored, IsWidth}
use Rattle.ir_tree.specs.declared.operand.Reg.{Reg}
use Rattle.ir_tree.specs.declared.operand.Reg.TheVariants.{Int, Ptr}
use Rattle.ir_parse.specs.Written.{ArgumentWritten, OperandWritten}
use Rattle.ir_parse.specs.Sized.{IsSized}
use Rattle.ir_parse.proofs.Means.{Means, among_means, either_means, exact_means, nothing, skip, follow, valued_means}

-- ---- types

width_within : (t : Tok) → IsWidth (width t)
width_within t = by (width_of (drop 1 t.text))
  where
    by : (n : ℕ) → IsWidth (min 64 (max 1 n))
    by n = (omega arith, omega arith)

pub reg_is : (t : Tok) → IsReg (reg_of t)
reg_is t = by (nat_eq (number t.kind) (number kinds.Ptr))
  where
    by : (b : Bool) → IsReg (if b then Ptr else Int (width t))
    by true = tt
    by false = width_within t

pub reg_written : Means reg IsReg
reg_written = among_means _ _ _ (λ t s c. reg_is t)

pub integer_written : Means integer IsWidth
integer_written = among_means _ _ _ (λ t s c. width_within t)

pub bit_written : Means bit IsWidth
bit_written = exact_means _ _ _ _ (λ t s c. width_within t)

result_is : (t : Tok) → IsResult (result_of t)
result_is t = by (nat_eq (number t.kind) (number kinds.Void))
  where
    by : (b : Bool) → IsResult (if b then None else Some (reg_of t))
    by true = tt
    by false = reg_is t

pub result_written : Means result IsResult
result_written = among_means _ _ _ (λ t s c. result_is t)

-- a pointer, or of the class of integers in memory
pub scalar_is : (t : Tok) → IsSized t → contains SCALAR (number t.kind) ≡ true → IsScalar (reg_of t)
scalar_is t s c = by (nat_eq (number t.kind) (number kinds.Ptr)) refl
  where
    by : (b : Bool) → nat_eq (number t.kind) (number kinds.Ptr) ≡ b → IsScalar (if b then Ptr else Int (width t))
    by true e = tt
    by false e = at (or_cases (nat_eq (number t.kind) (number kinds.MemoryInteger)) (nat_eq (number t.kind) (number kinds.Ptr) || false) c)
      where
        none : (b : Bool) → b ≡ false → b || false ≡ true → ⊥
        none true g h = absurd cc
        none false g h = absurd cc

        at : (nat_eq (number t.kind) (number kinds.MemoryInteger) ≡ true) ⊎ ((nat_eq (number t.kind) (number kinds.Ptr) || false) ≡ true) → IsStored (width t)
        at (inl g) = s.stored (eqb-true (number t.kind) (number kinds.MemoryInteger) g)
        at (inr g) = absurd (none (nat_eq (number t.kind) (number kinds.Ptr)) e g)

pub scalar_written : Means scalar IsScalar
scalar_written = among_means _ _ _ scalar_is

-- ---- operands

abbrev From : {A B : Type 0} → (A → B) → Option A → B → Type 0
From {A} f o y = (x : A) × (o ≡ Some x) × (f x ≡ y)

pub mapped : {A B : Type 0} (f : A → B) (o : Option A) (y : B) → option_map f o ≡ Some y → From f o y
mapped f None y e = absurd cc
mapped f (Some x) y e = let same : f x ≡ y = cc in (x, refl, same)

bits_written : (r : Reg) → IsReg r → (t : Tok) (o : Operand) → bits_of r t ≡ Some o → OperandWritten o
bits_written (Int w) h t o e = let m = mapped (operands.Number w) (literal w t.text) o e in subst OperandWritten m.2 (h, literal_fits w t.text m.0 m.1)
bits_written Ptr h t o e = absurd cc

pub one_bit : IsWidth 1
one_bit = (omega arith, omega arith)

by_class : (head : TokenKind) (r : Reg) → IsReg r → (t : Tok) (o : Operand) → operand_by head r t ≡ Some o → OperandWritten o
by_class kinds.Number r h t o e = bits_written r h t o e
by_class kinds.Local r h t o e = let m = mapped operands.Local (named t) o e in subst OperandWritten m.2 tt
by_class kinds.True r h t o e = let same : operands.Number 1 1 ≡ o = cc in subst OperandWritten same (one_bit, omega arith)
by_class kinds.False r h t o e = let same : operands.Number 1 0 ≡ o = cc in subst OperandWritten same (one_bit, omega arith)
by_class kinds.Null r h t o e = let same : operands.Null ≡ o = cc in subst OperandWritten same tt
by_class kinds.Poison r h t o e = let same : operands.Poison r ≡ o = cc in subst OperandWritten same h
by_class kinds.Global r h t o e = let same : operands.Global t ≡ o = cc in subst OperandWritten same tt
by_class kinds.NumberedGlobal r h t o e = let m = mapped operands.Global (named t) o e in subst OperandWritten m.2 tt
by_class kinds.NumberedDefinition r h t o e = let m = mapped operands.Global (named t) o e in subst OperandWritten m.2 tt
by_class head r h t o e = absurd cc

pub token_written : (r : Reg) → IsReg r → (t : Tok) (o : Operand) → operand_by t.kind r t ≡ Some o → OperandWritten o
token_written r h t o e = by_class t.kind r h t o e

pub simple_written : (r : Reg) → IsReg r → Means (simple r) OperandWritten
simple_written r h = valued_means _ _ (λ t o s e. token_written r h t o e)

module _ (shape : Form Tok Typed) where
  pub address_written : Means (address shape) OperandWritten
  unfolding address address_behind reached
  address_written = skip _ (λ first. skip _ (λ inner. skip _ (λ name. skip _ (λ levels. nothing tt))))

  pub operand_written : (r : Reg) → IsReg r → Means (operand shape r) OperandWritten
  unfolding operand
  operand_written r h = either_means address_written (simple_written r h)

  pub argument_written : Means (argument shape) ArgumentWritten
  unfolding argument
  argument_written = follow reg_written (λ r h. follow (operand_written r h) (λ v g. nothing (h, g)))
