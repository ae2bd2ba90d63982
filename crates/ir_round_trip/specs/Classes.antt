-- The classes of the words and names that are printed (LangRef, "Binary Operations", "icmp Instruction", "Conversion
-- Operations", "Linkage Types", "Integer Type", "Identifiers").
use Rattle.std.specs.Prelude.{◌≡◌, ℕ, Bool, ◌||◌, nat_eq, if◌then◌else◌, List}
use Rattle.ir_lex.specs.TokenKinds.{name_kind}
use Rattle.ir_lex.specs.declared.token_kind.TokenKind.{TokenKind}
use Rattle.ir_lex.specs.declared.token_kind.TokenKind.TheVariants as kinds
use Rattle.ir_tree.specs.declared.instr.BinaryOp.{BinaryOp}
use Rattle.ir_tree.specs.declared.instr.BinaryOp.TheVariants as binary
use Rattle.ir_tree.specs.declared.instr.CastOp.{CastOp}
use Rattle.ir_tree.specs.declared.instr.CastOp.TheVariants as casts
use Rattle.ir_tree.specs.declared.instr.Predicate.{Predicate}
use Rattle.ir_tree.specs.declared.instr.Predicate.TheVariants as predicates

abbrev pub binary_class : BinaryOp → TokenKind
binary_class binary.Add = kinds.Add
binary_class binary.Sub = kinds.Sub
binary_class binary.Mul = kinds.Mul
binary_class binary.Shl = kinds.Shl
binary_class binary.Udiv = kinds.Udiv
binary_class binary.Sdiv = kinds.Sdiv
binary_class binary.Lshr = kinds.Lshr
binary_class binary.Ashr = kinds.Ashr
binary_class binary.Urem = kinds.Urem
binary_class binary.Srem = kinds.Srem
binary_class binary.And = kinds.And
binary_class binary.Or = kinds.Or
binary_class binary.Xor = kinds.Xor

abbrev pub predicate_class : Predicate → TokenKind
predicate_class predicates.Eq = kinds.Eq
predicate_class predicates.Ne = kinds.Ne
predicate_class predicates.Ugt = kinds.Ugt
predicate_class predicates.Uge = kinds.Uge
predicate_class predicates.Ult = kinds.Ult
predicate_class predicates.Ule = kinds.Ule
predicate_class predicates.Sgt = kinds.Sgt
predicate_class predicates.Sge = kinds.Sge
predicate_class predicates.Slt = kinds.Slt
predicate_class predicates.Sle = kinds.Sle

abbrev pub cast_class : CastOp → TokenKind
cast_class casts.Zext = kinds.Zext
cast_class casts.Sext = kinds.Sext
cast_class casts.Trunc = kinds.Trunc

abbrev pub truth_class : ℕ → TokenKind
truth_class bits = if nat_eq bits 0 then kinds.False else kinds.True

-- memory holds integers of 8, 16, 32 and 64 bits
abbrev pub is_stored : ℕ → Bool
is_stored w = nat_eq w 8 || (nat_eq w 16 || (nat_eq w 32 || nat_eq w 64))

abbrev pub integer_class : ℕ → TokenKind
integer_class w = if is_stored w then kinds.MemoryInteger else kinds.RegisterInteger

-- a name that isn't kept for LLVM itself
abbrev pub IsOrdinary : List ℕ → Type 0
IsOrdinary name = name_kind name ≡ kinds.Global
