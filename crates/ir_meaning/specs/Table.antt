-- The rule table: the operand that may stand for what an instruction gives (LLVM's InstSimplify).
--
-- `rule` takes the first row that fits. Integer constants count where they are numbers of the operation's width, as all are in
-- formed functions.
use Rattle.std.specs.Prelude.{ℕ, zero, suc, ◌-◌, ◌^◌, Bool, true, false, not, ◌&&◌, ◌||◌, ◌==◌, nat_lt, if◌then◌else◌, ℤ, pos, List, [], ◌∷◌, Option, Some, None}
use Rattle.ir_tree.specs.Forms.{Form}
use Rattle.ir_tree.specs.declared.instr.BinaryOp.{BinaryOp}
use Rattle.ir_tree.specs.declared.instr.BinaryOp.TheVariants.{Add, And, Ashr, Lshr, Mul, Or, Sdiv, Shl, Srem, Sub, Udiv, Urem, Xor}
use Rattle.ir_tree.specs.declared.instr.CastOp.{CastOp}
use Rattle.ir_tree.specs.declared.instr.Flags.{Flags}
use Rattle.ir_tree.specs.declared.instr.Instr.{Instr}
use Rattle.ir_tree.specs.declared.instr.Instr.TheVariants.{Address, Binary, Cast, Freeze, Icmp, Select}
use Rattle.ir_tree.specs.declared.instr.Predicate.{Predicate}
use Rattle.ir_tree.specs.declared.instr.Predicate.TheVariants.{Eq, Ne, Sge, Sle, Uge, Ule}
use Rattle.ir_tree.specs.declared.operand.Argument.{Argument}
use Rattle.ir_tree.specs.declared.operand.Operand.{Operand}
use Rattle.ir_tree.specs.declared.operand.Operand.TheVariants.{Local, Null, Number as Constant, Poison as PoisonOf, Symbol as Named}
use Rattle.ir_tree.specs.declared.operand.Reg.{Reg}
use Rattle.ir_tree.specs.declared.operand.Reg.TheVariants.{Int, Ptr}
use Rattle.ir_meaning.specs.Address.{displacements, sum_from}
use Rattle.ir_meaning.specs.Execute.{reg_eq}
use Rattle.ir_meaning.specs.Frame.{cons_index}
use Rattle.ir_meaning.specs.Operate.{Answer, Is, binary_bits}
use Rattle.ir_tree.specs.Symbols.{symbol_eq}
use Rattle.lto_bits.specs.Word.{signed, wrapped}
use Rattle.ir_meaning.specs.Arithmetic.{cast_number, compare, is_division}
use Rattle.ir_meaning.specs.declared.value.Value.TheVariants.{Number, Poison}

-- ---- choices among rows

abbrev pub first : Option Operand → Option Operand → Option Operand
first None b = b
first (Some v) b = Some v

abbrev pub when : Bool → Operand → Option Operand
when b v = if b then Some v else None

-- ---- operands

abbrev pub is_poison : Operand → Bool
is_poison (PoisonOf reg) = true
is_poison o = false

-- it is this constant
abbrev pub is_number : ℕ → Operand → Bool
is_number n (Constant w k) = k == n
is_number n o = false

-- the constant of this width that it is
abbrev pub number_of : ℕ → Operand → Option ℕ
number_of w (Constant v a) = if nat_lt a (2 ^ w) then Some a else None
number_of w o = None

-- they are one operand
abbrev pub same : Operand → Operand → Bool
same (Local x) (Local y) = x == y
same (Constant v a) (Constant w b) = (v == w) && (a == b)
same Null Null = true
same (PoisonOf r) (PoisonOf s) = reg_eq r s
same (Named s i) (Named t j) = symbol_eq s t && (i == j)
same a b = false

abbrev pub truth : Bool → Operand
truth b = Constant 1 (if b then 1 else 0)

-- ---- binary operations

-- a value of two constants; none where the operation is undefined
abbrev pub constant_answer : ℕ → Answer → Option Operand
constant_answer w (Is (Number n)) = Some (Constant w n)
constant_answer w (Is Poison) = Some (PoisonOf (Int w))
constant_answer w a = None

-- two constants decide alone, whatever the later rows give
abbrev pub folded_or : BinaryOp → Flags → ℕ → Option ℕ → Option ℕ → Option Operand → Option Operand
folded_or op f w (Some a) (Some b) later = constant_answer w (binary_bits op f w (Some a) (Some b))
folded_or op f w l r later = later

-- of a division only the dividend: a poison divisor is undefined
abbrev pub poisoned : BinaryOp → ℕ → Operand → Operand → Option Operand
poisoned op w l r = when (is_poison l || (not (is_division op) && is_poison r)) (PoisonOf (Int w))

-- an operand that the operation leaves as it is
abbrev pub unchanged : BinaryOp → ℕ → Operand → Operand → Option Operand
unchanged Add w l r = first (when (is_number 0 r) l) (when (is_number 0 l) r)
unchanged Sub w l r = when (is_number 0 r) l
unchanged Mul w l r = first (when (is_number 1 r) l) (when (is_number 1 l) r)
unchanged Udiv w l r = when (is_number 1 r) l
unchanged Sdiv w l r = when (is_number 1 r) l
unchanged Shl w l r = when (is_number 0 r) l
unchanged Lshr w l r = when (is_number 0 r) l
unchanged Ashr w l r = when (is_number 0 r) l
unchanged And w l r = first (when (is_number (2 ^ w - 1) r) l) (when (same l r) l)
unchanged Or w l r = first (when (is_number 0 r) l) (when (same l r) l)
unchanged Xor w l r = when (is_number 0 r) l
unchanged op w l r = None

abbrev pub zeroed : BinaryOp → ℕ → Operand → Operand → Option Operand
zeroed Mul w l r = when (is_number 0 r || is_number 0 l) (Constant w 0)
zeroed And w l r = when (is_number 0 r) (Constant w 0)
zeroed Sub w l r = when (same l r) (Constant w 0)
zeroed Xor w l r = when (same l r) (Constant w 0)
zeroed Urem w l r = when (is_number 1 r) (Constant w 0)
zeroed Srem w l r = when (is_number 1 r) (Constant w 0)
zeroed op w l r = None

abbrev pub binary_rule : BinaryOp → Flags → ℕ → Operand → Operand → Option Operand
binary_rule op f w l r =
    folded_or op f w (number_of w l) (number_of w r) (first (poisoned op w l r) (first (unchanged op w l r) (zeroed op w l r)))

-- ---- comparisons

abbrev pub compared_numbers : Predicate → ℕ → Option ℕ → Option ℕ → Option Operand
compared_numbers p w (Some a) (Some b) = Some (truth (compare p w a b))
compared_numbers p w l r = None

abbrev pub compared_constants : Predicate → Reg → Operand → Operand → Option Operand
compared_constants p (Int w) l r = compared_numbers p w (number_of w l) (number_of w r)
compared_constants p Ptr l r = None

-- it holds of a value and itself
abbrev pub is_reflexive : Predicate → Bool
is_reflexive Eq = true
is_reflexive Uge = true
is_reflexive Ule = true
is_reflexive Sge = true
is_reflexive Sle = true
is_reflexive p = false

-- whether an equality holds where the operands are equal, or aren't
abbrev pub equality : Predicate → Bool → Option Operand
equality Eq equal = Some (truth equal)
equality Ne equal = Some (truth (not equal))
equality p equal = None

-- null and a symbol, or one symbol at two offsets
abbrev pub compared_addresses : Predicate → Reg → Operand → Operand → Option Operand
compared_addresses p Ptr Null (Named s zero) = equality p false
compared_addresses p Ptr (Named s zero) Null = equality p false
compared_addresses p Ptr (Named s i) (Named t j) = if symbol_eq s t then equality p (i == j) else None
compared_addresses p reg l r = None

abbrev pub comparison_rule : Predicate → Reg → Operand → Operand → Option Operand
comparison_rule p reg l r =
    first (compared_constants p reg l r)
    (first (when (is_poison l || is_poison r) (PoisonOf (Int 1)))
    (first (when (same l r) (truth (is_reflexive p))) (compared_addresses p reg l r)))

-- ---- casts, selects, freezes

abbrev pub cast_numbers : CastOp → ℕ → ℕ → Option ℕ → Option Operand
cast_numbers op from to (Some a) = Some (Constant to (cast_number op from to a))
cast_numbers op from to None = None

abbrev pub cast_constant : CastOp → Reg → Reg → Operand → Option Operand
cast_constant op (Int from) (Int to) o = cast_numbers op from to (number_of from o)
cast_constant op from to o = None

abbrev pub cast_rule : CastOp → Reg → Reg → Operand → Option Operand
cast_rule op from to o = first (cast_constant op from to o) (when (is_poison o) (PoisonOf to))

abbrev pub selected_number : Option ℕ → Operand → Operand → Option Operand
selected_number (Some zero) a b = Some b
selected_number (Some (suc n)) a b = Some a
selected_number None a b = None

abbrev pub select_rule : Operand → Argument → Argument → Option Operand
select_rule c a b = first (when (is_poison c) (PoisonOf a.reg)) (first (selected_number (number_of 1 c) a.operand b.operand) (when (same a.operand b.operand) a.operand))

abbrev pub frozen_number : ℕ → Option ℕ → Option Operand
frozen_number w (Some a) = Some (Constant w a)
frozen_number w None = None

-- of poison any number may be chosen, and 0 is
abbrev pub freeze_rule : Reg → Operand → Option Operand
freeze_rule (Int w) o = first (frozen_number w (number_of w o)) (when (is_poison o) (Constant w 0))
freeze_rule Ptr o = None

-- ---- addresses

abbrev pub any_poison : List Argument → Bool
any_poison [] = false
any_poison (a ∷ more) = is_poison a.operand || any_poison more

abbrev pub all_zero : List Argument → Bool
all_zero [] = true
all_zero (a ∷ more) = is_number 0 a.operand && all_zero more

abbrev pub signed_number : ℕ → Option ℕ → Option ℤ
signed_number w None = None
signed_number w (Some n) = Some (signed w n)

abbrev pub constant_index : Reg → Operand → Option ℤ
constant_index (Int w) o = signed_number w (number_of w o)
constant_index Ptr o = None

-- the indices, where all are constants
abbrev pub constant_indices : List Argument → Option (List ℤ)
constant_indices [] = Some []
constant_indices (a ∷ more) = cons_index (constant_index a.reg a.operand) (constant_indices more)

abbrev pub symbol_at : Form → Operand → Option (List ℤ) → Option Operand
symbol_at shape (Named s offset) (Some indices) = Some (Named s (wrapped 64 (sum_from (pos offset) (displacements shape indices))))
symbol_at shape o is = None

abbrev pub address_rule : Form → Operand → List Argument → Option Operand
address_rule shape base indices =
    first (when (is_poison base || any_poison indices) (PoisonOf Ptr))
    (first (when (all_zero indices) base) (symbol_at shape base (constant_indices indices)))

-- ---- the table

abbrev pub rule : Instr → Option Operand
rule (Binary op f w l r) = binary_rule op f w l r
rule (Icmp p reg l r) = comparison_rule p reg l r
rule (Cast op from o to) = cast_rule op from to o
rule (Select c a b) = select_rule c a b
rule (Freeze reg o) = freeze_rule reg o
rule (Address inbounds shape base indices) = address_rule shape base indices
rule i = None

abbrev pub is_equality : Predicate → Bool
is_equality Eq = true
is_equality Ne = true
is_equality p = false

-- an ordered comparison of a pointer with itself
abbrev pub compares_freely : Predicate → Reg → Operand → Operand → Bool
compares_freely p (Int w) l r = false
compares_freely p Ptr l r = not (is_equality p) && same l r && not (is_poison l)

-- the row may rest on an answer to a free choice: of a freeze of poison, or of an ordered comparison of a pointer with itself
abbrev pub may_choose : Instr → Bool
may_choose (Freeze reg o) = is_poison o
may_choose (Icmp p reg l r) = compares_freely p reg l r
may_choose i = false
