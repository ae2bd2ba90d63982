-- The operand of a row is one that the instruction reads, or no local.
use Rattle.std.proofs.Common.{◌≡◌, ℕ, zero, suc, ◌-◌, ◌^◌, Bool, true, false, ◌&&◌, ◌||◌, not, ◌==◌, if◌then◌else◌, List, Option, Some, None, refl, subst}
use Rattle.std.specs.Prelude.{ℤ}
use Rattle.ir_tree.specs.Forms.{Form}
use Rattle.ir_tree.specs.declared.instr.BinaryOp.{BinaryOp}
use Rattle.ir_tree.specs.declared.instr.BinaryOp.TheVariants.{Add, And, Ashr, Lshr, Mul, Or, Sdiv, Shl, Srem, Sub, Udiv, Urem, Xor}
use Rattle.ir_tree.specs.declared.instr.CastOp.{CastOp}
use Rattle.ir_tree.specs.declared.instr.Flags.{Flags}
use Rattle.ir_tree.specs.declared.instr.Instr.{Instr}
use Rattle.ir_tree.specs.declared.instr.Instr.TheVariants.{Address, Alloca, Binary, Call, Cast, Freeze, Icmp, Load, Phi as StrayPhi, Select, Store}
use Rattle.ir_tree.specs.declared.instr.Predicate.{Predicate}
use Rattle.ir_tree.specs.declared.instr.Predicate.TheVariants.{Eq, Ne, Sge, Sgt, Sle, Slt, Uge, Ugt, Ule, Ult}
use Rattle.ir_tree.specs.declared.operand.Argument.{Argument}
use Rattle.ir_tree.specs.declared.operand.Operand.{Operand}
use Rattle.ir_tree.specs.declared.operand.Operand.TheVariants.{Local, Null, Number as Constant, Poison as PoisonOf, Symbol as Named}
use Rattle.ir_tree.specs.declared.operand.Reg.{Reg}
use Rattle.ir_tree.specs.declared.operand.Reg.TheVariants.{Int, Ptr}
use Rattle.ir_meaning.specs.Operate.{Answer, Is, Never, Unwritten, binary_bits}
use Rattle.ir_tree.specs.Symbols.{symbol_eq}
use Rattle.ir_meaning.specs.Arithmetic.{compare, is_division}
use Rattle.ir_meaning.specs.declared.value.Value.TheVariants.{Number, Pointer, Poison}
use Rattle.ir_meaning.specs.Table.{address_rule, all_zero, any_poison, binary_rule, cast_constant, cast_numbers, cast_rule, compared_addresses, compared_constants, compared_numbers, comparison_rule, constant_answer, constant_indices, equality, first, folded_or, freeze_rule, frozen_number, is_number, is_poison, is_reflexive, number_of, poisoned, rule, same, select_rule, selected_number, symbol_at, truth, unchanged, when, zeroed}
use Rattle.ir_meaning.specs.Needed.{IsKept, UsesKept}

-- an operand of which this holds, if there is one
abbrev pub Of : (Operand → Type 0) → Option Operand → Type 0
Of P None = Unit {0}
Of P (Some v) = P v

pub of_some : (P : Operand → Type 0) (o : Option Operand) (v : Operand) → o ≡ Some v → Of P o → P v
of_some P None v e h = absurd (cc e)
of_some P (Some u) v e h = let is : u ≡ v = cc e in subst P is h

module _ (P : Operand → Type 0) where
  pub first_of : (a b : Option Operand) → Of P a → Of P b → Of P (first a b)
  first_of None b h g = g
  first_of (Some v) b h g = h

  pub when_of : (t : Bool) (v : Operand) → P v → Of P (when t v)
  when_of true v h = h
  when_of false v h = tt

  pub when_if : (t : Bool) (v : Operand) → (t ≡ true → P v) → Of P (when t v)
  when_if true v h = h refl
  when_if false v h = tt

module _ (P : Operand → Type 0) where
  unchanged_of : (op : BinaryOp) (w : ℕ) (l r : Operand) → P l → P r → Of P (unchanged op w l r)
  unchanged_of Add w l r h g = first_of P (when (is_number 0 r) l) (when (is_number 0 l) r) (when_of P (is_number 0 r) l h) (when_of P (is_number 0 l) r g)
  unchanged_of Sub w l r h g = when_of P (is_number 0 r) l h
  unchanged_of Mul w l r h g = first_of P (when (is_number 1 r) l) (when (is_number 1 l) r) (when_of P (is_number 1 r) l h) (when_of P (is_number 1 l) r g)
  unchanged_of Udiv w l r h g = when_of P (is_number 1 r) l h
  unchanged_of Sdiv w l r h g = when_of P (is_number 1 r) l h
  unchanged_of Shl w l r h g = when_of P (is_number 0 r) l h
  unchanged_of Lshr w l r h g = when_of P (is_number 0 r) l h
  unchanged_of Ashr w l r h g = when_of P (is_number 0 r) l h
  unchanged_of And w l r h g = first_of P (when (is_number (2 ^ w - 1) r) l) (when (same l r) l) (when_of P (is_number (2 ^ w - 1) r) l h) (when_of P (same l r) l h)
  unchanged_of Or w l r h g = first_of P (when (is_number 0 r) l) (when (same l r) l) (when_of P (is_number 0 r) l h) (when_of P (same l r) l h)
  unchanged_of Xor w l r h g = when_of P (is_number 0 r) l h
  unchanged_of Urem w l r h g = tt
  unchanged_of Srem w l r h g = tt

  zeroed_of : (op : BinaryOp) (w : ℕ) (l r : Operand) → P (Constant w 0) → Of P (zeroed op w l r)
  zeroed_of Mul w l r z = when_of P (is_number 0 r || is_number 0 l) (Constant w 0) z
  zeroed_of And w l r z = when_of P (is_number 0 r) (Constant w 0) z
  zeroed_of Sub w l r z = when_of P (same l r) (Constant w 0) z
  zeroed_of Xor w l r z = when_of P (same l r) (Constant w 0) z
  zeroed_of Urem w l r z = when_of P (is_number 1 r) (Constant w 0) z
  zeroed_of Srem w l r z = when_of P (is_number 1 r) (Constant w 0) z
  zeroed_of Add w l r z = tt
  zeroed_of Udiv w l r z = tt
  zeroed_of Sdiv w l r z = tt
  zeroed_of Shl w l r z = tt
  zeroed_of Lshr w l r z = tt
  zeroed_of Ashr w l r z = tt
  zeroed_of Or w l r z = tt

  folded_of : (op : BinaryOp) (f : Flags) (w : ℕ) (a b : Option ℕ) (later : Option Operand) → Of P (folded_or op f w a b None) → Of P later → Of P (folded_or op f w a b later)
  folded_of op f w (Some a) (Some b) later n h = n
  folded_of op f w (Some a) None later n h = h
  folded_of op f w None b later n h = h

  pub binary_of : (op : BinaryOp) (f : Flags) (w : ℕ) (l r : Operand) → P l → P r → Of P (folded_or op f w (number_of w l) (number_of w r) None) → P (PoisonOf (Int w)) → P (Constant w 0) → Of P (binary_rule op f w l r)
  binary_of op f w l r h g n p z =
      folded_of op f w (number_of w l) (number_of w r) (first (poisoned op w l r) (first (unchanged op w l r) (zeroed op w l r)))
      n
      (first_of P (poisoned op w l r) (first (unchanged op w l r) (zeroed op w l r))
      (when_of P (is_poison l || (not (is_division op) && is_poison r)) (PoisonOf (Int w)) p)
      (first_of P (unchanged op w l r) (zeroed op w l r) (unchanged_of op w l r h g) (zeroed_of op w l r z)))

  equality_of : ((b : Bool) → P (truth b)) → (p : Predicate) (b : Bool) → Of P (equality p b)
  equality_of t Eq b = t b
  equality_of t Ne b = t (not b)
  equality_of t Sge b = tt
  equality_of t Sgt b = tt
  equality_of t Sle b = tt
  equality_of t Slt b = tt
  equality_of t Uge b = tt
  equality_of t Ugt b = tt
  equality_of t Ule b = tt
  equality_of t Ult b = tt

  numbers_of : ((b : Bool) → P (truth b)) → (p : Predicate) (w : ℕ) (l r : Option ℕ) → Of P (compared_numbers p w l r)
  numbers_of t p w (Some a) (Some b) = t (compare p w a b)
  numbers_of t p w (Some a) None = tt
  numbers_of t p w None r = tt

  constants_of : ((b : Bool) → P (truth b)) → (p : Predicate) (reg : Reg) (l r : Operand) → Of P (compared_constants p reg l r)
  constants_of t p (Int w) l r = numbers_of t p w (number_of w l) (number_of w r)
  constants_of t p Ptr l r = tt

  chosen_of : (t : Bool) (a : Option Operand) → Of P a → Of P (if t then a else None)
  chosen_of true a h = h
  chosen_of false a h = tt

  addresses_of : ((b : Bool) → P (truth b)) → (p : Predicate) (reg : Reg) (l r : Operand) → Of P (compared_addresses p reg l r)
  addresses_of t p (Int w) l r = tt
  addresses_of t p Ptr (Local x) r = tt
  addresses_of t p Ptr (Constant w n) r = tt
  addresses_of t p Ptr (PoisonOf reg) r = tt
  addresses_of t p Ptr Null (Local x) = tt
  addresses_of t p Ptr Null (Constant w n) = tt
  addresses_of t p Ptr Null Null = tt
  addresses_of t p Ptr Null (PoisonOf reg) = tt
  addresses_of t p Ptr Null (Named s zero) = equality_of t p false
  addresses_of t p Ptr Null (Named s (suc i)) = tt
  addresses_of t p Ptr (Named s zero) Null = equality_of t p false
  addresses_of t p Ptr (Named s (suc i)) Null = tt
  addresses_of t p Ptr (Named s zero) (Local x) = tt
  addresses_of t p Ptr (Named s zero) (Constant w n) = tt
  addresses_of t p Ptr (Named s zero) (PoisonOf reg) = tt
  addresses_of t p Ptr (Named s (suc i)) (Local x) = tt
  addresses_of t p Ptr (Named s (suc i)) (Constant w n) = tt
  addresses_of t p Ptr (Named s (suc i)) (PoisonOf reg) = tt
  addresses_of t p Ptr (Named s zero) (Named u j) = chosen_of (symbol_eq s u) (equality p (0 == j)) (equality_of t p (0 == j))
  addresses_of t p Ptr (Named s (suc i)) (Named u j) = chosen_of (symbol_eq s u) (equality p (suc i == j)) (equality_of t p (suc i == j))

  pub comparison_of : ((b : Bool) → P (truth b)) → (p : Predicate) (reg : Reg) (l r : Operand) → ((is_poison l || is_poison r) ≡ true → P (PoisonOf (Int 1))) → Of P (comparison_rule p reg l r)
  comparison_of t p reg l r q =
      first_of P (compared_constants p reg l r) (first (when (is_poison l || is_poison r) (PoisonOf (Int 1))) (first (when (same l r) (truth (is_reflexive p))) (compared_addresses p reg l r)))
      (constants_of t p reg l r)
      (first_of P (when (is_poison l || is_poison r) (PoisonOf (Int 1))) (first (when (same l r) (truth (is_reflexive p))) (compared_addresses p reg l r))
      (when_if P (is_poison l || is_poison r) (PoisonOf (Int 1)) q)
      (first_of P (when (same l r) (truth (is_reflexive p))) (compared_addresses p reg l r)
      (when_of P (same l r) (truth (is_reflexive p)) (t (is_reflexive p))) (addresses_of t p reg l r)))

  pub cast_of : (op : CastOp) (from to : Reg) (o : Operand) → Of P (cast_constant op from to o) → P (PoisonOf to) → Of P (cast_rule op from to o)
  cast_of op from to o n p = first_of P (cast_constant op from to o) (when (is_poison o) (PoisonOf to)) n (when_of P (is_poison o) (PoisonOf to) p)

  selected_of : (o : Option ℕ) (a b : Operand) → P a → P b → Of P (selected_number o a b)
  selected_of (Some zero) a b h g = g
  selected_of (Some (suc n)) a b h g = h
  selected_of None a b h g = tt

  pub select_of : (t : Operand) (a b : Argument) → P a.operand → P b.operand → P (PoisonOf a.reg) → Of P (select_rule t a b)
  select_of t a b h g p =
      first_of P (when (is_poison t) (PoisonOf a.reg)) (first (selected_number (number_of 1 t) a.operand b.operand) (when (same a.operand b.operand) a.operand))
      (when_of P (is_poison t) (PoisonOf a.reg) p)
      (first_of P (selected_number (number_of 1 t) a.operand b.operand) (when (same a.operand b.operand) a.operand)
      (selected_of (number_of 1 t) a.operand b.operand h g) (when_of P (same a.operand b.operand) a.operand h))

  pub freeze_of : (w : ℕ) (o : Operand) → Of P (frozen_number w (number_of w o)) → P (Constant w 0) → Of P (freeze_rule (Int w) o)
  freeze_of w o n z = first_of P (frozen_number w (number_of w o)) (when (is_poison o) (Constant w 0)) n (when_of P (is_poison o) (Constant w 0) z)

  pub address_of : (shape : Form) (base : Operand) (indices : List Argument) → P base → ((is : Option (List ℤ)) → Of P (symbol_at shape base is)) → P (PoisonOf Ptr) → Of P (address_rule shape base indices)
  address_of shape base indices h at p =
      first_of P (when (is_poison base || any_poison indices) (PoisonOf Ptr)) (first (when (all_zero indices) base) (symbol_at shape base (constant_indices indices)))
      (when_of P (is_poison base || any_poison indices) (PoisonOf Ptr) p)
      (first_of P (when (all_zero indices) base) (symbol_at shape base (constant_indices indices)) (when_of P (all_zero indices) base h) (at (constant_indices indices)))

-- ---- locals

module _ (keeps : ℕ → Bool) where
  answer_kept : (w : ℕ) (a : Answer) → Of (IsKept keeps) (constant_answer w a)
  answer_kept w (Is (Number n)) = tt
  answer_kept w (Is Poison) = tt
  answer_kept w (Is (Pointer base offset)) = tt
  answer_kept w (Never why) = tt
  answer_kept w Unwritten = tt

  folded_kept : (op : BinaryOp) (f : Flags) (w : ℕ) (l r : Option ℕ) → Of (IsKept keeps) (folded_or op f w l r None)
  folded_kept op f w (Some a) (Some b) = answer_kept w (binary_bits op f w (Some a) (Some b))
  folded_kept op f w (Some a) None = tt
  folded_kept op f w None r = tt

  cast_numbers_kept : (op : CastOp) (from to : ℕ) (o : Option ℕ) → Of (IsKept keeps) (cast_numbers op from to o)
  cast_numbers_kept op from to (Some a) = tt
  cast_numbers_kept op from to None = tt

  cast_kept : (op : CastOp) (from to : Reg) (o : Operand) → Of (IsKept keeps) (cast_constant op from to o)
  cast_kept op (Int from) (Int to) o = cast_numbers_kept op from to (number_of from o)
  cast_kept op (Int from) Ptr o = tt
  cast_kept op Ptr to o = tt

  frozen_kept : (w : ℕ) (o : Option ℕ) → Of (IsKept keeps) (frozen_number w o)
  frozen_kept w (Some a) = tt
  frozen_kept w None = tt

  freeze_kept : (reg : Reg) (o : Operand) → Of (IsKept keeps) (freeze_rule reg o)
  freeze_kept (Int w) o = freeze_of (IsKept keeps) w o (frozen_kept w (number_of w o)) tt
  freeze_kept Ptr o = tt

  comparison_kept : (p : Predicate) (reg : Reg) (l r : Operand) → Of (IsKept keeps) (comparison_rule p reg l r)
  comparison_kept p reg l r = comparison_of (IsKept keeps) (λ b. tt) p reg l r (λ q. tt)

  symbol_kept : (shape : Form) (base : Operand) (is : Option (List ℤ)) → Of (IsKept keeps) (symbol_at shape base is)
  symbol_kept shape (Named s offset) (Some is) = tt
  symbol_kept shape (Named s offset) None = tt
  symbol_kept shape (Local x) is = tt
  symbol_kept shape (Constant w n) is = tt
  symbol_kept shape Null is = tt
  symbol_kept shape (PoisonOf reg) is = tt

  row_kept : (i : Instr) → UsesKept keeps i → Of (IsKept keeps) (rule i)
  row_kept (Binary op f w l r) h = binary_of (IsKept keeps) op f w l r h.0 h.1 (folded_kept op f w (number_of w l) (number_of w r)) tt tt
  row_kept (Icmp p reg l r) h = comparison_kept p reg l r
  row_kept (Cast op from o to) h = cast_of (IsKept keeps) op from to o (cast_kept op from to o) tt
  row_kept (Select t a b) h = select_of (IsKept keeps) t a b h.1 h.2 tt
  row_kept (Freeze reg o) h = freeze_kept reg o
  row_kept (Address inbounds shape base indices) h = address_of (IsKept keeps) shape base indices h.0 (symbol_kept shape base) tt
  row_kept (Alloca shape align) h = tt
  row_kept (Load reg o align) h = tt
  row_kept (Store reg o d align) h = tt
  row_kept (Call result callee arguments) h = tt
  row_kept (StrayPhi reg es) h = tt

  pub rule_kept : (i : Instr) (v : Operand) → UsesKept keeps i → rule i ≡ Some v → IsKept keeps v
  rule_kept i v h e = of_some (IsKept keeps) (rule i) v e (row_kept i h)
