-- What names none of some locals reads the others alone.
use Rattle.std.proofs.Common.{◌≡◌, ℕ, Bool, true, false, ◌||◌, List, [], ◌∷◌, Some, None}
use Rattle.ir_tree.specs.declared.block.Terminator.{Terminator}
use Rattle.ir_tree.specs.declared.block.Terminator.TheVariants.{Branch, Jump, Return, Switch, Unreachable}
use Rattle.ir_tree.specs.declared.instr.Instr.{Instr}
use Rattle.ir_tree.specs.declared.instr.Instr.TheVariants.{Address, Alloca, Binary, Call, Cast, Freeze, Icmp, Load, Phi as StrayPhi, Select, Store}
use Rattle.ir_tree.specs.declared.operand.Argument.{Argument}
use Rattle.ir_tree.specs.declared.operand.Operand.{Operand}
use Rattle.ir_tree.specs.declared.operand.Operand.TheVariants.{Local, Null, Number as Constant, Poison as PoisonOf, Symbol as Named}
use Rattle.ir_meaning.specs.Needed.{AllKept, EndReads, IsKept, UsesKept}
use Rattle.fact_sources.specs.Membership.{is_member}
use Rattle.fact_sources.specs.Naming.{arguments_name, end_names, instr_names}
use Rattle.fact_sources.proofs.Neither.{neither}

module _ (s t among : ℕ → Bool) (into : (x : ℕ) → s x ≡ true → among x ≡ false → t x ≡ true) where
  pub operand_into : (o : Operand) → is_member among o ≡ false → IsKept s o → IsKept t o
  operand_into (Local x) h k = into x k h
  operand_into (Constant w n) h k = tt
  operand_into Null h k = tt
  operand_into (PoisonOf reg) h k = tt
  operand_into (Named i n) h k = tt

  arguments_into : (as' : List Argument) → arguments_name among as' ≡ false → AllKept s as' → AllKept t as'
  arguments_into [] h k = tt
  arguments_into (a ∷ more) h k =
      let two = neither (is_member among a.operand) (arguments_name among more) h in
      (operand_into a.operand two.0 k.0, arguments_into more two.1 k.1)

  both_into : (l r : Operand) → (is_member among l || is_member among r) ≡ false → IsKept s l → IsKept s r → IsKept t l × IsKept t r
  both_into l r h a b = let two = neither (is_member among l) (is_member among r) h in (operand_into l two.0 a, operand_into r two.1 b)

  pub instr_into : (i : Instr) → instr_names among i ≡ false → UsesKept s i → UsesKept t i
  instr_into (Binary op flags w l r) h k = both_into l r h k.0 k.1
  instr_into (Icmp p reg l r) h k = both_into l r h k.0 k.1
  instr_into (Cast op from o to) h k = operand_into o h k
  instr_into (Select c a b) h k =
      let two = neither (is_member among c) (is_member among a.operand || is_member among b.operand) h in
      let more = neither (is_member among a.operand) (is_member among b.operand) two.1 in
      (operand_into c two.0 k.0, operand_into a.operand more.0 k.1, operand_into b.operand more.1 k.2)
  instr_into (Freeze reg o) h k = operand_into o h k
  instr_into (Alloca shape align) h k = tt
  instr_into (Load reg o align) h k = operand_into o h k
  instr_into (Store reg o d align) h k = both_into o d h k.0 k.1
  instr_into (Address inbounds shape o is) h k =
      let two = neither (is_member among o) (arguments_name among is) h in
      (operand_into o two.0 k.0, arguments_into is two.1 k.1)
  instr_into (Call result o args) h k =
      let two = neither (is_member among o) (arguments_name among args) h in
      (operand_into o two.0 k.0, arguments_into args two.1 k.1)
  instr_into (StrayPhi reg es) h k = tt

  pub end_into : (e : Terminator) → end_names among e ≡ false → EndReads s e → EndReads t e
  end_into (Return None) h k = tt
  end_into (Return (Some a)) h k = operand_into a.operand h k
  end_into (Jump target) h k = tt
  end_into (Branch c yes' no') h k = operand_into c h k
  end_into (Switch w o default cases) h k = operand_into o h k
  end_into Unreachable h k = tt
