-- Instructions whose free choices are settled: the constants of their rows.
use Rattle.std.proofs.Common.{◌≡◌, ℕ, ◌^◌, ◌<◌, Bool, true, false, ◌&&◌, ◌||◌, if◌then◌else◌, Option, Some, None, refl, sym, ◌∙◌, ap, subst, lit<}
use Rattle.std.specs.Prelude.{not}
use Rattle.std.proofs.lemmas.Bool.{and_parts, false≢true}
use Rattle.std.proofs.lemmas.Nat.{pow_pos}
use Rattle.ir_tree.specs.Formed.{ResultFormed}
use Rattle.std.specs.Prelude.{IsSome}
use Rattle.ir_tree.specs.Rules.{result_type}
use Rattle.ir_tree.specs.declared.instr.Instr.{Instr}
use Rattle.ir_tree.specs.declared.instr.Instr.TheVariants.{Address, Alloca, Binary, Call, Cast, Freeze, Icmp, Load, Phi as StrayPhi, Select, Store}
use Rattle.ir_tree.specs.declared.instr.Predicate.{Predicate}
use Rattle.ir_tree.specs.declared.operand.Operand.{Operand}
use Rattle.ir_tree.specs.declared.operand.Operand.TheVariants.{Local, Null, Number as Constant, Poison as PoisonOf, Symbol as Named}
use Rattle.ir_tree.specs.declared.operand.Reg.{Reg}
use Rattle.ir_tree.specs.declared.operand.Reg.TheVariants.{Int, Ptr}
use Rattle.ir_meaning.specs.Table.{comparison_rule, freeze_rule, frozen_number, is_equality, is_poison, may_choose, number_of, rule, same, truth}
use Rattle.ir_meaning.proofs.Rules.Tabled.{table_right}
use Rattle.ir_facts.specs.Settled.{IsFirm, choice_of, frozen_as, number_in, settled_instr}
use Rattle.ir_facts.proofs.RuleReads.{Of, comparison_of, freeze_of, of_some}
use Rattle.ir_facts.proofs.RuleTypes.{small_of}
use Rattle.ir_facts.proofs.Standing.{not_true}
use Rattle.ir_facts.proofs.Words.{Small}

-- ---- rows of instructions that may choose

-- a constant of this width
abbrev IsConstant : ℕ → Operand → Type 0
IsConstant w (Constant v n) = (v ≡ w) × (n < 2 ^ w)
IsConstant w o = ⊥

truth_constant : (b : Bool) → IsConstant 1 (truth b)
truth_constant true = (refl, lit< tt)
truth_constant false = (refl, lit< tt)

frozen_constant : (w : ℕ) (o : Option ℕ) → Small w o → Of (IsConstant w) (frozen_number w o)
frozen_constant w None s = tt
frozen_constant w (Some n) s = (refl, s)

freeze_constant : (w : ℕ) (o : Operand) → Of (IsConstant w) (freeze_rule (Int w) o)
freeze_constant w o = freeze_of (IsConstant w) w o (frozen_constant w (number_of w o) (small_of w o)) (refl, pow_pos w)

same_poison : (l r : Operand) → same l r ≡ true → is_poison l ≡ false → is_poison r ≡ false
same_poison l (Local x) s h = refl
same_poison l (Constant w n) s h = refl
same_poison l Null s h = refl
same_poison l (Named t k) s h = refl
same_poison (PoisonOf q) (PoisonOf reg) s h = absurd (false≢true (sym h))
same_poison (Local x) (PoisonOf reg) s h = absurd (false≢true s)
same_poison (Constant w n) (PoisonOf reg) s h = absurd (false≢true s)
same_poison Null (PoisonOf reg) s h = absurd (false≢true s)
same_poison (Named t k) (PoisonOf reg) s h = absurd (false≢true s)

-- pointers whose comparison may be a free choice are no poison
not_poison : (p : Predicate) (reg : Reg) (l r : Operand) → may_choose (Icmp p reg l r) ≡ true → (is_poison l || is_poison r) ≡ false
not_poison p (Int w) l r h = absurd (false≢true h)
not_poison p Ptr l r h =
    let parts = and_parts (not (is_equality p) && same l r) (not (is_poison l)) h in
    let both = and_parts (not (is_equality p)) (same l r) parts.0 in
    let left = not_true (is_poison l) parts.1 in
    ap (λ (b : Bool). b || is_poison r) left ∙ same_poison l r both.1 left

compared_constant : (p : Predicate) (reg : Reg) (l r : Operand) → may_choose (Icmp p reg l r) ≡ true → Of (IsConstant 1) (comparison_rule p reg l r)
compared_constant p reg l r h = comparison_of (IsConstant 1) truth_constant p reg l r (λ q. absurd (false≢true (sym (not_poison p reg l r h) ∙ q)))

-- what a row that may rest on a free choice gives: a constant, of the type of what the instruction gives
pub record IsChoice (i : Instr) (w n : ℕ) : Type 0 where
  pub chooses : may_choose i ≡ true
  pub row : rule i ≡ Some (Constant w n)
  pub typed_as : result_type i ≡ Some (Int w)
  pub small : n < 2 ^ w

record HasChoice (i : Instr) (v : Operand) : Type 0 where
  width : ℕ
  number : ℕ
  is : v ≡ Constant width number
  right : IsChoice i width number

constant_choice : (i : Instr) (v : Operand) (w : ℕ) → may_choose i ≡ true → rule i ≡ Some v → result_type i ≡ Some (Int w) → IsConstant w v → HasChoice i v
constant_choice i (Constant u n) w h e t c = record {
  width = u;
  number = n;
  is = refl;
  right = record { chooses = h; row = e; typed_as = t ∙ ap (λ (k : ℕ). Some (Int k)) (sym c.0); small = subst (λ (k : ℕ). n < 2 ^ k) (sym c.0) c.1 };
}
constant_choice i (Local x) w h e t c = absurd c
constant_choice i Null w h e t c = absurd c
constant_choice i (PoisonOf reg) w h e t c = absurd c
constant_choice i (Named s k) w h e t c = absurd c

chosen : (i : Instr) (v : Operand) → may_choose i ≡ true → rule i ≡ Some v → HasChoice i v
chosen (Freeze (Int w) o) v h e = constant_choice (Freeze (Int w) o) v w h e refl (of_some (IsConstant w) (freeze_rule (Int w) o) v e (freeze_constant w o))
chosen (Freeze Ptr o) v h e = absurd (cc e)
chosen (Icmp p reg l r) v h e = constant_choice (Icmp p reg l r) v 1 h e refl (of_some (IsConstant 1) (comparison_rule p reg l r) v e (compared_constant p reg l r h))
chosen (Binary op f w l r) v h e = absurd (false≢true h)
chosen (Cast op from o to) v h e = absurd (false≢true h)
chosen (Select t a b) v h e = absurd (false≢true h)
chosen (Alloca shape align) v h e = absurd (false≢true h)
chosen (Load reg o align) v h e = absurd (false≢true h)
chosen (Store reg o d align) v h e = absurd (false≢true h)
chosen (Address inbounds shape o is) v h e = absurd (false≢true h)
chosen (Call result o args) v h e = absurd (false≢true h)
chosen (StrayPhi reg es) v h e = absurd (false≢true h)

-- an instruction that may choose has a result
pub chooser_named : (i : Instr) (local : Option ℕ) → may_choose i ≡ true → ResultFormed i local → IsSome local
chooser_named (Freeze reg o) local h k = k
chooser_named (Icmp p reg l r) local h k = k
chooser_named (Binary op f w l r) local h k = absurd (false≢true h)
chooser_named (Cast op from o to) local h k = absurd (false≢true h)
chooser_named (Select t a b) local h k = absurd (false≢true h)
chooser_named (Alloca shape align) local h k = absurd (false≢true h)
chooser_named (Load reg o align) local h k = absurd (false≢true h)
chooser_named (Store reg o d align) local h k = absurd (false≢true h)
chooser_named (Address inbounds shape o is) local h k = absurd (false≢true h)
chooser_named (Call result o args) local h k = absurd (false≢true h)
chooser_named (StrayPhi reg es) local h k = absurd (false≢true h)

-- ---- the choice of an instruction

choice_right : (i : Instr) (w n : ℕ) → choice_of i ≡ Some (w, n) → IsChoice i w n
choice_right i w n e = by (may_choose i) refl e
  where
    named : (o : Option Operand) → rule i ≡ o → may_choose i ≡ true → number_in o ≡ Some (w, n) → IsChoice i w n
    named None q h g = absurd (cc g)
    named (Some v) q h g =
        let c = chosen i v h q in
        let pair : ◌≡◌ {A = Option (ℕ × ℕ)} (Some (c.width, c.number)) (Some (w, n)) = sym (ap (λ (o : Operand). number_in (Some o)) c.is) ∙ g in
        let same : ◌≡◌ {A = ℕ × ℕ} (c.width, c.number) (w, n) = cc pair in
        subst (λ (p : ℕ × ℕ). IsChoice i p.0 p.1) same c.right

    by : (b : Bool) → may_choose i ≡ b → (if b then number_in (rule i) else None) ≡ Some (w, n) → IsChoice i w n
    by true h g = named (rule i) refl h g
    by false h g = absurd (cc g)

-- a settled instruction is the instruction, or a freeze of its row's constant
pub settled_by : (P : Instr → Type 0) (i : Instr) → P i → ((w n : ℕ) → IsChoice i w n → P (Freeze (Int w) (Constant w n))) → P (settled_instr i)
settled_by P i same other = by (choice_of i) refl
  where
    by : (o : Option (ℕ × ℕ)) → choice_of i ≡ o → P (frozen_as o i)
    by None e = same
    by (Some (w, n)) e = other w n (choice_right i w n e)

pub type_settled : (i : Instr) → result_type (settled_instr i) ≡ result_type i
type_settled i = settled_by (λ (j : Instr). result_type j ≡ result_type i) i refl (λ w n c. sym c.typed_as)

-- ---- no row of a settled instruction rests on a free choice

undecided : (i : Instr) → choice_of i ≡ None → IsFirm i
undecided i none v e = (table_right i v e).1 (by (may_choose i) refl none)
  where
    by : (b : Bool) → may_choose i ≡ b → (if b then number_in (rule i) else None) ≡ None → may_choose i ≡ false
    by false h g = h
    by true h g =
        let c = chosen i v h e in
        let clash : ◌≡◌ {A = Option (ℕ × ℕ)} (Some (c.width, c.number)) None = sym (ap number_in e ∙ ap (λ (o : Operand). number_in (Some o)) c.is) ∙ g in
        absurd (cc clash)

pub settled_firm : (i : Instr) → IsFirm (settled_instr i)
settled_firm i = by (choice_of i) refl
  where
    by : (o : Option (ℕ × ℕ)) → choice_of i ≡ o → IsFirm (frozen_as o i)
    by None e = undecided i e
    by (Some (w, n)) e = λ v row. (table_right (Freeze (Int w) (Constant w n)) v row).1 refl
