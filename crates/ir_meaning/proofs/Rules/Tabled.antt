-- The operand of each row of the rule table may stand for what its instruction gives.
use Rattle.std.proofs.Common.{◌≡◌, ℕ, zero, suc, Bool, true, false, Option, Some, None, ◌⊎◌, inl, inr, refl, sym, ap, ◌∙◌, subst, mod-eq_of_lt, pow_pos}
use Rattle.ir_tree.specs.declared.instr.CastOp.{CastOp}
use Rattle.ir_tree.specs.declared.instr.Instr.{Instr}
use Rattle.ir_tree.specs.declared.instr.Instr.TheVariants.{Address, Alloca, Binary, Call, Cast, Freeze, Icmp, Load, Phi as StrayPhi, Select, Store}
use Rattle.ir_tree.specs.declared.operand.Argument.{Argument}
use Rattle.ir_tree.specs.declared.operand.Operand.{Operand}
use Rattle.ir_tree.specs.declared.operand.Operand.TheVariants.{Number as Constant, Poison as PoisonOf}
use Rattle.ir_tree.specs.declared.operand.Reg.{Reg}
use Rattle.ir_tree.specs.declared.operand.Reg.TheVariants.{Int, Ptr}
use Rattle.ir_meaning.specs.Frame.{Locals, Signature, value_of}
use Rattle.ir_meaning.specs.Operate.{bits_of, binary, cast, cast_bits, selected, selected_bits, frozen, frozen_bits}
use Rattle.ir_meaning.specs.Arithmetic.{cast_number}
use Rattle.ir_meaning.specs.declared.value.Value.{Value}
use Rattle.ir_meaning.specs.declared.value.Value.TheVariants.{Number, Poison}
use Rattle.ir_meaning.specs.Facts.{Stands, RuleAlways, RuleSometimes}
use Rattle.ir_meaning.specs.Table.{first, when, is_poison, number_of, same, cast_numbers, cast_constant, cast_rule, selected_number, select_rule, frozen_number, freeze_rule, rule, may_choose}
use Rattle.ir_meaning.specs.Tables.{TableRight}
use Rattle.ir_meaning.proofs.Rules.Addresses.{addresses_stand}
use Rattle.ir_meaning.proofs.Rules.Comparisons.{integers_stand, pointers_stand, pointers_may}
use Rattle.ir_meaning.proofs.Rules.Operations.{first_cases, when_is, number_bits, poison_is, same_is, gives_for, binary_stands}

-- ---- casts

cast_poison : (op : CastOp) (from to : Reg) → cast op from to Poison ≡ Poison
cast_poison op (Int from) (Int to) = refl
cast_poison op (Int from) Ptr = refl
cast_poison op Ptr to = refl

cast_constant_stands : (sig : Signature) (ls : Locals) (op : CastOp) (from to : Reg) (o v : Operand) → cast_constant op from to o ≡ Some v → Stands (value_of sig ls v) (cast op from to (value_of sig ls o))
cast_constant_stands sig ls op (Int from) (Int to) o v e = by (number_of from o) refl e
  where
    by : (b : Option ℕ) → number_of from o ≡ b → cast_numbers op from to b ≡ Some v → Stands (value_of sig ls v) (cast op (Int from) (Int to) (value_of sig ls o))
    by (Some a) q e' =
        let is : Constant to (cast_number op from to a) ≡ v = cc e' in
        inr (ap (value_of sig ls) (sym is) ∙ sym (ap (cast_bits op from to) (number_bits sig ls from a o q)))
    by None q e' = absurd (cc e')
cast_constant_stands sig ls op (Int from) Ptr o v e = absurd (cc e)
cast_constant_stands sig ls op Ptr to o v e = absurd (cc e)

cast_stands : (sig : Signature) (ls : Locals) (op : CastOp) (from to : Reg) (o v : Operand) → cast_rule op from to o ≡ Some v → Stands (value_of sig ls v) (cast op from to (value_of sig ls o))
cast_stands sig ls op from to o v e = by (first_cases (cast_constant op from to o) (when (is_poison o) (PoisonOf to)) v e)
  where
    by : (cast_constant op from to o ≡ Some v) ⊎ (when (is_poison o) (PoisonOf to) ≡ Some v) → Stands (value_of sig ls v) (cast op from to (value_of sig ls o))
    by (inl e') = cast_constant_stands sig ls op from to o v e'
    by (inr e') = inl (ap (cast op from to) (poison_is sig ls o (when_is (is_poison o) (PoisonOf to) v e').0) ∙ cast_poison op from to)

-- ---- selects

selected_same : (c : Option ℕ) (u : Value) → Stands u (selected_bits c u u)
selected_same None u = inl refl
selected_same (Some zero) u = inr refl
selected_same (Some (suc n)) u = inr refl

select_stands : (sig : Signature) (ls : Locals) (c : Operand) (a b : Argument) (v : Operand) → select_rule c a b ≡ Some v → Stands (value_of sig ls v) (selected (value_of sig ls c) (value_of sig ls a.operand) (value_of sig ls b.operand))
select_stands sig ls c a b v e = one (first_cases (when (is_poison c) (PoisonOf a.reg)) (first (selected_number (number_of 1 c) a.operand b.operand) (when (same a.operand b.operand) a.operand)) v e)
  where
    by_number : (n : Option ℕ) → number_of 1 c ≡ n → selected_number n a.operand b.operand ≡ Some v → Stands (value_of sig ls v) (selected (value_of sig ls c) (value_of sig ls a.operand) (value_of sig ls b.operand))
    by_number (Some zero) q e' =
        let is : b.operand ≡ v = cc e' in
        inr (ap (value_of sig ls) (sym is) ∙ sym (ap (λ (n : Option ℕ). selected_bits n (value_of sig ls a.operand) (value_of sig ls b.operand)) (number_bits sig ls 1 zero c q)))
    by_number (Some (suc n)) q e' =
        let is : a.operand ≡ v = cc e' in
        inr (ap (value_of sig ls) (sym is) ∙ sym (ap (λ (n : Option ℕ). selected_bits n (value_of sig ls a.operand) (value_of sig ls b.operand)) (number_bits sig ls 1 (suc n) c q)))
    by_number None q e' = absurd (cc e')

    two : (selected_number (number_of 1 c) a.operand b.operand ≡ Some v) ⊎ (when (same a.operand b.operand) a.operand ≡ Some v) → Stands (value_of sig ls v) (selected (value_of sig ls c) (value_of sig ls a.operand) (value_of sig ls b.operand))
    two (inl e') = by_number (number_of 1 c) refl e'
    two (inr e') =
        let k = when_is (same a.operand b.operand) a.operand v e' in
        subst (λ (o : Operand). Stands (value_of sig ls o) (selected (value_of sig ls c) (value_of sig ls a.operand) (value_of sig ls b.operand))) k.1 (subst (λ (u : Value). Stands (value_of sig ls a.operand) (selected (value_of sig ls c) (value_of sig ls a.operand) u)) (same_is sig ls a.operand b.operand k.0) (selected_same (bits_of 1 (value_of sig ls c)) (value_of sig ls a.operand)))

    one : (when (is_poison c) (PoisonOf a.reg) ≡ Some v) ⊎ (first (selected_number (number_of 1 c) a.operand b.operand) (when (same a.operand b.operand) a.operand) ≡ Some v) → Stands (value_of sig ls v) (selected (value_of sig ls c) (value_of sig ls a.operand) (value_of sig ls b.operand))
    one (inl e') = inl (ap (λ (u : Value). selected u (value_of sig ls a.operand) (value_of sig ls b.operand)) (poison_is sig ls c (when_is (is_poison c) (PoisonOf a.reg) v e').0))
    one (inr e') = two (first_cases (selected_number (number_of 1 c) a.operand b.operand) (when (same a.operand b.operand) a.operand) v e')

-- ---- freezes

-- a constant stays, whatever the choice; of poison 0 may be chosen
constant_frozen : (sig : Signature) (ls : Locals) (w choice : ℕ) (o v : Operand) → frozen_number w (number_of w o) ≡ Some v → Stands (value_of sig ls v) (frozen (Int w) choice (value_of sig ls o))
constant_frozen sig ls w choice o v e = by (number_of w o) refl e
  where
    by : (n : Option ℕ) → number_of w o ≡ n → frozen_number w n ≡ Some v → Stands (value_of sig ls v) (frozen (Int w) choice (value_of sig ls o))
    by (Some a) q e' =
        let is : Constant w a ≡ v = cc e' in
        inr (ap (value_of sig ls) (sym is) ∙ sym (ap (frozen_bits w choice) (number_bits sig ls w a o q)))
    by None q e' = absurd (cc e')

poison_frozen : (sig : Signature) (ls : Locals) (w : ℕ) (o v : Operand) → when (is_poison o) (Constant w 0) ≡ Some v → Stands (value_of sig ls v) (frozen (Int w) 0 (value_of sig ls o))
poison_frozen sig ls w o v e =
    let k = when_is (is_poison o) (Constant w 0) v e in
    inr (ap (value_of sig ls) (sym k.1) ∙ sym (ap (frozen (Int w) 0) (poison_is sig ls o k.0) ∙ ap Number (mod-eq_of_lt (pow_pos w))))

freeze_may : (sig : Signature) (ls : Locals) (reg : Reg) (o v : Operand) → freeze_rule reg o ≡ Some v → Stands (value_of sig ls v) (frozen reg 0 (value_of sig ls o))
freeze_may sig ls (Int w) o v e = by (first_cases (frozen_number w (number_of w o)) (when (is_poison o) (Constant w 0)) v e)
  where
    by : (frozen_number w (number_of w o) ≡ Some v) ⊎ (when (is_poison o) (Constant w 0) ≡ Some v) → Stands (value_of sig ls v) (frozen (Int w) 0 (value_of sig ls o))
    by (inl e') = constant_frozen sig ls w 0 o v e'
    by (inr e') = poison_frozen sig ls w o v e'
freeze_may sig ls Ptr o v e = absurd (cc e)

freeze_stands : (sig : Signature) (ls : Locals) (choice : ℕ) (reg : Reg) (o v : Operand) → freeze_rule reg o ≡ Some v → is_poison o ≡ false → Stands (value_of sig ls v) (frozen reg choice (value_of sig ls o))
freeze_stands sig ls choice (Int w) o v e h = by (first_cases (frozen_number w (number_of w o)) (when (is_poison o) (Constant w 0)) v e)
  where
    by : (frozen_number w (number_of w o) ≡ Some v) ⊎ (when (is_poison o) (Constant w 0) ≡ Some v) → Stands (value_of sig ls v) (frozen (Int w) choice (value_of sig ls o))
    by (inl e') = constant_frozen sig ls w choice o v e'
    by (inr e') = absurd (cc (sym (when_is (is_poison o) (Constant w 0) v e').0 ∙ h))
freeze_stands sig ls choice Ptr o v e h = absurd (cc e)

-- ---- the table

always : (i : Instr) (v : Operand) → rule i ≡ Some v → may_choose i ≡ false → RuleAlways i v
always (Binary op f w l r) v e h sig input m place choice ls live = gives_for m place (value_of sig ls v) (binary op f w (value_of sig ls l) (value_of sig ls r)) (binary_stands sig ls f w l r op v e)
always (Icmp p (Int w) l r) v e h sig input m place choice ls live = (integers_stand sig ls m choice p w l r v e, refl, refl, refl)
always (Icmp p Ptr l r) v e h sig input m place choice ls live = (pointers_stand sig ls m live choice p l r v e h, refl, refl, refl)
always (Cast op from o to) v e h sig input m place choice ls live = (cast_stands sig ls op from to o v e, refl, refl, refl)
always (Select c a b) v e h sig input m place choice ls live = (select_stands sig ls c a b v e, refl, refl, refl)
always (Freeze reg o) v e h sig input m place choice ls live = (freeze_stands sig ls choice reg o v e h, refl, refl, refl)
always (Address inbounds shape base args) v e h sig input m place choice ls live = (addresses_stand sig ls m inbounds shape base v args e, refl, refl, refl)
always (Alloca shape align) v e h sig input m place choice ls live = absurd (cc e)
always (Load reg o align) v e h sig input m place choice ls live = absurd (cc e)
always (Store reg o d align) v e h sig input m place choice ls live = absurd (cc e)
always (Call result c args) v e h sig input m place choice ls live = absurd (cc e)
always (StrayPhi reg es) v e h sig input m place choice ls live = absurd (cc e)

-- where the row rests on a choice
freely : (i : Instr) (v : Operand) → rule i ≡ Some v → may_choose i ≡ true → RuleSometimes i v
freely (Icmp p Ptr l r) v e h sig input m place ls live = let c = pointers_may sig ls m live p l r v e in (c.0, (c.1, refl, refl, refl))
freely (Freeze reg o) v e h sig input m place ls live = (0, (freeze_may sig ls reg o v e, refl, refl, refl))
freely (Icmp p (Int w) l r) v e h sig input m place ls live = absurd (cc h)
freely (Binary op f w l r) v e h sig input m place ls live = absurd (cc h)
freely (Cast op from o to) v e h sig input m place ls live = absurd (cc h)
freely (Select c a b) v e h sig input m place ls live = absurd (cc h)
freely (Address inbounds shape base args) v e h sig input m place ls live = absurd (cc h)
freely (Alloca shape align) v e h sig input m place ls live = absurd (cc h)
freely (Load reg o align) v e h sig input m place ls live = absurd (cc h)
freely (Store reg o d align) v e h sig input m place ls live = absurd (cc h)
freely (Call result c args) v e h sig input m place ls live = absurd (cc h)
freely (StrayPhi reg es) v e h sig input m place ls live = absurd (cc h)

pub table_right : TableRight
table_right i v e = (by (may_choose i) refl, λ h. always i v e h)
  where
    by : (t : Bool) → may_choose i ≡ t → RuleSometimes i v
    by true h = freely i v e h
    by false h = λ sig input m place ls live. (0, always i v e h sig input m place 0 ls live)
