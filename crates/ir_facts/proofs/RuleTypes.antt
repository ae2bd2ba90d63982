-- The operand of a row has the type of what its instruction gives.
use Rattle.std.proofs.Common.{◌≡◌, ℕ, ◌^◌, ◌<◌, Bool, true, false, if◌then◌else◌, List, [], ◌∷◌, ◌++◌, Option, Some, None, refl, sym, subst, lit<, lit≤}
use Rattle.std.specs.Prelude.{All, ℤ, nat_lt}
use Rattle.std.proofs.Math.Pow.{pow-lt}
use Rattle.std.proofs.lemmas.Bool.{ltb-true}
use Rattle.std.proofs.lemmas.Nat.{pow_pos}
use Rattle.std.proofs.lemmas.List.Elements.{All-head, All-tail}
use Rattle.ir_tree.specs.Forms.{Form}
use Rattle.ir_tree.specs.Formed.{ArgumentFormed, InstrFormed, IsReg, IsWidth, OperandFormed}
use Rattle.ir_tree.specs.Items.{phi_reads, reads, typed}
use Rattle.ir_tree.specs.Rules.{CastFits, HasType, LineCasts, LineTypes, result_type, type_of}
use Rattle.ir_tree.specs.declared.function.Function.{Function}
use Rattle.ir_tree.specs.declared.instr.BinaryOp.{BinaryOp}
use Rattle.ir_tree.specs.declared.instr.CastOp.{CastOp}
use Rattle.ir_tree.specs.declared.instr.CastOp.TheVariants.{Sext, Trunc, Zext}
use Rattle.ir_tree.specs.declared.instr.Flags.{Flags}
use Rattle.ir_tree.specs.declared.instr.Instr.{Instr}
use Rattle.ir_tree.specs.declared.instr.Instr.TheVariants.{Address, Alloca, Binary, Call, Cast, Freeze, Icmp, Load, Phi as StrayPhi, Select, Store}
use Rattle.ir_tree.specs.declared.operand.Argument.{Argument}
use Rattle.ir_tree.specs.declared.operand.Operand.{Operand}
use Rattle.ir_tree.specs.declared.operand.Operand.TheVariants.{Local, Null, Number as Constant, Poison as PoisonOf, Symbol as Named}
use Rattle.ir_tree.specs.declared.operand.Reg.{Reg}
use Rattle.ir_tree.specs.declared.operand.Reg.TheVariants.{Int, Ptr}
use Rattle.ir_meaning.specs.Operate.{Is, Never, binary_bits, number_or_poison}
use Rattle.ir_meaning.specs.Arithmetic.{arithmetic, breaks, cast_number, division_cause, is_division}
use Rattle.ir_meaning.specs.Table.{cast_constant, cast_numbers, constant_answer, folded_or, frozen_number, number_of, rule, symbol_at, truth}
use Rattle.ir_facts.proofs.RuleReads.{Of, address_of, binary_of, cast_of, comparison_of, freeze_of, of_some, select_of}
use Rattle.ir_facts.proofs.Words.{Small, arithmetic_small, extended_small, sign_extended_small, truncated_small}

number_small : (w : ℕ) (o : Operand) (n : ℕ) → number_of w o ≡ Some n → n < 2 ^ w
number_small w (Local x) n e = absurd (cc e)
number_small w Null n e = absurd (cc e)
number_small w (PoisonOf reg) n e = absurd (cc e)
number_small w (Named s i) n e = absurd (cc e)
number_small w (Constant v a) n e = by (nat_lt a (2 ^ w)) refl e
  where
    by : (b : Bool) → nat_lt a (2 ^ w) ≡ b → (if b then Some a else None) ≡ Some n → n < 2 ^ w
    by true q e' = let is : a ≡ n = cc e' in subst (λ (m : ℕ). m < 2 ^ w) is (ltb-true a (2 ^ w) q)
    by false q e' = absurd (cc e')

pub small_of : (w : ℕ) (o : Operand) → Small w (number_of w o)
small_of w o = by (number_of w o) refl
  where
    by : (n : Option ℕ) → number_of w o ≡ n → Small w n
    by None e = tt
    by (Some n) e = number_small w o n e

module _ (f : Function) where
  -- an operand of this type, as it may stand in the function
  abbrev pub Typed : Reg → Operand → Type 0
  Typed t v = (type_of f v ≡ Some t) × OperandFormed f v

  abbrev IsTyped : Reg → Option Operand → Type 0
  IsTyped t o = Of (Typed t) o

  -- what is read, typed and formed
  each_typed : (as' : List Argument) → All (HasType f) as' → All (ArgumentFormed f) as' → All (λ a. Typed a.reg a.operand) as'
  each_typed as' h g = λ k d lt. (h k d lt, (g k d lt).1)

  constant_typed : (w n : ℕ) → IsWidth w → n < 2 ^ w → Typed (Int w) (Constant w n)
  constant_typed w n width small = (refl, (width, small))

  poison_typed : (t : Reg) → IsReg t → Typed t (PoisonOf t)
  poison_typed t reg = (refl, reg)

  truth_typed : (b : Bool) → Typed (Int 1) (truth b)
  truth_typed true = (refl, ((lit≤ tt, lit≤ tt), lit< tt))
  truth_typed false = (refl, ((lit≤ tt, lit≤ tt), lit< tt))

  answer_typed : (w : ℕ) → IsWidth w → (o : Option ℕ) → Small w o → IsTyped (Int w) (constant_answer w (Is (number_or_poison o)))
  answer_typed w width None h = poison_typed (Int w) width
  answer_typed w width (Some n) h = constant_typed w n width h

  binary_typed : (op : BinaryOp) (fl : Flags) (w a b : ℕ) → IsWidth w → a < 2 ^ w → b < 2 ^ w → IsTyped (Int w) (constant_answer w (binary_bits op fl w (Some a) (Some b)))
  binary_typed op fl w a b width p q = by (is_division op) (breaks op w a b)
    where
      by : (t u : Bool) → IsTyped (Int w) (constant_answer w (if t then (if u then Never (division_cause b) else Is (number_or_poison (arithmetic op fl w a b))) else Is (number_or_poison (arithmetic op fl w a b))))
      by true true = tt
      by true false = answer_typed w width (arithmetic op fl w a b) (arithmetic_small op fl w a b p q)
      by false u = answer_typed w width (arithmetic op fl w a b) (arithmetic_small op fl w a b p q)

  folded_typed : (op : BinaryOp) (fl : Flags) (w : ℕ) (l r : Option ℕ) → IsWidth w → Small w l → Small w r → IsTyped (Int w) (folded_or op fl w l r None)
  folded_typed op fl w (Some a) (Some b) width p q = binary_typed op fl w a b width p q
  folded_typed op fl w (Some a) None width p q = tt
  folded_typed op fl w None r width p q = tt

  cast_small : (op : CastOp) (from to a : ℕ) → CastFits op (Int from) (Int to) → a < 2 ^ from → cast_number op from to a < 2 ^ to
  cast_small Zext from to a fits p = extended_small from to a p (pow-lt fits)
  cast_small Sext from to a fits p = sign_extended_small from to a
  cast_small Trunc from to a fits p = truncated_small from to a

  cast_numbers_typed : (op : CastOp) (from to : ℕ) (o : Option ℕ) → CastFits op (Int from) (Int to) → IsWidth to → Small from o → IsTyped (Int to) (cast_numbers op from to o)
  cast_numbers_typed op from to None fits width p = tt
  cast_numbers_typed op from to (Some a) fits width p = constant_typed to (cast_number op from to a) width (cast_small op from to a fits p)

  cast_typed : (op : CastOp) (from to : Reg) (o : Operand) → CastFits op from to → IsReg to → IsTyped to (cast_constant op from to o)
  cast_typed op (Int from) (Int to) o fits width = cast_numbers_typed op from to (number_of from o) fits width (small_of from o)
  cast_typed op (Int from) Ptr o fits width = tt
  cast_typed op Ptr to o fits width = tt

  frozen_typed : (w : ℕ) (o : Option ℕ) → IsWidth w → Small w o → IsTyped (Int w) (frozen_number w o)
  frozen_typed w None width p = tt
  frozen_typed w (Some a) width p = constant_typed w a width p

  symbol_typed : (shape : Form) (base : Operand) (is : Option (List ℤ)) → IsTyped Ptr (symbol_at shape base is)
  symbol_typed shape (Named s offset) (Some is) = (refl, tt)
  symbol_typed shape (Named s offset) None = tt
  symbol_typed shape (Local x) is = tt
  symbol_typed shape (Constant w n) is = tt
  symbol_typed shape Null is = tt
  symbol_typed shape (PoisonOf reg) is = tt

  freeze_typed : (reg : Reg) (o : Operand) → IsReg reg → IsTyped reg (rule (Freeze reg o))
  freeze_typed (Int w) o width = freeze_of (Typed (Int w)) w o (frozen_typed w (number_of w o) width (small_of w o)) (constant_typed w 0 width (pow_pos w))
  freeze_typed Ptr o width = tt

  -- the premises of an instruction that is formed and keeps the rules of types and casts
  pub record IsSoundInstr (local : Option ℕ) (i : Instr) : Type 0 where
    pub types : All (HasType f) (reads i ++ phi_reads i)
    pub formed : All (ArgumentFormed f) (reads i ++ phi_reads i)
    pub kind : InstrFormed i
    pub arms : LineTypes local i
    pub casts : LineCasts i

  arguments : (local : Option ℕ) (i : Instr) → IsSoundInstr local i → All (λ a. Typed a.reg a.operand) (reads i ++ phi_reads i)
  arguments local i h = each_typed (reads i ++ phi_reads i) h.types h.formed

  pub row_typed : (local : Option ℕ) (i : Instr) → IsSoundInstr local i → (v : Operand) → rule i ≡ Some v → (t : Reg) → result_type i ≡ Some t → Typed t v
  row_typed local (Binary op fl w l r) h v e t q =
      let all = arguments local (Binary op fl w l r) h in
      let first = All-head (λ a. Typed a.reg a.operand) (typed (Int w) l) (typed (Int w) r ∷ []) all in
      let rest = All-tail (λ a. Typed a.reg a.operand) (typed (Int w) l) (typed (Int w) r ∷ []) all in
      let second = All-head (λ a. Typed a.reg a.operand) (typed (Int w) r) [] rest in
      let width : IsWidth w = (All-head (ArgumentFormed f) (typed (Int w) l) (typed (Int w) r ∷ []) h.formed).0 in
      let is : Int w ≡ t = cc q in
      subst (λ (s : Reg). Typed s v) is
      (of_some (Typed (Int w)) (rule (Binary op fl w l r)) v e
      (binary_of (Typed (Int w)) op fl w l r first second (folded_typed op fl w (number_of w l) (number_of w r) width (small_of w l) (small_of w r)) (poison_typed (Int w) width)
      (constant_typed w 0 width (pow_pos w))))
  row_typed local (Icmp p reg l r) h v e t q =
      let is : Int 1 ≡ t = cc q in
      subst (λ (s : Reg). Typed s v) is
      (of_some (Typed (Int 1)) (rule (Icmp p reg l r)) v e (comparison_of (Typed (Int 1)) truth_typed p reg l r (λ q. poison_typed (Int 1) (lit≤ tt, lit≤ tt))))
  row_typed local (Cast op from o to) h v e t q =
      let is : to ≡ t = cc q in
      subst (λ (s : Reg). Typed s v) is
      (of_some (Typed to) (rule (Cast op from o to)) v e (cast_of (Typed to) op from to o (cast_typed op from to o h.casts h.kind) (poison_typed to h.kind)))
  row_typed local (Select c a b) h v e t q =
      let all = arguments local (Select c a b) h in
      let rest = All-tail (λ x. Typed x.reg x.operand) (typed (Int 1) c) (a ∷ b ∷ []) all in
      let first = All-head (λ x. Typed x.reg x.operand) a (b ∷ []) rest in
      let second = All-head (λ x. Typed x.reg x.operand) b [] (All-tail (λ x. Typed x.reg x.operand) a (b ∷ []) rest) in
      let reg : IsReg a.reg = (All-head (ArgumentFormed f) a (b ∷ []) (All-tail (ArgumentFormed f) (typed (Int 1) c) (a ∷ b ∷ []) h.formed)).0 in
      let is : a.reg ≡ t = cc q in
      subst (λ (s : Reg). Typed s v) is
      (of_some (Typed a.reg) (rule (Select c a b)) v e (select_of (Typed a.reg) c a b first (subst (λ (s : Reg). Typed s b.operand) (sym h.arms) second) (poison_typed a.reg reg)))
  row_typed local (Freeze reg o) h v e t q =
      let is : reg ≡ t = cc q in
      let own : IsReg reg = (All-head (ArgumentFormed f) (typed reg o) [] h.formed).0 in
      subst (λ (s : Reg). Typed s v) is (of_some (Typed reg) (rule (Freeze reg o)) v e (freeze_typed reg o own))
  row_typed local (Address inbounds shape base indices) h v e t q =
      let is : Ptr ≡ t = cc q in
      let first = All-head (λ a. Typed a.reg a.operand) (typed Ptr base) (indices ++ []) (arguments local (Address inbounds shape base indices) h) in
      subst (λ (s : Reg). Typed s v) is
      (of_some (Typed Ptr) (rule (Address inbounds shape base indices)) v e (address_of (Typed Ptr) shape base indices first (symbol_typed shape base) (poison_typed Ptr tt)))
  row_typed local (Alloca shape align) h v e t q = absurd (cc e)
  row_typed local (Load reg o align) h v e t q = absurd (cc e)
  row_typed local (Store reg o d align) h v e t q = absurd (cc e)
  row_typed local (Call result callee args) h v e t q = absurd (cc e)
  row_typed local (StrayPhi reg es) h v e t q = absurd (cc e)
