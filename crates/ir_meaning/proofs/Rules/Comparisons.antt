-- The rows of the rule table on comparisons.
use Rattle.std.proofs.Common.{◌≡◌, ℕ, zero, suc, Bool, true, false, ◌&&◌, ◌||◌, ◌==◌, nat_lt, if◌then◌else◌, Option, Some, None, ◌⊎◌, inl, inr, refl, sym, ap, ◌∙◌, subst, arith}
use Rattle.std.specs.Prelude.{not, nat_le}
use Rattle.std.proofs.lemmas.Bool.{and_from, eq-eqb, le-leb, or_cases}
use Rattle.ir_tree.specs.declared.instr.Predicate.{Predicate}
use Rattle.ir_tree.specs.declared.instr.Predicate.TheVariants.{Eq, Ne, Sge, Sgt, Sle, Slt, Uge, Ugt, Ule, Ult}
use Rattle.ir_tree.specs.declared.operand.Operand.{Operand}
use Rattle.ir_tree.specs.declared.operand.Operand.TheVariants.{Local, Null, Number as Constant, Poison as PoisonOf, Symbol as Named}
use Rattle.ir_tree.specs.declared.operand.Reg.{Reg}
use Rattle.ir_tree.specs.declared.operand.Reg.TheVariants.{Int, Ptr}
use Rattle.ir_tree.specs.declared.operand.Symbol.{Symbol}
use Rattle.ir_meaning.specs.Execute.{compares}
use Rattle.ir_meaning.specs.Frame.{Locals, Signature, SymbolKind, AFunction, AVariable, AHost, Missing, named, value_of}
use Rattle.ir_meaning.specs.Memory.{Lives, Memory}
use Rattle.ir_meaning.specs.Operate.{bits_of, bit, compared_bits}
use Rattle.ir_meaning.specs.Pointers.{chosen, settled, settled_equal, settled_order, apart_equal, unequal_if, is_at, lives_with, negated, compared_pointers}
use Rattle.ir_tree.specs.Symbols.{symbol_eq}
use Rattle.ir_meaning.specs.Arithmetic.{compare}
use Rattle.ir_meaning.specs.declared.value.Base.{Base}
use Rattle.ir_meaning.specs.declared.value.Base.TheVariants.{Cell, Code, Nowhere}
use Rattle.ir_meaning.specs.declared.value.Value.{Value}
use Rattle.ir_meaning.specs.declared.value.Value.TheVariants.{Number, Pointer, Poison}
use Rattle.ir_meaning.specs.Facts.{Stands, VariablesLive}
use Rattle.ir_meaning.specs.Table.{first, when, is_poison, number_of, same, truth, compared_numbers, compared_constants, is_reflexive, equality, compared_addresses, comparison_rule, is_equality, compares_freely}
use Rattle.ir_tree.proofs.Symbols.{symbol_true}
use Rattle.ir_meaning.proofs.Rules.Arithmetic.{compare_same, order_same}
use Rattle.ir_meaning.proofs.Rules.Operations.{first_cases, when_is, number_bits, poison_is, same_is}
use Rattle.ir_meaning.proofs.Rules.Rows.{same_base}

-- ---- numbers

constants_compared : (sig : Signature) (ls : Locals) (p : Predicate) (w : ℕ) (l r v : Operand) → compared_numbers p w (number_of w l) (number_of w r) ≡ Some v → Stands (value_of sig ls v) (compared_bits p w (bits_of w (value_of sig ls l)) (bits_of w (value_of sig ls r)))
constants_compared sig ls p w l r v e = by (number_of w l) (number_of w r) refl refl e
  where
    by : (a b : Option ℕ) → number_of w l ≡ a → number_of w r ≡ b → compared_numbers p w a b ≡ Some v → Stands (value_of sig ls v) (compared_bits p w (bits_of w (value_of sig ls l)) (bits_of w (value_of sig ls r)))
    by (Some a) (Some b) ea eb e' =
        let is : truth (compare p w a b) ≡ v = cc e' in
        inr (ap (value_of sig ls) (sym is) ∙ sym (ap (λ (o : Option ℕ). compared_bits p w o (bits_of w (value_of sig ls r))) (number_bits sig ls w a l ea) ∙ ap (λ (o : Option ℕ). compared_bits p w (Some a) o) (number_bits sig ls w b r eb)))
    by None b ea eb e' = absurd (cc e')
    by (Some a) None ea eb e' = absurd (cc e')

numbers_same : (p : Predicate) (w : ℕ) (b : Option ℕ) → Stands (bit (is_reflexive p)) (compared_bits p w b b)
numbers_same p w None = inl refl
numbers_same p w (Some a) = inr (sym (ap bit (compare_same p w a)))

-- ---- poison

poison_left : (m : Memory) (choice : ℕ) (p : Predicate) (reg : Reg) (v : Value) → compares m choice p reg Poison v ≡ Poison
poison_left m choice p (Int w) v = refl
poison_left m choice p Ptr v = refl

poison_bits : (p : Predicate) (w : ℕ) (b : Option ℕ) → compared_bits p w b None ≡ Poison
poison_bits p w None = refl
poison_bits p w (Some a) = refl

poison_right : (m : Memory) (choice : ℕ) (p : Predicate) (reg : Reg) (v : Value) → compares m choice p reg v Poison ≡ Poison
poison_right m choice p (Int w) v = poison_bits p w (bits_of w v)
poison_right m choice p Ptr (Number a) = refl
poison_right m choice p Ptr (Pointer x i) = refl
poison_right m choice p Ptr Poison = refl

poison_either : (sig : Signature) (ls : Locals) (m : Memory) (choice : ℕ) (p : Predicate) (reg : Reg) (l r : Operand) → (is_poison l || is_poison r) ≡ true → compares m choice p reg (value_of sig ls l) (value_of sig ls r) ≡ Poison
poison_either sig ls m choice p reg l r t = by (or_cases (is_poison l) (is_poison r) t)
  where
    by : (is_poison l ≡ true) ⊎ (is_poison r ≡ true) → compares m choice p reg (value_of sig ls l) (value_of sig ls r) ≡ Poison
    by (inl e) = ap (λ (u : Value). compares m choice p reg u (value_of sig ls r)) (poison_is sig ls l e) ∙ poison_left m choice p reg (value_of sig ls r)
    by (inr e) = ap (λ (u : Value). compares m choice p reg (value_of sig ls l) u) (poison_is sig ls r e) ∙ poison_right m choice p reg (value_of sig ls l)

-- ---- pointers

-- under some choice the comparison gives a value for which v may stand
abbrev pub Chooses : Value → (ℕ → Value) → Type 0
Chooses v result = (choice : ℕ) × Stands v (result choice)

-- what isn't settled may be chosen
choose : (b : Bool) (o : Option Bool) → (o ≡ None) ⊎ (o ≡ Some b) → Chooses (bit b) (chosen o)
choose true o (inl e) = (1, inr (sym (ap (λ (x : Option Bool). chosen x 1) e)))
choose false o (inl e) = (0, inr (sym (ap (λ (x : Option Bool). chosen x 0) e)))
choose b o (inr e) = (0, inr (sym (ap (λ (x : Option Bool). chosen x 0) e)))

equal_itself : (m : Memory) (x : Base) (i : ℕ) → settled_equal m x i x i ≡ Some true
equal_itself m x i = ap (λ (t : Bool). if t then Some (i == i) else apart_equal m x i x i) (same_base x) ∙ ap (λ (t : Bool). Some t) (eq-eqb i i refl)

order_itself : (m : Memory) (order : ℕ → ℕ → Bool) (x : Base) (i : ℕ) → (settled_order m order x i x i ≡ None) ⊎ (settled_order m order x i x i ≡ Some (order i i))
order_itself m order Nowhere i = inl refl
order_itself m order (Code s) i = inl refl
order_itself m order (Cell l) i = by ((l == l) && (is_at m l i && is_at m l i))
  where
    by : (t : Bool) → ((if t then Some (order i i) else None) ≡ None) ⊎ ((if t then Some (order i i) else None) ≡ Some (order i i))
    by true = inr refl
    by false = inl refl

either_order : (o : Option Bool) (a b : Bool) → a ≡ b → (o ≡ None) ⊎ (o ≡ Some a) → (o ≡ None) ⊎ (o ≡ Some b)
either_order o a b e (inl h) = inl h
either_order o a b e (inr h) = inr (h ∙ ap (λ (t : Bool). Some t) e)

settled_itself : (m : Memory) (p : Predicate) (x : Base) (i : ℕ) → (settled m p x i x i ≡ None) ⊎ (settled m p x i x i ≡ Some (is_reflexive p))
settled_itself m Eq x i = inr (equal_itself m x i)
settled_itself m Ne x i = inr (ap negated (equal_itself m x i))
settled_itself m Ult x i = either_order _ _ _ (order_same true i) (order_itself m nat_lt x i)
settled_itself m Ule x i = either_order _ _ _ (order_same false i) (order_itself m nat_le x i)
settled_itself m Ugt x i = either_order _ _ _ (order_same true i) (order_itself m (λ a b. nat_lt b a) x i)
settled_itself m Uge x i = either_order _ _ _ (order_same false i) (order_itself m (λ a b. nat_le b a) x i)
settled_itself m Sgt x i = inl refl
settled_itself m Sge x i = inl refl
settled_itself m Slt x i = inl refl
settled_itself m Sle x i = inl refl

pointers_choose : (m : Memory) (p : Predicate) (v : Value) → Chooses (bit (is_reflexive p)) (compared_pointers m p v v)
pointers_choose m p (Number n) = (0, inl refl)
pointers_choose m p Poison = (0, inl refl)
pointers_choose m p (Pointer x i) = choose (is_reflexive p) (settled m p x i x i) (settled_itself m p x i)

pointers_same : (m : Memory) (p : Predicate) (choice : ℕ) (v : Value) → is_equality p ≡ true → Stands (bit (is_reflexive p)) (compared_pointers m p v v choice)
pointers_same m Eq choice (Pointer x i) e = inr (sym (ap (λ (o : Option Bool). chosen o choice) (equal_itself m x i)))
pointers_same m Ne choice (Pointer x i) e = inr (sym (ap (λ (o : Option Bool). chosen (negated o) choice) (equal_itself m x i)))
pointers_same m p choice (Number n) e = inl refl
pointers_same m p choice Poison e = inl refl
pointers_same m Ugt choice (Pointer x i) e = absurd (cc e)
pointers_same m Uge choice (Pointer x i) e = absurd (cc e)
pointers_same m Ult choice (Pointer x i) e = absurd (cc e)
pointers_same m Ule choice (Pointer x i) e = absurd (cc e)
pointers_same m Sgt choice (Pointer x i) e = absurd (cc e)
pointers_same m Sge choice (Pointer x i) e = absurd (cc e)
pointers_same m Slt choice (Pointer x i) e = absurd (cc e)
pointers_same m Sle choice (Pointer x i) e = absurd (cc e)

-- ---- null and a symbol, one symbol at two offsets

equality_is : (p : Predicate) (b : Bool) (v : Operand) → equality p b ≡ Some v → ((p ≡ Eq) × (truth b ≡ v)) ⊎ ((p ≡ Ne) × (truth (not b) ≡ v))
equality_is Eq b v e = inl (refl, cc e)
equality_is Ne b v e = inr (refl, cc e)
equality_is Ugt b v e = absurd (cc e)
equality_is Uge b v e = absurd (cc e)
equality_is Ult b v e = absurd (cc e)
equality_is Ule b v e = absurd (cc e)
equality_is Sgt b v e = absurd (cc e)
equality_is Sge b v e = absurd (cc e)
equality_is Slt b v e = absurd (cc e)
equality_is Sle b v e = absurd (cc e)

-- an equality of pointers that is settled
settled_compared : (sig : Signature) (ls : Locals) (m : Memory) (choice : ℕ) (x y : Base) (i j : ℕ) (b : Bool) → settled_equal m x i y j ≡ Some b →
    (p : Predicate) (v : Operand) → equality p b ≡ Some v → Stands (value_of sig ls v) (compared_pointers m p (Pointer x i) (Pointer y j) choice)
settled_compared sig ls m choice x y i j b h p v e = by (equality_is p b v e)
  where
    by : ((p ≡ Eq) × (truth b ≡ v)) ⊎ ((p ≡ Ne) × (truth (not b) ≡ v)) → Stands (value_of sig ls v) (compared_pointers m p (Pointer x i) (Pointer y j) choice)
    by (inl k) = inr (ap (value_of sig ls) (sym k.1) ∙ sym (ap (λ (q : Predicate). compared_pointers m q (Pointer x i) (Pointer y j) choice) k.0 ∙ ap (λ (o : Option Bool). chosen o choice) h))
    by (inr k) = inr (ap (value_of sig ls) (sym k.1) ∙ sym (ap (λ (q : Predicate). compared_pointers m q (Pointer x i) (Pointer y j) choice) k.0 ∙ ap (λ (o : Option Bool). chosen (negated o) choice) h))

-- a block that lives has its start
start_lives : (m : Memory) (k : ℕ) → Lives m k → unequal_if (is_at m k 0) ≡ Some false
start_lives m k a = ap unequal_if (ap (lives_with (λ size. nat_le 0 size)) a.1 ∙ and_from a.0.live (nat_le 0 a.0.size) a.2 (le-leb 0 a.0.size (omega arith)))

-- null is no symbol's address
null_left : (sig : Signature) (ls : Locals) (m : Memory) (choice : ℕ) (kind : SymbolKind) → ((number : ℕ) → kind ≡ AVariable number → Lives m number) →
    (s : Symbol) (p : Predicate) (v : Operand) → equality p false ≡ Some v → Stands (value_of sig ls v) (compared_pointers m p (Pointer Nowhere 0) (named kind s 0) choice)
null_left sig ls m choice (AFunction params result) live s p v e = settled_compared sig ls m choice Nowhere (Code s) 0 0 false refl p v e
null_left sig ls m choice (AVariable k) live s p v e = settled_compared sig ls m choice Nowhere (Cell k) 0 0 false (start_lives m k (live k refl)) p v e
null_left sig ls m choice (AHost host) live s p v e = settled_compared sig ls m choice Nowhere (Code s) 0 0 false refl p v e
null_left sig ls m choice Missing live s p v e = inl refl

null_right : (sig : Signature) (ls : Locals) (m : Memory) (choice : ℕ) (kind : SymbolKind) → ((number : ℕ) → kind ≡ AVariable number → Lives m number) →
    (s : Symbol) (p : Predicate) (v : Operand) → equality p false ≡ Some v → Stands (value_of sig ls v) (compared_pointers m p (named kind s 0) (Pointer Nowhere 0) choice)
null_right sig ls m choice (AFunction params result) live s p v e = settled_compared sig ls m choice (Code s) Nowhere 0 0 false refl p v e
null_right sig ls m choice (AVariable k) live s p v e = settled_compared sig ls m choice (Cell k) Nowhere 0 0 false (start_lives m k (live k refl)) p v e
null_right sig ls m choice (AHost host) live s p v e = settled_compared sig ls m choice (Code s) Nowhere 0 0 false refl p v e
null_right sig ls m choice Missing live s p v e = inl refl

offsets_settled : (m : Memory) (x : Base) (i j : ℕ) → settled_equal m x i x j ≡ Some (i == j)
offsets_settled m x i j = ap (λ (t : Bool). if t then Some (i == j) else apart_equal m x i x j) (same_base x)

offsets_compared : (sig : Signature) (ls : Locals) (m : Memory) (choice : ℕ) (x : Base) (i j : ℕ) (p : Predicate) (v : Operand) → equality p (i == j) ≡ Some v → Stands (value_of sig ls v) (compared_pointers m p (Pointer x i) (Pointer x j) choice)
offsets_compared sig ls m choice x i j p v e = settled_compared sig ls m choice x x i j (i == j) (offsets_settled m x i j) p v e

symbol_compared : (sig : Signature) (ls : Locals) (m : Memory) (choice : ℕ) (kind : SymbolKind) (s : Symbol) (i j : ℕ) (p : Predicate) (v : Operand) → equality p (i == j) ≡ Some v → Stands (value_of sig ls v) (compared_pointers m p (named kind s i) (named kind s j) choice)
symbol_compared sig ls m choice (AFunction params result) s i j p v e = offsets_compared sig ls m choice (Code s) i j p v e
symbol_compared sig ls m choice (AVariable k) s i j p v e = offsets_compared sig ls m choice (Cell k) i j p v e
symbol_compared sig ls m choice (AHost host) s i j p v e = offsets_compared sig ls m choice (Code s) i j p v e
symbol_compared sig ls m choice Missing s i j p v e = inl refl

-- an equality of addresses: null and a symbol, or one symbol at two offsets
one_symbol_row : (sig : Signature) (ls : Locals) (m : Memory) (choice : ℕ) (p : Predicate) (s t : Symbol) (i j : ℕ) (v : Operand) → (if symbol_eq s t then equality p (i == j) else None) ≡ Some v → Stands (value_of sig ls v) (compared_pointers m p (value_of sig ls (Named s i)) (value_of sig ls (Named t j)) choice)
one_symbol_row sig ls m choice p s t i j v e = by (symbol_eq s t) refl e
  where
    by : (b : Bool) → symbol_eq s t ≡ b → (if b then equality p (i == j) else None) ≡ Some v → Stands (value_of sig ls v) (compared_pointers m p (value_of sig ls (Named s i)) (value_of sig ls (Named t j)) choice)
    by true q e' = subst (λ (u : Symbol). Stands (value_of sig ls v) (compared_pointers m p (value_of sig ls (Named s i)) (value_of sig ls (Named u j)) choice)) (symbol_true s t q) (symbol_compared sig ls m choice (sig.kind s) s i j p v e')
    by false q e' = absurd (cc e')

address_row : (sig : Signature) (ls : Locals) (m : Memory) → VariablesLive sig m → (choice : ℕ) (p : Predicate) (l r v : Operand) → compared_addresses p Ptr l r ≡ Some v → Stands (value_of sig ls v) (compared_pointers m p (value_of sig ls l) (value_of sig ls r) choice)
address_row sig ls m live choice p (Local x) r v e = absurd (cc e)
address_row sig ls m live choice p (Constant w n) r v e = absurd (cc e)
address_row sig ls m live choice p (PoisonOf reg) r v e = absurd (cc e)
address_row sig ls m live choice p Null (Local x) v e = absurd (cc e)
address_row sig ls m live choice p Null (Constant w n) v e = absurd (cc e)
address_row sig ls m live choice p Null Null v e = absurd (cc e)
address_row sig ls m live choice p Null (PoisonOf reg) v e = absurd (cc e)
address_row sig ls m live choice p Null (Named s zero) v e = null_left sig ls m choice (sig.kind s) (live s) s p v e
address_row sig ls m live choice p Null (Named s (suc i)) v e = absurd (cc e)
address_row sig ls m live choice p (Named s zero) (Local x) v e = absurd (cc e)
address_row sig ls m live choice p (Named s zero) (Constant w n) v e = absurd (cc e)
address_row sig ls m live choice p (Named s zero) Null v e = null_right sig ls m choice (sig.kind s) (live s) s p v e
address_row sig ls m live choice p (Named s zero) (PoisonOf reg) v e = absurd (cc e)
address_row sig ls m live choice p (Named s zero) (Named t j) v e = one_symbol_row sig ls m choice p s t zero j v e
address_row sig ls m live choice p (Named s (suc i)) (Local x) v e = absurd (cc e)
address_row sig ls m live choice p (Named s (suc i)) (Constant w n) v e = absurd (cc e)
address_row sig ls m live choice p (Named s (suc i)) Null v e = absurd (cc e)
address_row sig ls m live choice p (Named s (suc i)) (PoisonOf reg) v e = absurd (cc e)
address_row sig ls m live choice p (Named s (suc i)) (Named t j) v e = one_symbol_row sig ls m choice p s t (suc i) j v e

-- ---- all rows

-- which row it was
abbrev WhichRow : Predicate → Reg → Operand → Operand → Operand → Type 0
WhichRow p reg l r v =
    (compared_constants p reg l r ≡ Some v)
    ⊎ (((is_poison l || is_poison r) ≡ true) ⊎ (((same l r ≡ true) × (truth (is_reflexive p) ≡ v)) ⊎ (compared_addresses p reg l r ≡ Some v)))

which_row : (p : Predicate) (reg : Reg) (l r v : Operand) → comparison_rule p reg l r ≡ Some v → WhichRow p reg l r v
which_row p reg l r v e = one (first_cases (compared_constants p reg l r) (first (when (is_poison l || is_poison r) (PoisonOf (Int 1))) (first (when (same l r) (truth (is_reflexive p))) (compared_addresses p reg l r))) v e)
  where
    three : (when (same l r) (truth (is_reflexive p)) ≡ Some v) ⊎ (compared_addresses p reg l r ≡ Some v) → WhichRow p reg l r v
    three (inl e') = inr (inr (inl (when_is (same l r) (truth (is_reflexive p)) v e')))
    three (inr e') = inr (inr (inr e'))

    two : (when (is_poison l || is_poison r) (PoisonOf (Int 1)) ≡ Some v) ⊎ (first (when (same l r) (truth (is_reflexive p))) (compared_addresses p reg l r) ≡ Some v) → WhichRow p reg l r v
    two (inl e') = inr (inl (when_is (is_poison l || is_poison r) (PoisonOf (Int 1)) v e').0)
    two (inr e') = three (first_cases (when (same l r) (truth (is_reflexive p))) (compared_addresses p reg l r) v e')

    one : (compared_constants p reg l r ≡ Some v) ⊎ (first (when (is_poison l || is_poison r) (PoisonOf (Int 1))) (first (when (same l r) (truth (is_reflexive p))) (compared_addresses p reg l r)) ≡ Some v) → WhichRow p reg l r v
    one (inl e') = inl e'
    one (inr e') = two (first_cases (when (is_poison l || is_poison r) (PoisonOf (Int 1))) (first (when (same l r) (truth (is_reflexive p))) (compared_addresses p reg l r)) v e')

pub integers_stand : (sig : Signature) (ls : Locals) (m : Memory) (choice : ℕ) (p : Predicate) (w : ℕ) (l r v : Operand) → comparison_rule p (Int w) l r ≡ Some v → Stands (value_of sig ls v) (compares m choice p (Int w) (value_of sig ls l) (value_of sig ls r))
integers_stand sig ls m choice p w l r v e = by (which_row p (Int w) l r v e)
  where
    by : WhichRow p (Int w) l r v → Stands (value_of sig ls v) (compares m choice p (Int w) (value_of sig ls l) (value_of sig ls r))
    by (inl e') = constants_compared sig ls p w l r v e'
    by (inr (inl t)) = inl (poison_either sig ls m choice p (Int w) l r t)
    by (inr (inr (inl k))) =
        subst (λ (o : Operand). Stands (value_of sig ls o) (compares m choice p (Int w) (value_of sig ls l) (value_of sig ls r))) k.1 (subst (λ (u : Value). Stands (bit (is_reflexive p)) (compares m choice p (Int w) (value_of sig ls l) u)) (same_is sig ls l r k.0) (numbers_same p w (bits_of w (value_of sig ls l))))
    by (inr (inr (inr e'))) = absurd (cc e')

left_false : (x y : Bool) → (x || y) ≡ false → x ≡ false
left_false false y e = refl
left_false true y e = absurd (cc e)

-- a comparison of a pointer with itself that isn't free is an equality
equality_of : (p : Predicate) (l r : Operand) → is_poison l ≡ false → same l r ≡ true → compares_freely p Ptr l r ≡ false → is_equality p ≡ true
equality_of p l r a s h = by (is_equality p) refl
  where
    by : (t : Bool) → is_equality p ≡ t → is_equality p ≡ true
    by true q = q
    by false q =
        let free : compares_freely p Ptr l r ≡ true =
        ap (λ (t : Bool). not t && same l r && not (is_poison l)) q ∙ ap (λ (t : Bool). true && t && not (is_poison l)) s ∙ ap (λ (t : Bool). true && true && not t) a in
        absurd (cc (sym free ∙ h))

pub pointers_stand : (sig : Signature) (ls : Locals) (m : Memory) → VariablesLive sig m → (choice : ℕ) (p : Predicate) (l r v : Operand) → comparison_rule p Ptr l r ≡ Some v → compares_freely p Ptr l r ≡ false → Stands (value_of sig ls v) (compares m choice p Ptr (value_of sig ls l) (value_of sig ls r))
pointers_stand sig ls m live choice p l r v e h = by_poison (is_poison l || is_poison r) refl
  where
    by : (is_poison l || is_poison r) ≡ false → WhichRow p Ptr l r v → Stands (value_of sig ls v) (compares m choice p Ptr (value_of sig ls l) (value_of sig ls r))
    by a (inl e') = absurd (cc e')
    by a (inr (inl t)) = inl (poison_either sig ls m choice p Ptr l r t)
    by a (inr (inr (inl k))) =
        subst (λ (o : Operand). Stands (value_of sig ls o) (compares m choice p Ptr (value_of sig ls l) (value_of sig ls r))) k.1 (subst (λ (u : Value). Stands (bit (is_reflexive p)) (compares m choice p Ptr (value_of sig ls l) u)) (same_is sig ls l r k.0) (pointers_same m p choice (value_of sig ls l) (equality_of p l r (left_false (is_poison l) (is_poison r) a) k.0 h)))
    by a (inr (inr (inr e'))) = address_row sig ls m live choice p l r v e'

    by_poison : (t : Bool) → (is_poison l || is_poison r) ≡ t → Stands (value_of sig ls v) (compares m choice p Ptr (value_of sig ls l) (value_of sig ls r))
    by_poison true t = inl (poison_either sig ls m choice p Ptr l r t)
    by_poison false a = by a (which_row p Ptr l r v e)

pub pointers_may : (sig : Signature) (ls : Locals) (m : Memory) → VariablesLive sig m → (p : Predicate) (l r v : Operand) → comparison_rule p Ptr l r ≡ Some v → Chooses (value_of sig ls v) (compared_pointers m p (value_of sig ls l) (value_of sig ls r))
pointers_may sig ls m live p l r v e = by (which_row p Ptr l r v e)
  where
    by : WhichRow p Ptr l r v → Chooses (value_of sig ls v) (compared_pointers m p (value_of sig ls l) (value_of sig ls r))
    by (inl e') = absurd (cc e')
    by (inr (inl t)) = (0, inl (poison_either sig ls m 0 p Ptr l r t))
    by (inr (inr (inl k))) =
        subst (λ (o : Operand). Chooses (value_of sig ls o) (compared_pointers m p (value_of sig ls l) (value_of sig ls r))) k.1 (subst (λ (u : Value). Chooses (bit (is_reflexive p)) (compared_pointers m p (value_of sig ls l) u)) (same_is sig ls l r k.0) (pointers_choose m p (value_of sig ls l)))
    by (inr (inr (inr e'))) = (0, address_row sig ls m live 0 p l r v e')
