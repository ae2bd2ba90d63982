-- The rows of the rule table on address computation.
use Rattle.std.proofs.Common.{◌≡◌, ℕ, zero, suc, ◌+◌, ◌-◌, ◌*◌, ◌/◌, ◌^◌, ◌<◌, ℤ, Bool, true, false, ◌&&◌, ◌||◌, nat_lt, if◌then◌else◌, List, [], ◌∷◌, Option, Some, None, ◌⊎◌, inl, inr, refl, sym, ap, ◌∙◌, subst, arith, mod-eq_of_lt, pow_pos, add-zero}
use Rattle.std.specs.Prelude.{not, pos, ◌+ℤ◌, ◌-ℤ◌, ◌*ℤ◌}
use Rattle.std.proofs.lemmas.Bool.{and_parts, or_cases, ltb-true, lt-ltb}
use Rattle.std.proofs.Math.Nat.{div-eq_of_lt}
use Rattle.ir_tree.specs.Forms.{Form, int, pointer, array, structure, no_parts, part}
use Rattle.ir_tree.specs.Layout.{size, align, begins, rounded}
use Rattle.ir_tree.specs.declared.operand.Argument.{Argument}
use Rattle.ir_tree.specs.declared.operand.Operand.{Operand}
use Rattle.ir_tree.specs.declared.operand.Operand.TheVariants.{Local, Null, Number as Constant, Poison as PoisonOf, Symbol as Named}
use Rattle.ir_tree.specs.declared.operand.Reg.{Reg}
use Rattle.ir_tree.specs.declared.operand.Reg.TheVariants.{Int, Ptr}
use Rattle.ir_tree.specs.declared.operand.Symbol.{Symbol}
use Rattle.ir_meaning.specs.Address.{address_of, pointer_or_poison, new_offset, displacements, displacements_into, sum_from, are_all_zero, stays_within}
use Rattle.ir_meaning.specs.Frame.{Locals, Signature, SymbolKind, AFunction, AVariable, AHost, Missing, named, value_of, indices_of, index_of, cons_index, signed_of}
use Rattle.ir_meaning.specs.Memory.{Memory, object_size}
use Rattle.ir_meaning.specs.Operate.{bits_of}
use Rattle.lto_bits.specs.Word.{wrapped}
use Rattle.ir_meaning.specs.declared.value.Base.{Base}
use Rattle.ir_meaning.specs.declared.value.Base.TheVariants.{Cell, Code}
use Rattle.ir_meaning.specs.declared.value.Value.{Value}
use Rattle.ir_meaning.specs.declared.value.Value.TheVariants.{Number, Pointer, Poison}
use Rattle.ir_meaning.specs.Facts.{Stands}
use Rattle.ir_meaning.specs.Table.{first, when, is_poison, is_number, number_of, any_poison, all_zero, signed_number, constant_index, constant_indices, symbol_at, address_rule}
use Rattle.ir_meaning.proofs.Rules.Operations.{first_cases, when_is, number_is, number_bits, poison_is}

-- ---- poison

no_indices : (m : Memory) (inbounds : Bool) (shape : Form) (v : Value) → address_of m inbounds shape v None ≡ Poison
no_indices m inbounds shape (Number n) = refl
no_indices m inbounds shape (Pointer x i) = refl
no_indices m inbounds shape Poison = refl

index_poison : (reg : Reg) (v : Value) → v ≡ Poison → index_of reg v ≡ None
index_poison (Int w) v e = ap (λ (u : Value). signed_of w (bits_of w u)) e
index_poison Ptr v e = refl

none_behind : (a : Option ℤ) → cons_index a None ≡ None
none_behind None = refl
none_behind (Some i) = refl

poison_indices : (sig : Signature) (ls : Locals) (args : List Argument) → any_poison args ≡ true → indices_of (value_of sig ls) args ≡ None
poison_indices sig ls [] e = absurd (cc e)
poison_indices sig ls (a ∷ more) e = by (or_cases (is_poison a.operand) (any_poison more) e) (λ e'. poison_indices sig ls more e')
  where
    by : (is_poison a.operand ≡ true) ⊎ (any_poison more ≡ true) → (any_poison more ≡ true → indices_of (value_of sig ls) more ≡ None) → indices_of (value_of sig ls) (a ∷ more) ≡ None
    by (inl t) go = ap (λ (i : Option ℤ). cons_index i (indices_of (value_of sig ls) more)) (index_poison a.reg (value_of sig ls a.operand) (poison_is sig ls a.operand t))
    by (inr t) go = ap (cons_index (index_of a.reg (value_of sig ls a.operand))) (go t) ∙ none_behind (index_of a.reg (value_of sig ls a.operand))

-- ---- zero indices lead nowhere

abbrev AreZero : List ℤ → Type 0
AreZero [] = Unit {0}
AreZero (z ∷ zs) = (z ≡ pos 0) × AreZero zs

sum_zero : (o : ℕ) (ds : List ℤ) → AreZero ds → sum_from (pos o) ds ≡ pos o
sum_zero o [] h = refl
sum_zero o (d ∷ ds) h = ap (λ (z : ℤ). sum_from (pos o +ℤ z) ds) h.0 ∙ ap (λ (k : ℕ). sum_from (pos k) ds) (add-zero o) ∙ sum_zero o ds h.1

times_zero : (n : ℕ) → pos 0 *ℤ pos n ≡ pos 0
times_zero n = let e : 0 * n ≡ 0 = omega arith in ap pos e

rounded_zero : (a : ℕ) → rounded 0 a ≡ 0
rounded_zero zero = omega arith
rounded_zero (suc k) =
    let e : 0 + (suc k - 1) ≡ k = omega arith in
    let small : k < suc k = omega arith in
    let z : 0 * suc k ≡ 0 = omega arith in
    ap (λ (n : ℕ). n / suc k * suc k) e ∙ ap (λ (n : ℕ). n * suc k) (div-eq_of_lt small) ∙ z

begins_zero : (packed : Bool) (f : Form) → begins packed 0 f ≡ 0
begins_zero true f = refl
begins_zero false f = rounded_zero (align f)

into_zero : (shape : Form) (zs : List ℤ) → AreZero zs → AreZero (displacements_into shape zs)
into_zero shape [] h = tt
into_zero shape (z ∷ zs) h = subst (λ (i : ℤ). AreZero (displacements_into shape (i ∷ zs))) (sym h.0) (at shape (λ f. into_zero f zs h.1))
  where
    at : (shape : Form) → ((f : Form) → AreZero (displacements_into f zs)) → AreZero (displacements_into shape (pos 0 ∷ zs))
    at (int w) go = tt
    at pointer go = tt
    at (array n of) go = (times_zero (size of), go of)
    at (structure packed no_parts) go = tt
    at (structure packed (part f fs)) go = (ap pos (begins_zero packed f), go f)

displaced_zero : (shape : Form) (zs : List ℤ) → AreZero zs → AreZero (displacements shape zs)
displaced_zero shape [] h = tt
displaced_zero shape (z ∷ zs) h = (ap (λ (i : ℤ). i *ℤ pos (size shape)) h.0 ∙ times_zero (size shape), into_zero shape zs h.1)

zero_index : (w : ℕ) → signed_of w (bits_of w (Number 0)) ≡ Some (pos 0)
zero_index w =
    ap (λ (t : Bool). signed_of w (if t then Some 0 else None)) (lt-ltb 0 (2 ^ w) (pow_pos w))
    ∙ ap (λ (t : Bool). Some (if t then pos 0 else pos 0 -ℤ pos (2 ^ w))) (lt-ltb 0 (2 ^ (w - 1)) (pow_pos (w - 1)))

index_zero : (reg : Reg) (v : Value) → v ≡ Number 0 → (index_of reg v ≡ None) ⊎ (index_of reg v ≡ Some (pos 0))
index_zero (Int w) v e = inr (ap (λ (u : Value). signed_of w (bits_of w u)) e ∙ zero_index w)
index_zero Ptr v e = inl refl

record ZeroIndices (found : Option (List ℤ)) : Type 0 where
  list : List ℤ
  is : found ≡ Some list
  zero_all : AreZero list

zero_indices : (sig : Signature) (ls : Locals) (args : List Argument) → all_zero args ≡ true → (indices_of (value_of sig ls) args ≡ None) ⊎ ZeroIndices (indices_of (value_of sig ls) args)
zero_indices sig ls [] e = inr (record { list = []; is = refl; zero_all = tt })
zero_indices sig ls (a ∷ more) e =
    let parts = and_parts (is_number 0 a.operand) (all_zero more) e in
    by (index_zero a.reg (value_of sig ls a.operand) (number_is sig ls 0 a.operand parts.0)) (zero_indices sig ls more parts.1)
  where
    by : (index_of a.reg (value_of sig ls a.operand) ≡ None) ⊎ (index_of a.reg (value_of sig ls a.operand) ≡ Some (pos 0)) → (indices_of (value_of sig ls) more ≡ None) ⊎ ZeroIndices (indices_of (value_of sig ls) more) → (indices_of (value_of sig ls) (a ∷ more) ≡ None) ⊎ ZeroIndices (indices_of (value_of sig ls) (a ∷ more))
    by (inl e1) more' = inl (ap (λ (i : Option ℤ). cons_index i (indices_of (value_of sig ls) more)) e1)
    by (inr e1) (inl e2) = inl (ap (cons_index (index_of a.reg (value_of sig ls a.operand))) e2 ∙ none_behind (index_of a.reg (value_of sig ls a.operand)))
    by (inr e1) (inr z) = inr (record { list = pos 0 ∷ z.list; is = ap (λ (i : Option ℤ). cons_index i (indices_of (value_of sig ls) more)) e1 ∙ ap (cons_index (Some (pos 0))) z.is; zero_all = (refl, z.zero_all) })

stays_if : (b c : Bool) (x : Base) (o n : ℕ) → (b ≡ true → n ≡ o) → Stands (Pointer x o) (pointer_or_poison x (if b && c then Some n else None))
stays_if false c x o n h = inl refl
stays_if true true x o n h = inr (ap (Pointer x) (sym (h refl)))
stays_if true false x o n h = inl refl

base_stands : (m : Memory) (inbounds : Bool) (shape : Form) (zs : List ℤ) → AreZero zs → (v : Value) → Stands v (address_of m inbounds shape v (Some zs))
unfolding new_offset
base_stands m inbounds shape zs h Poison = inl refl
base_stands m inbounds shape zs h (Number n) = inl refl
base_stands m inbounds shape zs h (Pointer x o) =
    stays_if (nat_lt o (2 ^ 64)) (not inbounds || (are_all_zero zs || stays_within (object_size m x) (pos o) (displacements shape zs))) x o _ (λ e. ap (wrapped 64) (sum_zero o (displacements shape zs) (displaced_zero shape zs h)) ∙ mod-eq_of_lt (ltb-true o (2 ^ 64) e))

-- ---- a symbol and constant indices

index_is : (sig : Signature) (ls : Locals) (reg : Reg) (o : Operand) (z : ℤ) → constant_index reg o ≡ Some z → index_of reg (value_of sig ls o) ≡ Some z
index_is sig ls (Int w) o z e = by (number_of w o) refl e
  where
    by : (b : Option ℕ) → number_of w o ≡ b → signed_number w b ≡ Some z → signed_of w (bits_of w (value_of sig ls o)) ≡ Some z
    by (Some n) q e' = ap (signed_of w) (number_bits sig ls w n o q) ∙ e'
    by None q e' = absurd (cc e')
index_is sig ls Ptr o z e = absurd (cc e)

indices_are : (sig : Signature) (ls : Locals) (args : List Argument) (is : List ℤ) → constant_indices args ≡ Some is → indices_of (value_of sig ls) args ≡ Some is
indices_are sig ls [] is e = e
indices_are sig ls (a ∷ more) is e = by (constant_index a.reg a.operand) (constant_indices more) refl refl e (λ js e'. indices_are sig ls more js e')
  where
    by : (i : Option ℤ) (js : Option (List ℤ)) → constant_index a.reg a.operand ≡ i → constant_indices more ≡ js → cons_index i js ≡ Some is → ((ks : List ℤ) → constant_indices more ≡ Some ks → indices_of (value_of sig ls) more ≡ Some ks) → indices_of (value_of sig ls) (a ∷ more) ≡ Some is
    by (Some z) (Some zs) ei ejs e' go = ap (λ (i : Option ℤ). cons_index i (indices_of (value_of sig ls) more)) (index_is sig ls a.reg a.operand z ei) ∙ ap (cons_index (Some z)) (go zs ejs) ∙ e'
    by None js ei ejs e' go = absurd (cc e')
    by (Some z) None ei ejs e' go = absurd (cc e')

moved_if : (b : Bool) (x : Base) (n : ℕ) → Stands (Pointer x n) (pointer_or_poison x (if b then Some n else None))
moved_if true x n = inr refl
moved_if false x n = inl refl

symbol_stands : (m : Memory) (inbounds : Bool) (shape : Form) (kind : SymbolKind) (s : Symbol) (o : ℕ) (is : List ℤ) → Stands (named kind s (wrapped 64 (sum_from (pos o) (displacements shape is)))) (address_of m inbounds shape (named kind s o) (Some is))
unfolding new_offset
symbol_stands m inbounds shape (AFunction params result) s o is = moved_if _ (Code s) _
symbol_stands m inbounds shape (AVariable k) s o is = moved_if _ (Cell k) _
symbol_stands m inbounds shape (AHost host) s o is = moved_if _ (Code s) _
symbol_stands m inbounds shape Missing s o is = inl refl

moved_symbol : (sig : Signature) (ls : Locals) (m : Memory) (inbounds : Bool) (shape : Form) (base v : Operand) (args : List Argument) → symbol_at shape base (constant_indices args) ≡ Some v → Stands (value_of sig ls v) (address_of m inbounds shape (value_of sig ls base) (indices_of (value_of sig ls) args))
moved_symbol sig ls m inbounds shape (Named s o) v args e = by (constant_indices args) refl e
  where
    by : (is : Option (List ℤ)) → constant_indices args ≡ is → symbol_at shape (Named s o) is ≡ Some v → Stands (value_of sig ls v) (address_of m inbounds shape (value_of sig ls (Named s o)) (indices_of (value_of sig ls) args))
    by (Some is) q e' =
        let to : Named s (wrapped 64 (sum_from (pos o) (displacements shape is))) ≡ v = cc e' in
        subst (λ (u : Operand). Stands (value_of sig ls u) (address_of m inbounds shape (value_of sig ls (Named s o)) (indices_of (value_of sig ls) args))) to (subst (λ (js : Option (List ℤ)). Stands (value_of sig ls (Named s (wrapped 64 (sum_from (pos o) (displacements shape is))))) (address_of m inbounds shape (value_of sig ls (Named s o)) js)) (sym (indices_are sig ls args is q)) (symbol_stands m inbounds shape (sig.kind s) s o is))
    by None q e' = absurd (cc e')
moved_symbol sig ls m inbounds shape (Local x) v args e = absurd (cc e)
moved_symbol sig ls m inbounds shape (Constant w n) v args e = absurd (cc e)
moved_symbol sig ls m inbounds shape Null v args e = absurd (cc e)
moved_symbol sig ls m inbounds shape (PoisonOf reg) v args e = absurd (cc e)

-- ---- all rows

pub addresses_stand : (sig : Signature) (ls : Locals) (m : Memory) (inbounds : Bool) (shape : Form) (base v : Operand) (args : List Argument) → address_rule shape base args ≡ Some v → Stands (value_of sig ls v) (address_of m inbounds shape (value_of sig ls base) (indices_of (value_of sig ls) args))
addresses_stand sig ls m inbounds shape base v args e = one (first_cases (when (is_poison base || any_poison args) (PoisonOf Ptr)) (first (when (all_zero args) base) (symbol_at shape base (constant_indices args))) v e)
  where
    poison : (is_poison base ≡ true) ⊎ (any_poison args ≡ true) → address_of m inbounds shape (value_of sig ls base) (indices_of (value_of sig ls) args) ≡ Poison
    poison (inl t) = ap (λ (u : Value). address_of m inbounds shape u (indices_of (value_of sig ls) args)) (poison_is sig ls base t)
    poison (inr t) = ap (address_of m inbounds shape (value_of sig ls base)) (poison_indices sig ls args t) ∙ no_indices m inbounds shape (value_of sig ls base)

    at_base : (indices_of (value_of sig ls) args ≡ None) ⊎ ZeroIndices (indices_of (value_of sig ls) args) → Stands (value_of sig ls base) (address_of m inbounds shape (value_of sig ls base) (indices_of (value_of sig ls) args))
    at_base (inl q) = inl (ap (address_of m inbounds shape (value_of sig ls base)) q ∙ no_indices m inbounds shape (value_of sig ls base))
    at_base (inr z) = subst (λ (js : Option (List ℤ)). Stands (value_of sig ls base) (address_of m inbounds shape (value_of sig ls base) js)) (sym z.is) (base_stands m inbounds shape z.list z.zero_all (value_of sig ls base))

    two : (when (all_zero args) base ≡ Some v) ⊎ (symbol_at shape base (constant_indices args) ≡ Some v) → Stands (value_of sig ls v) (address_of m inbounds shape (value_of sig ls base) (indices_of (value_of sig ls) args))
    two (inl e') =
        let k = when_is (all_zero args) base v e' in
        subst (λ (u : Operand). Stands (value_of sig ls u) (address_of m inbounds shape (value_of sig ls base) (indices_of (value_of sig ls) args))) k.1 (at_base (zero_indices sig ls args k.0))
    two (inr e') = moved_symbol sig ls m inbounds shape base v args e'

    one : (when (is_poison base || any_poison args) (PoisonOf Ptr) ≡ Some v) ⊎ (first (when (all_zero args) base) (symbol_at shape base (constant_indices args)) ≡ Some v) → Stands (value_of sig ls v) (address_of m inbounds shape (value_of sig ls base) (indices_of (value_of sig ls) args))
    one (inl e') = inl (poison (or_cases (is_poison base) (any_poison args) (when_is (is_poison base || any_poison args) (PoisonOf Ptr) v e').0))
    one (inr e') = two (first_cases (when (all_zero args) base) (symbol_at shape base (constant_indices args)) v e')
