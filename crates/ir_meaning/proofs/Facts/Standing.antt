-- Facts that hold of the program's own locals: for each, the value of its operand may stand for the local's.
use Rattle.std.proofs.Common.{◌≡◌, ℕ, Bool, true, false, ◌||◌, ◌==◌, if◌then◌else◌, [], ◌∷◌, Option, Some, None, ◌⊎◌, inl, inr, refl, sym, ap, subst}
use Rattle.std.proofs.lemmas.Bool.{cases_eq, ne_eqb, eq-eqb}
use Rattle.ir_tree.specs.declared.operand.Operand.{Operand}
use Rattle.ir_tree.specs.declared.operand.Operand.TheVariants.{Local, Number as Constant, Null, Poison as PoisonOf, Symbol as Named}
use Rattle.ir_meaning.specs.Frame.{Locals, Signature, look_up, value_of}
use Rattle.ir_meaning.specs.Relate.{Pairing, Agrees}
use Rattle.ir_meaning.specs.declared.value.Value.{Value}
use Rattle.ir_meaning.specs.Facts.{Facts, is_local, without, with_fact, replaced_local, replaced, Stands, IsOther, Has}

-- ---- values that may stand

pub stands_agree : (w : Pairing) (n : ℕ) (l u r : Value) → Agrees w n l u → Stands u r → Agrees w n l r
stands_agree w n l u r a (inl e) = subst (λ (v : Value). Agrees w n l v) (sym e) tt
stands_agree w n l u r a (inr e) = subst (λ (v : Value). Agrees w n l v) e a

-- the facts hold of these locals
abbrev pub AllHold : Signature → Locals → Facts → Type 0
AllHold sig ls [] = Unit {0}
AllHold sig ls ((x, v) ∷ fs) = Stands (value_of sig ls v) (look_up ls x) × AllHold sig ls fs

pub has_holds : (sig : Signature) (ls : Locals) (fs : Facts) (x : ℕ) (v : Operand) → AllHold sig ls fs → Has fs x v →
    Stands (value_of sig ls v) (look_up ls x)
has_holds sig ls [] x v h k = absurd k
has_holds sig ls ((y, u) ∷ fs) x v h (inl e) = subst (λ (i : ℕ). Stands (value_of sig ls v) (look_up ls i)) e.0
    (subst (λ (o : Operand). Stands (value_of sig ls o) (look_up ls y)) e.1 h.0)
has_holds sig ls ((y, u) ∷ fs) x v h (inr k) = has_holds sig ls fs x v h.1 k

pub replaced_stands : (sig : Signature) (ls : Locals) (fs : Facts) → AllHold sig ls fs → (x : ℕ) →
    Stands (value_of sig ls (replaced_local fs x)) (look_up ls x)
replaced_stands sig ls [] h x = inr refl
replaced_stands sig ls ((y, v) ∷ fs) h x = by (cases_eq y x) (replaced_stands sig ls fs h.1 x)
  where
    by : (y ≡ x) ⊎ (y ≡ x → ⊥) → Stands (value_of sig ls (replaced_local fs x)) (look_up ls x) →
        Stands (value_of sig ls (if y == x then v else replaced_local fs x)) (look_up ls x)
    by (inl e) rest =
        let here = subst (λ (i : ℕ). Stands (value_of sig ls v) (look_up ls i)) e h.0 in
        subst (λ (b : Bool). Stands (value_of sig ls (if b then v else replaced_local fs x)) (look_up ls x)) (sym (eq-eqb y x e)) here
    by (inr ne) rest = subst (λ (b : Bool). Stands (value_of sig ls (if b then v else replaced_local fs x)) (look_up ls x))
        (sym (ne_eqb y x ne)) rest

pub operand_stands : (sig : Signature) (ls : Locals) (fs : Facts) → AllHold sig ls fs → (o : Operand) →
    Stands (value_of sig ls (replaced fs o)) (value_of sig ls o)
operand_stands sig ls fs h (Local x) = replaced_stands sig ls fs h x
operand_stands sig ls fs h (Constant w bits) = inr refl
operand_stands sig ls fs h Null = inr refl
operand_stands sig ls fs h (PoisonOf reg) = inr refl
operand_stands sig ls fs h (Named s o) = inr refl

-- a new value of a local beside another operand
pub other_value : (sig : Signature) (y : ℕ) (r : Value) (ls : Locals) (o : Operand) → is_local y o ≡ false →
    value_of sig ((y, r) ∷ ls) o ≡ value_of sig ls o
other_value sig y r ls (Local x) e = ap (λ (b : Bool). if b then r else look_up ls x) (ne_eqb y x (λ s. let q = eq-eqb x y (sym s) in
    absurd (cc (q, e))))
other_value sig y r ls (Constant w bits) e = refl
other_value sig y r ls Null e = refl
other_value sig y r ls (PoisonOf reg) e = refl
other_value sig y r ls (Named s o) e = refl

pub or_parts : (a b : Bool) → (a || b) ≡ false → (a ≡ false) × (b ≡ false)
or_parts false false e = (refl, refl)
or_parts true b e = absurd (cc e)
or_parts false true e = absurd (cc e)

-- the facts that a new value leaves still hold
pub without_holds : (sig : Signature) (y : ℕ) (r : Value) (ls : Locals) (fs : Facts) → AllHold sig ls fs →
    AllHold sig ((y, r) ∷ ls) (without y fs)
without_holds sig y r ls [] h = tt
without_holds sig y r ls ((x, v) ∷ fs) h = by ((x == y) || is_local y v) refl (without_holds sig y r ls fs h.1)
  where
    by : (b : Bool) → ((x == y) || is_local y v) ≡ b → AllHold sig ((y, r) ∷ ls) (without y fs) →
        AllHold sig ((y, r) ∷ ls) (if b then without y fs else (x, v) ∷ without y fs)
    by true e rest = rest
    by false e rest =
        let o = or_parts (x == y) (is_local y v) e in
        let a = other_value sig y r ls v o.1 in
        let b' = other_value sig y r ls (Local x) o.0 in
        let s = subst (λ (z : Value). Stands z (look_up ls x)) (sym a) h.0 in
        (subst (λ (z : Value). Stands (value_of sig ((y, r) ∷ ls) v) z) (sym b') s, rest)

-- and hold where nothing is bound
pub without_same : (sig : Signature) (y : ℕ) (ls : Locals) (fs : Facts) → AllHold sig ls fs → AllHold sig ls (without y fs)
without_same sig y ls [] h = tt
without_same sig y ls ((x, v) ∷ fs) h = by ((x == y) || is_local y v) (without_same sig y ls fs h.1)
  where
    by : (b : Bool) → AllHold sig ls (without y fs) → AllHold sig ls (if b then without y fs else (x, v) ∷ without y fs)
    by true rest = rest
    by false rest = (h.0, rest)

-- behind a line that gave a value for which its candidate stands
pub fact_holds : (sig : Signature) (y : ℕ) (r : Value) (ls : Locals) (fs : Facts) (o : Option Operand) → IsOther y o →
    ((v : Operand) → o ≡ Some v → Stands (value_of sig ls v) r) → AllHold sig ls fs →
    AllHold sig ((y, r) ∷ ls) (with_fact y o (without y fs))
fact_holds sig y r ls fs None other stands h = without_holds sig y r ls fs h
fact_holds sig y r ls fs (Some v) other stands h =
    let a = other_value sig y r ls v other in
    let s = subst (λ (z : Value). Stands z r) (sym a) (stands v refl) in (
      subst (λ (b : Bool). Stands (value_of sig ((y, r) ∷ ls) v) (if b then r else look_up ls y)) (sym (eq-eqb y y refl)) s,
      without_holds sig y r ls fs h,
    )
