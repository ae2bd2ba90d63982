-- Arguments that are passed one after another, cases that are tried one after another.
use Rattle.std.proofs.Common.{◌≡◌, ℕ, zero, suc, ◌+◌, ◌<◌, ◌≤◌, Bool, true, false, nat_eq, if◌then◌else◌, List, [], ◌∷◌, ◌++◌, take, drop, length, get_or, refl, sym, ap, ◌∙◌, eq-eqb, ne_eqb, arith}
use Rattle.std.proofs.Math.Seq.{drop-cons}
use Rattle.ir_tree.specs.declared.operand.Reg.{Reg}
use Rattle.ir_tree.specs.declared.operand.Symbol.{Symbol}
use Rattle.ir_meaning.specs.Execute.{Broke, puts_bits, puts_char, regs_eq}
use Rattle.ir_meaning.specs.Operate.{bits_of}
use Rattle.std.specs.List.{slice_index_or}
use Rattle.ir_meaning.specs.Fault as fault
use Rattle.ir_meaning.specs.Frame.{Locals}
use Rattle.ir_meaning.specs.Memory.{Memory as MeantMemory}
use Rattle.ir_tree.specs.declared.cause.Cause.TheVariants.{PoisonArgument}
use Rattle.ir_meaning.specs.declared.value.Value.{Value as MeantValue}
use Rattle.ir_machine.specs.Meant.{meant}
use Rattle.ir_machine.specs.declared.memory.Memory.{Memory}
use Rattle.ir_machine.specs.declared.scalar.Scalar.{Scalar}
use Rattle.ir_interp.specs.Locals.{AreKnown, IsKnown, IsValid, source_meant}
use Rattle.ir_interp.specs.Tasks.{regs_of, values_meant}
use Rattle.ir_interp.specs.declared.source.Typed.{Typed}
use Rattle.ir_interp.specs.Calls.{AreValid, all_meant}
use Rattle.ir_interp.specs.Exits.{case_target}
use Rattle.ir_interp.specs.declared.exit.Case.{Case}

-- ---- arguments

pub argument_known : (names : List Symbol) (m : Memory) (memory : MeantMemory) (ts : List Typed) (k : ℕ) (d : Typed) → AreKnown names m memory ts → k < length ts →
    IsKnown names m memory (get_or ts k d).source
argument_known names m memory [] k d h l = absurd (omega (arith, l))
argument_known names m memory (t ∷ ts) zero d h l = h.0
argument_known names m memory (t ∷ ts) (suc k) d h l = argument_known names m memory ts k d h.1 (omega (arith, l))

pub none_passed : (names : List Symbol) (locals : Locals) (ts : List Typed) → values_meant names locals (take zero ts) ≡ []
none_passed names locals [] = refl
none_passed names locals (t ∷ ts) = refl

pub passed_more : (names : List Symbol) (locals : Locals) (ts : List Typed) (k : ℕ) (d : Typed) (vs : List Scalar) (v : Scalar) → k < length ts →
    all_meant names vs ≡ values_meant names locals (take k ts) → meant names v ≡ source_meant names locals (get_or ts k d).source →
    all_meant names (vs ++ v ∷ []) ≡ values_meant names locals (take (suc k) ts)
passed_more names locals [] k d vs v l e f = absurd (omega (arith, l))
passed_more names locals (t ∷ ts) zero d [] v l e f =
    ap (λ (w : MeantValue). w ∷ []) f ∙ ap (λ (ws : List MeantValue). source_meant names locals t.source ∷ ws) (sym (none_passed names locals ts))
passed_more names locals (t ∷ ts) zero d (w ∷ ws) v l e f = absurd (cc e)
passed_more names locals (t ∷ ts) (suc k) d [] v l e f = absurd (cc e)
passed_more names locals (t ∷ ts) (suc k) d (w ∷ ws) v l e f =
    let head : meant names w ≡ source_meant names locals t.source = cc e in
    let rest : all_meant names ws ≡ values_meant names locals (take k ts) = cc e in
    ap (λ (x : MeantValue). x ∷ all_meant names (ws ++ v ∷ [])) head
    ∙ ap (λ (xs : List MeantValue). source_meant names locals t.source ∷ xs) (passed_more names locals ts k d ws v (omega (arith, l)) rest f)

pub valid_more : (names : List Symbol) (m : Memory) (memory : MeantMemory) (vs : List Scalar) (v : Scalar) → AreValid names m memory vs → IsValid names m memory v → AreValid names m memory (vs ++ v ∷ [])
valid_more names m memory [] v h k = (k, tt)
valid_more names m memory (w ∷ ws) v h k = (h.0, valid_more names m memory ws v h.1 k)

-- ---- putchar

-- one argument
pub one_put : (names : List Symbol) (memory : MeantMemory) (place : ℕ) (vs : List Scalar) (d : Scalar) → 1 ≤ length vs → length vs < 2 →
    puts_char memory place (all_meant names vs) ≡ puts_bits memory place (bits_of 32 (meant names (slice_index_or vs 0 d)))
one_put names memory place [] d h k = absurd (omega (arith, h))
one_put names memory place (v ∷ []) d h k = refl
one_put names memory place (v ∷ w ∷ vs) d h k = absurd (omega (arith, k))

-- more than one argument
pub many_put : (names : List Symbol) (memory : MeantMemory) (place : ℕ) (vs : List Scalar) → 2 ≤ length vs → puts_char memory place (all_meant names vs) ≡ Broke (fault.Undefined PoisonArgument)
many_put names memory place [] h = absurd (omega (arith, h))
many_put names memory place (v ∷ []) h = absurd (omega (arith, h))
many_put names memory place (v ∷ w ∷ ws) h = refl

-- ---- cases

pub case_found : (cases : List Case) (k : ℕ) (d : Case) (default n : ℕ) → k < length cases → (get_or cases k d).bits ≡ n →
    (get_or cases k d).target ≡ case_target (drop k cases) default n
case_found cases k d default n h e =
    let here : nat_eq (get_or cases k d).bits n ≡ true = eq-eqb (get_or cases k d).bits n e in
    ap (λ (b : Bool). if b then (get_or cases k d).target else case_target (drop (suc k) cases) default n) (sym here)
    ∙ ap (λ (cs : List Case). case_target cs default n) (sym (drop-cons cases k d h))

pub case_passed : (cases : List Case) (k : ℕ) (d : Case) (default n : ℕ) → k < length cases → ((get_or cases k d).bits ≡ n → ⊥) → case_target (drop (k + 1) cases) default n ≡ case_target (drop k cases) default n
case_passed cases k d default n h e =
    let other : nat_eq (get_or cases k d).bits n ≡ false = ne_eqb (get_or cases k d).bits n e in
    let one : suc k ≡ k + 1 = omega arith in
    sym (ap (λ (cs : List Case). case_target cs default n) (drop-cons cases k d h)
    ∙ ap (λ (b : Bool). if b then (get_or cases k d).target else case_target (drop (suc k) cases) default n) other
    ∙ ap (λ (j : ℕ). case_target (drop j cases) default n) one)

-- ---- types

-- no parameters, and an argument
pub more_typed : (ps : List Reg) (ts : List Typed) → length ps < 1 → 1 ≤ length ts → false ≡ regs_eq ps (regs_of ts)
more_typed [] [] h k = absurd (omega (arith, k))
more_typed [] (t ∷ ts) h k = refl
more_typed (p ∷ ps) ts h k = absurd (omega (arith, h))

-- a parameter, and no arguments
pub fewer_typed : (ps : List Reg) (ts : List Typed) → 1 ≤ length ps → length ts < 1 → false ≡ regs_eq ps (regs_of ts)
fewer_typed [] ts h k = absurd (omega (arith, h))
fewer_typed (p ∷ ps) [] h k = refl
fewer_typed (p ∷ ps) (t ∷ ts) h k = absurd (omega (arith, k))

-- neither
pub none_typed : (ps : List Reg) (ts : List Typed) → length ps < 1 → length ts < 1 → true ≡ regs_eq ps (regs_of ts)
none_typed [] [] h k = refl
none_typed [] (t ∷ ts) h k = absurd (omega (arith, k))
none_typed (p ∷ ps) ts h k = absurd (omega (arith, h))
