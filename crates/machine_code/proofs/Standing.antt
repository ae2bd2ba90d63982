-- The sources that stand for operands.
use Rattle.std.proofs.Common.{◌≡◌, ℕ, List, [], ◌∷◌, refl, sym, ap, ap₂, subst, ◌∙◌}
use Rattle.std.specs.Prelude.{ℤ, All, Option}
use Rattle.std.specs.List.{AllZip}
use Rattle.std.proofs.lemmas.List.Elements.{All-cons, All-head, All-nil, All-tail}
use Rattle.ir_tree.specs.declared.operand.Argument.{Argument}
use Rattle.ir_tree.specs.declared.operand.Operand.{Operand}
use Rattle.ir_tree.specs.declared.operand.Operand.TheVariants as operand
use Rattle.ir_tree.specs.declared.operand.Reg.{Reg}
use Rattle.ir_tree.specs.declared.operand.Symbol.{Symbol}
use Rattle.ir_meaning.specs.Frame.{Locals, Signature, cons_index, index_of, indices_of, regs_of, value_of, values_of}
use Rattle.ir_meaning.specs.Memory.{Memory as MeantMemory}
use Rattle.ir_meaning.specs.declared.value.Value.{Value as MeantValue}
use Rattle.ir_machine.specs.Marks.{HasWidth}
use Rattle.ir_machine.specs.Meant.{meant}
use Rattle.ir_machine.specs.declared.memory.Memory.{Memory}
use Rattle.ir_machine.specs.declared.scalar.Base.TheVariants as base
use Rattle.ir_machine.specs.declared.scalar.Scalar.{Scalar}
use Rattle.ir_machine.specs.declared.scalar.Scalar.TheVariants as scalar
use Rattle.ir_interp.specs.Locals.{AreKnown, IsValid}
use Rattle.ir_interp.specs.Tasks as tasks
use Rattle.ir_interp.specs.declared.source.Source.TheVariants.{Known, Register}
use Rattle.ir_interp.specs.declared.source.Typed.{Typed}
use Rattle.machine_code.specs.MemoryAddresses.{address_at}
use Rattle.machine_code.specs.Addresses.{AreValid, HasAddresses, base_in}
use Rattle.machine_code.specs.Sources.{IsTyped, StandsFor}
use Rattle.machine_code.specs.declared.addresses.Addresses.{Addresses}

pub local_stands : (t : Addresses) (x : ℕ) → StandsFor t (operand.Local x) (Register x)
local_stands t x = record { means = λ names sig h locals. refl; known = λ names m memory h. tt }

pub number_stands : (t : Addresses) (w bits : ℕ) → StandsFor t (operand.Number w bits) (Known (scalar.Number bits))
number_stands t w bits = record { means = λ names sig h locals. refl; known = λ names m memory h. (tt, tt) }

pub null_stands : (t : Addresses) → StandsFor t operand.Null (Known (scalar.Pointer (record { base = base.Null; offset = 0 })))
null_stands t = record { means = λ names sig h locals. refl; known = λ names m memory h. (tt, tt) }

pub poison_stands : (t : Addresses) (reg : Reg) → StandsFor t (operand.Poison reg) (Known scalar.Poison)
poison_stands t reg = record { means = λ names sig h locals. refl; known = λ names m memory h. (tt, tt) }

pub symbol_stands : (t : Addresses) (s : Symbol) (offset : ℕ) (v : Scalar) → v ≡ address_at (base_in t s) offset → StandsFor t (operand.Symbol s offset) (Known v)
symbol_stands t s offset v e = record {
  means = λ names sig h locals. ap (meant names) e ∙ h s offset;
  known = λ names m memory h. subst (λ (x : Scalar). IsValid names m memory x) (sym e) (h s offset);
}

-- ---- by what an operand is

pub local_read : (t : Addresses) (o : Operand) (x : ℕ) → o ≡ operand.Local x → StandsFor t o (Register x)
local_read t o x e = subst (λ (p : Operand). StandsFor t p (Register x)) (sym e) (local_stands t x)

pub number_read : (t : Addresses) (o : Operand) (w bits : ℕ) → o ≡ operand.Number w bits → StandsFor t o (Known (scalar.Number bits))
number_read t o w bits e = subst (λ (p : Operand). StandsFor t p (Known (scalar.Number bits))) (sym e) (number_stands t w bits)

pub null_read : (t : Addresses) (o : Operand) → o ≡ operand.Null → StandsFor t o (Known (scalar.Pointer (record { base = base.Null; offset = 0 })))
null_read t o e = subst (λ (p : Operand). StandsFor t p (Known (scalar.Pointer (record { base = base.Null; offset = 0 })))) (sym e) (null_stands t)

pub poison_read : (t : Addresses) (o : Operand) (reg : Reg) → o ≡ operand.Poison reg → StandsFor t o (Known scalar.Poison)
poison_read t o reg e = subst (λ (p : Operand). StandsFor t p (Known scalar.Poison)) (sym e) (poison_stands t reg)

pub symbol_read : (t : Addresses) (o : Operand) (s : Symbol) (offset : ℕ) (v : Scalar) → o ≡ operand.Symbol s offset → v ≡ address_at (base_in t s) offset → StandsFor t o (Known v)
symbol_read t o s offset v e f = subst (λ (p : Operand). StandsFor t p (Known v)) (sym e) (symbol_stands t s offset v f)

-- ---- lists of them

pub typed_values : (t : Addresses) (rest : List Argument) (bs : List Typed) → AllZip (IsTyped t) rest bs → (names : List Symbol) (sig : Signature) → HasAddresses names sig t →
    (locals : Locals) → tasks.values_meant names locals bs ≡ values_of (value_of sig locals) rest
typed_values t [] [] z names sig h locals = refl
typed_values t [] (b ∷ bs) z names sig h locals = absurd z
typed_values t (a ∷ rest) [] z names sig h locals = absurd z
typed_values t (a ∷ rest) (b ∷ bs) z names sig h locals =
    ap₂ (λ (v : MeantValue) (vs : List MeantValue). v ∷ vs) (z.0.stands.means names sig h locals)
    (typed_values t rest bs z.1 names sig h locals)

pub typed_regs : (t : Addresses) (rest : List Argument) (bs : List Typed) → AllZip (IsTyped t) rest bs → tasks.regs_of bs ≡ regs_of rest
typed_regs t [] [] z = refl
typed_regs t [] (b ∷ bs) z = absurd z
typed_regs t (a ∷ rest) [] z = absurd z
typed_regs t (a ∷ rest) (b ∷ bs) z = ap₂ (λ (r : Reg) (rs : List Reg). r ∷ rs) z.0.reg (typed_regs t rest bs z.1)

pub typed_indices : (t : Addresses) (rest : List Argument) (bs : List Typed) → AllZip (IsTyped t) rest bs → (names : List Symbol) (sig : Signature) → HasAddresses names sig t →
    (locals : Locals) → tasks.indices_meant names locals bs ≡ indices_of (value_of sig locals) rest
typed_indices t [] [] z names sig h locals = refl
typed_indices t [] (b ∷ bs) z names sig h locals = absurd z
typed_indices t (a ∷ rest) [] z names sig h locals = absurd z
typed_indices t (a ∷ rest) (b ∷ bs) z names sig h locals =
    ap₂ (λ (i : Option ℤ) (is : Option (List ℤ)). cons_index i is)
    (ap₂ (λ (r : Reg) (v : MeantValue). index_of r v) z.0.reg (z.0.stands.means names sig h locals))
    (typed_indices t rest bs z.1 names sig h locals)

pub typed_known : (t : Addresses) (rest : List Argument) (bs : List Typed) → AllZip (IsTyped t) rest bs → (names : List Symbol) (m : Memory) (memory : MeantMemory) → AreValid names m memory t →
    AreKnown names m memory bs
typed_known t [] [] z names m memory h = tt
typed_known t [] (b ∷ bs) z names m memory h = absurd z
typed_known t (a ∷ rest) [] z names m memory h = absurd z
typed_known t (a ∷ rest) (b ∷ bs) z names m memory h = (z.0.stands.known names m memory h, typed_known t rest bs z.1 names m memory h)

pub typed_widths : (t : Addresses) (rest : List Argument) (bs : List Typed) → AllZip (IsTyped t) rest bs → All (λ (a : Argument). HasWidth a.reg) rest → All (λ (b : Typed). HasWidth b.reg) bs
typed_widths t [] [] z w = All-nil (λ (b : Typed). HasWidth b.reg)
typed_widths t [] (b ∷ bs) z w = absurd z
typed_widths t (a ∷ rest) [] z w = absurd z
typed_widths t (a ∷ rest) (b ∷ bs) z w =
    All-cons (λ (x : Typed). HasWidth x.reg) b bs (subst (λ (r : Reg). HasWidth r) (sym z.0.reg) (All-head (λ (x : Argument). HasWidth x.reg) a rest w))
    (typed_widths t rest bs z.1 (All-tail (λ (x : Argument). HasWidth x.reg) a rest w))
