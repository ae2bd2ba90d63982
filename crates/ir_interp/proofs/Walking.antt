-- Walks by indices that registers hold.
use Rattle.std.proofs.Common.{◌≡◌, ℕ, zero, suc, ◌+◌, ◌<◌, length, get_or, drop, arith, Bool, ℤ, List, [], ◌∷◌, Option, Some, None, refl, sym, ap, ◌∙◌}
use Rattle.std.proofs.Math.Seq.{drop-cons}
use Rattle.ir_tree.specs.Forms.{Form}
use Rattle.ir_tree.specs.declared.operand.Symbol.{Symbol}
use Rattle.ir_meaning.specs.Address.{address_of, new_offset, pointer_or_poison}
use Rattle.ir_meaning.specs.Frame.{Locals, cons_index, index_of}
use Rattle.ir_meaning.specs.Memory.{Memory as MeantMemory, object_size}
use Rattle.ir_meaning.specs.declared.value.Base.{Base as MeantBase}
use Rattle.ir_meaning.specs.declared.value.Value.TheVariants.{Pointer, Poison}
use Rattle.ir_machine.specs.Walking.{ends_at}
use Rattle.ir_machine.specs.declared.walk.Walk.{Walk}
use Rattle.ir_machine.specs.Meant.{meant}
use Rattle.ir_machine.specs.declared.memory.Memory.{Memory}
use Rattle.ir_machine.specs.declared.scalar.Pointer.{Pointer as ScalarPointer}
use Rattle.ir_machine.specs.declared.scalar.Scalar.{Scalar}
use Rattle.ir_machine.specs.declared.scalar.Scalar.TheVariants as scalar
use Rattle.ir_interp.specs.Locals.{AreKnown, IsKnown, source_meant}
use Rattle.ir_interp.specs.Tasks.{indices_meant, offset_by}
use Rattle.ir_interp.specs.declared.source.Typed.{Typed}

-- where further indices lead, where none is poison
abbrev pub walked : Bool → Walk → Option (List ℤ) → Option ℕ
walked inbounds w None = None
walked inbounds w (Some is) = ends_at inbounds w is

pub walk_begins : (inbounds : Bool) (w : Walk) (shape : Form) (size offset : ℕ) (is : Option (List ℤ)) →
    ((js : List ℤ) → ends_at inbounds w js ≡ new_offset inbounds shape size offset js) → walked inbounds w is ≡ offset_by inbounds shape size offset is
walk_begins inbounds w shape size offset None h = refl
walk_begins inbounds w shape size offset (Some is) h = h is

pub walk_steps : (inbounds : Bool) (w w' : Walk) (o : Option ℤ) (i : ℤ) (rest : Option (List ℤ)) → o ≡ Some i →
    ((is : List ℤ) → ends_at inbounds w' is ≡ ends_at inbounds w (i ∷ is)) → walked inbounds w' rest ≡ walked inbounds w (cons_index o rest)
walk_steps inbounds w w' o i None e h = ap (λ (x : Option ℤ). walked inbounds w (cons_index x None)) (sym e)
walk_steps inbounds w w' o i (Some is) e h = h is ∙ ap (λ (x : Option ℤ). walked inbounds w (cons_index x (Some is))) (sym e)

pub walk_none : (inbounds : Bool) (w : Walk) (o : Option ℤ) (rest : Option (List ℤ)) → o ≡ None → walked inbounds w (cons_index o rest) ≡ None
walk_none inbounds w o None e = ap (λ (x : Option ℤ). walked inbounds w (cons_index x None)) e
walk_none inbounds w o (Some is) e = ap (λ (x : Option ℤ). walked inbounds w (cons_index x (Some is))) e

pub address_is : (memory : MeantMemory) (inbounds : Bool) (shape : Form) (x : MeantBase) (o : ℕ) (is : Option (List ℤ)) →
    pointer_or_poison x (offset_by inbounds shape (object_size memory x) o is) ≡ address_of memory inbounds shape (Pointer x o) is
address_is memory inbounds shape x o None = refl
address_is memory inbounds shape x o (Some is) = refl

-- an address on what is no pointer
pub no_address : (names : List Symbol) (memory : MeantMemory) (inbounds : Bool) (shape : Form) (v : Scalar) (is : Option (List ℤ)) →
    ((p : ScalarPointer) → v ≡ scalar.Pointer p → ⊥) → Poison ≡ address_of memory inbounds shape (meant names v) is
no_address names memory inbounds shape (scalar.Number n) None h = refl
no_address names memory inbounds shape (scalar.Number n) (Some is) h = refl
no_address names memory inbounds shape (scalar.Pointer p) is h = absurd (h p refl)
no_address names memory inbounds shape scalar.Poison None h = refl
no_address names memory inbounds shape scalar.Poison (Some is) h = refl

-- the index that is left first
pub indices_split : (names : List Symbol) (locals : Locals) (ts : List Typed) (k : ℕ) (d : Typed) → k < length ts →
    cons_index (index_of (get_or ts k d).reg (source_meant names locals (get_or ts k d).source)) (indices_meant names locals (drop (k + 1) ts)) ≡ indices_meant names locals (drop k ts)
indices_split names locals ts k d h =
    let one : k + 1 ≡ suc k = omega arith in
    ap (λ (j : ℕ). cons_index (index_of (get_or ts k d).reg (source_meant names locals (get_or ts k d).source)) (indices_meant names locals (drop j ts))) one
    ∙ ap (λ (xs : List Typed). indices_meant names locals xs) (sym (drop-cons ts k d h))

pub typed_known : (names : List Symbol) (m : Memory) (memory : MeantMemory) (ts : List Typed) (k : ℕ) (d : Typed) → AreKnown names m memory ts → k < length ts →
    IsKnown names m memory (get_or ts k d).source
typed_known names m memory [] k d h l = absurd (omega (arith, l))
typed_known names m memory (t ∷ ts) zero d h l = h.0
typed_known names m memory (t ∷ ts) (suc k) d h l = typed_known names m memory ts k d h.1 (omega (arith, l))
