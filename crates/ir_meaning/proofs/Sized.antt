-- An initialiser that fits a shape has as many bytes as the shape.
use Rattle.std.proofs.Common.{◌≡◌, ℕ, zero, suc, ◌+◌, ◌-◌, ◌*◌, ◌/◌, ◌≤◌, Bool, true, false, List, [], ◌∷◌, ◌++◌, length, map, replicate, Option, Some, None, refl, ap, subst, arith, sym, ◌∙◌, suc-mul, zero-mul}
use Rattle.ir_tree.specs.Fits.{AllFit, AllOf, Fits, FitsScalar, count, shapes}
use Rattle.ir_tree.specs.Forms.{Form, Forms, int, pointer, array, structure}
use Rattle.ir_tree.specs.Initials.{Initial, plain, zeros, bytes, elements, members, Initials, no_initials, initial}
use Rattle.ir_tree.specs.Layout.{AreLaidOut, IsLaidOut, align, begins, ends, size, widest}
use Rattle.ir_tree.specs.declared.operand.Operand.{Operand}
use Rattle.ir_tree.proofs.Layouts.{align_least, ends_least, rounded_least, widest_least}
use Rattle.ir_meaning.specs.Bytes.{bits_stored, fragments, number_bytes, pointer_bytes, pointer_stored}
use Rattle.ir_meaning.specs.Operate.{bits_of}
use Rattle.ir_meaning.specs.declared.value.Base.{Base}
use Rattle.ir_meaning.specs.declared.value.Base.TheVariants.{Cell, Code, Nowhere}
use Rattle.ir_meaning.specs.declared.value.Byte.{Byte}
use Rattle.ir_meaning.specs.declared.value.Byte.TheVariants.{Plain, Spoilt}
use Rattle.ir_meaning.specs.declared.value.Value.{Value}
use Rattle.ir_meaning.specs.declared.value.Value.TheVariants.{Number, Pointer, Poison}
use Rattle.ir_meaning.specs.Constants.{element_bytes, initial_bytes, member_bytes, scalar_bytes, zero_bytes}

-- ---- scalars

copies : (k : ℕ) (b : Byte) → length (replicate k b) ≡ k
copies zero b = refl
copies (suc k) b = ap suc (copies k b)

spelled : (text : List ℕ) → length (map Plain text) ≡ length text
spelled [] = refl
spelled (c ∷ text) = ap suc (spelled text)

joined : (bs cs : List Byte) → length (bs ++ cs) ≡ length bs + length cs
joined [] cs = omega arith
joined (b ∷ bs) cs = omega (arith, joined bs cs)

digits : (k n : ℕ) → length (number_bytes k n) ≡ k
digits zero n = refl
digits (suc k) n = ap suc (digits k (n / 256))

pieces : (k i : ℕ) (x : Base) (o : ℕ) → length (fragments k i x o) ≡ k
pieces zero i x o = refl
pieces (suc k) i x o = ap suc (pieces k (suc i) x o)

addressed : (k : ℕ) (x : Base) (o : ℕ) → length (pointer_bytes k x o) ≡ k
addressed k Nowhere zero = digits k 0
addressed k Nowhere (suc o) = pieces k 0 Nowhere (suc o)
addressed k (Code s) o = pieces k 0 (Code s) o
addressed k (Cell l) o = pieces k 0 (Cell l) o

in_bits : (k : ℕ) (bits : Option ℕ) → length (bits_stored k bits) ≡ k
in_bits k None = copies k Spoilt
in_bits k (Some n) = digits k n

pointer_size : (v : Value) → length (pointer_stored v) ≡ 8
pointer_size (Number bits) = refl
pointer_size (Pointer x o) = addressed 8 x o
pointer_size Poison = refl

scalar_size : (f : Form) (o : Operand) (v : Value) → FitsScalar f o → length (scalar_bytes f v) ≡ size f
scalar_size (int w) o v h = in_bits (w / 8) (bits_of w v)
scalar_size pointer o v h = pointer_size v
scalar_size (array n of) o v h = absurd h
scalar_size (structure packed parts) o v h = absurd h

-- ---- structures

begins_behind : (packed : Bool) (offset : ℕ) (f : Form) → IsLaidOut f → offset ≤ begins packed offset f
begins_behind true offset f h = omega arith
begins_behind false offset f h = rounded_least offset (align f) (align_least f h)

whole_enough : (packed : Bool) (fs : Forms) → ends packed 0 fs ≤ size (structure packed fs)
whole_enough true fs = omega arith
whole_enough false fs = rounded_least (ends false 0 fs) (widest fs) (widest_least fs)

element_within : (of : Form) (n : ℕ) → IsLaidOut (array n of) → IsLaidOut of
element_within of n h = h.1

members_within : (packed : Bool) (fs : Forms) → IsLaidOut (structure packed fs) → AreLaidOut fs
members_within packed fs h = h.1

mutual
  pub initial_size : (value : Operand → Value) (f : Form) (v : Initial) → Fits f v → IsLaidOut f → length (initial_bytes value f v) ≡ size f
  initial_size value f (plain o) h within = scalar_size f o (value o) h
  initial_size value f zeros h within = copies (size f) (Plain 0)
  initial_size value f (bytes text) h within = subst (λ (g : Form). length (map Plain text) ≡ size g) (sym h) (omega (arith, spelled text))
  initial_size value f (elements parts) h within =
      subst (λ (g : Form). length (element_bytes value parts) ≡ size g) (sym h.0.1)
      (elements_size value h.0.0 parts h.0.2 h.1 (element_within h.0.0 (count parts) (subst IsLaidOut h.0.1 within)))
  initial_size value f (members packed parts) h within =
      subst (λ (g : Form). length (member_bytes value packed 0 (size g) parts) ≡ size g) (sym h.0)
      (omega (arith, members_size value packed 0 (size (structure packed (shapes parts))) parts h.1 (members_within packed (shapes parts) (subst IsLaidOut h.0 within)) (whole_enough packed (shapes parts))))

  elements_size : (value : Operand → Value) (of : Form) (parts : Initials) → AllOf of parts → AllFit parts → IsLaidOut of
      → length (element_bytes value parts) ≡ count parts * size of
  elements_size value of no_initials same fit within = sym (zero-mul (size of))
  elements_size value of (initial f v vs) same fit within =
      joined (initial_bytes value f v) (element_bytes value vs)
      ∙ omega (arith, subst (λ (g : Form). length (initial_bytes value f v) ≡ size g) same.0 (initial_size value f v fit.0 (subst IsLaidOut (sym same.0) within)), elements_size value of vs same.1 fit.1 within, suc-mul (count vs) (size of))

  members_size : (value : Operand → Value) (packed : Bool) (offset whole : ℕ) (parts : Initials) → AllFit parts → AreLaidOut (shapes parts)
      → ends packed offset (shapes parts) ≤ whole → length (member_bytes value packed offset whole parts) ≡ whole - offset
  members_size value packed offset whole no_initials fit within enough = copies (whole - offset) (Plain 0)
  members_size value packed offset whole (initial f v vs) fit within enough =
      joined (zero_bytes (begins packed offset f - offset)) (initial_bytes value f v ++ member_bytes value packed (begins packed offset f + size f) whole vs)
      ∙ omega (
        arith,
        copies (begins packed offset f - offset) (Plain 0),
        joined (initial_bytes value f v) (member_bytes value packed (begins packed offset f + size f) whole vs),
        initial_size value f v fit.0 within.0,
        members_size value packed (begins packed offset f + size f) whole vs fit.1 within.1 enough,
        begins_behind packed offset f within.0,
        ends_least packed (begins packed offset f + size f) (shapes vs) within.1,
        enough,
      )
