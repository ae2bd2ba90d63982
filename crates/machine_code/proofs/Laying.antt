-- The flat form of an initialiser is laid out as the tree is, and there is place for each part.
use Rattle.std.proofs.Common.{◌≡◌, ℕ, ◌+◌, ◌-◌, ◌≤◌, ◌^◌, Bool, true, false, List, ◌∷◌, ◌++◌, refl, sym, ap, subst, ◌∙◌, append_assoc, arith}
use Rattle.ir_tree.specs.Fits.{AllFit, AllOf, Fits, count, shapes}
use Rattle.ir_tree.specs.Forms.{Form, Forms, array, structure}
use Rattle.ir_tree.specs.Initials.{Initial, Initials, plain, zeros, bytes, elements, members, no_initials, initial, head_of, parts_of, all_parts}
use Rattle.ir_tree.specs.Layout.{AreLaidOut, IsLaidOut, align, begins, ends, size}
use Rattle.ir_tree.specs.declared.init_node.InitPart.{InitPart}
use Rattle.ir_tree.specs.declared.init_node.InitPart.TheVariants.{End}
use Rattle.ir_tree.specs.declared.operand.Operand.{Operand}
use Rattle.ir_tree.proofs.Layouts.{align_least, ends_least, rounded_least, size_ends}
use Rattle.ir_meaning.specs.declared.value.Byte.{Byte}
use Rattle.ir_meaning.specs.declared.value.Value.{Value}
use Rattle.ir_meaning.specs.Constants.{element_bytes, initial_bytes, member_bytes, zero_bytes}
use Rattle.machine_code.specs.Images.{Admits, TakesAll, head_bytes, opened_by, parts_bytes}
use Rattle.machine_code.specs.declared.open.Open.{Open}
use Rattle.machine_code.specs.declared.open.Open.TheVariants.{Elements, Members}

-- ---- bytes

mutual
  pub value_laid : (value : Operand → Value) (f : Form) (v : Initial) (opens : List Open) (rest : List InitPart) →
      head_bytes value f (head_of v) ++ parts_bytes value (opened_by f (head_of v) opens) (parts_of v rest) ≡ initial_bytes value f v ++ parts_bytes value opens rest
  value_laid value f (plain o) opens rest = refl
  value_laid value f zeros opens rest = refl
  value_laid value f (bytes text) opens rest = refl
  value_laid value f (elements parts) opens rest = elements_laid value parts opens rest
  value_laid value f (members packed parts) opens rest = members_laid value packed 0 (size f) parts opens rest

  elements_laid : (value : Operand → Value) (parts : Initials) (opens : List Open) (rest : List InitPart) →
      parts_bytes value (Elements ∷ opens) (all_parts parts (End ∷ rest)) ≡ element_bytes value parts ++ parts_bytes value opens rest
  elements_laid value no_initials opens rest = refl
  elements_laid value (initial f v vs) opens rest =
      value_laid value f v (Elements ∷ opens) (all_parts vs (End ∷ rest))
      ∙ ap (λ (bs : List Byte). initial_bytes value f v ++ bs) (elements_laid value vs opens rest)
      ∙ sym (append_assoc (initial_bytes value f v) (element_bytes value vs) (parts_bytes value opens rest))

  members_laid : (value : Operand → Value) (packed : Bool) (offset whole : ℕ) (parts : Initials) (opens : List Open) (rest : List InitPart) →
      parts_bytes value (Members packed offset whole ∷ opens) (all_parts parts (End ∷ rest)) ≡ member_bytes value packed offset whole parts ++ parts_bytes value opens rest
  members_laid value packed offset whole no_initials opens rest = refl
  members_laid value packed offset whole (initial f v vs) opens rest =
      let next = begins packed offset f + size f in
      append_assoc (zero_bytes (begins packed offset f - offset)) (head_bytes value f (head_of v))
      (parts_bytes value (opened_by f (head_of v) (Members packed next whole ∷ opens)) (parts_of v (all_parts vs (End ∷ rest))))
      ∙ ap (λ (bs : List Byte). zero_bytes (begins packed offset f - offset) ++ bs)
      (value_laid value f v (Members packed next whole ∷ opens) (all_parts vs (End ∷ rest))
      ∙ ap (λ (bs : List Byte). initial_bytes value f v ++ bs) (members_laid value packed next whole vs opens rest)
      ∙ sym (append_assoc (initial_bytes value f v) (member_bytes value packed next whole vs) (parts_bytes value opens rest)))
      ∙ sym (append_assoc (zero_bytes (begins packed offset f - offset)) (initial_bytes value f v ++ member_bytes value packed next whole vs) (parts_bytes value opens rest))

-- ---- place

pub begins_least : (packed : Bool) (offset : ℕ) (f : Form) → IsLaidOut f → offset ≤ begins packed offset f
begins_least true offset f h = omega arith
begins_least false offset f h = rounded_least offset (align f) (align_least f h)

-- a part of an aggregate that is open is a member in the bound
pub admitted : (o : Open) (f : Form) (packed : Bool) (offset whole : ℕ) → o ≡ Members packed offset whole → IsLaidOut f → Admits o f → (offset ≤ begins packed offset f) × (begins packed offset f + size f ≤ 2 ^ 31)
admitted o f packed offset whole e laid h = (begins_least packed offset f laid, subst (λ (x : Open). Admits x f) e h)

of_laid : (of : Form) (n : ℕ) → IsLaidOut (array n of) → IsLaidOut of
of_laid of n h = h.1

all_laid : (packed : Bool) (fs : Forms) → IsLaidOut (structure packed fs) → AreLaidOut fs
all_laid packed fs h = h.1

all_within : (packed : Bool) (fs : Forms) → IsLaidOut (structure packed fs) → ends packed 0 fs ≤ 2 ^ 31
all_within packed fs h = omega (arith, size_ends packed fs h.1, h.0)

mutual
  pub value_takes : (f : Form) (v : Initial) (opens : List Open) (rest : List InitPart) → Fits f v → IsLaidOut f → TakesAll opens rest → TakesAll (opened_by f (head_of v) opens) (parts_of v rest)
  value_takes f (plain o) opens rest fit laid h = h
  value_takes f zeros opens rest fit laid h = h
  value_takes f (bytes text) opens rest fit laid h = h
  value_takes f (elements parts) opens rest fit laid h = elements_take fit.0.0 parts opens rest fit.0.2 fit.1 (of_laid fit.0.0 (count parts) (subst IsLaidOut fit.0.1 laid)) h
  value_takes f (members packed parts) opens rest fit laid h =
      let all = subst IsLaidOut fit.0 laid in
      members_take packed 0 (size f) parts opens rest fit.1 (all_laid packed (shapes parts) all) (all_within packed (shapes parts) all) h

  elements_take : (of : Form) (parts : Initials) (opens : List Open) (rest : List InitPart) → AllOf of parts → AllFit parts → IsLaidOut of → TakesAll opens rest →
      TakesAll (Elements ∷ opens) (all_parts parts (End ∷ rest))
  elements_take of no_initials opens rest same fit laid h = (tt, h)
  elements_take of (initial f v vs) opens rest same fit laid h =
      let here = subst IsLaidOut (sym same.0) laid in
      ((here, tt), value_takes f v (Elements ∷ opens) (all_parts vs (End ∷ rest)) fit.0 here (elements_take of vs opens rest same.1 fit.1 laid h))

  members_take : (packed : Bool) (offset whole : ℕ) (parts : Initials) (opens : List Open) (rest : List InitPart) → AllFit parts → AreLaidOut (shapes parts) → ends packed offset (shapes parts) ≤ 2 ^ 31 → TakesAll opens rest →
      TakesAll (Members packed offset whole ∷ opens) (all_parts parts (End ∷ rest))
  members_take packed offset whole no_initials opens rest fit laid enough h = (tt, h)
  members_take packed offset whole (initial f v vs) opens rest fit laid enough h =
      let next = begins packed offset f + size f in (
        (laid.0, omega (arith, ends_least packed next (shapes vs) laid.1, enough)),
        value_takes f v (Members packed next whole ∷ opens) (all_parts vs (End ∷ rest)) fit.0 laid.0 (members_take packed next whole vs opens rest fit.1 laid.1 enough h),
      )
