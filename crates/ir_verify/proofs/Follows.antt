-- Indices of addresses into the parts of a struct.
use Rattle.std.proofs.Common.{◌≡◌, ℕ, ◌≤◌, ◌-◌, Bool, List, [], ◌∷◌, length, get_or, take, drop, sym, ap, subst, ◌∙◌, ◌↔◌, IsTrue, arith}
use Rattle.std.proofs.lemmas.Grind.{common_steps}
use Rattle.std.specs.Prelude.{slice_get}
use Rattle.ir_tree.specs.Forms.{Form, structure, forms_of, list_of-forms_of}
use Rattle.ir_tree.specs.Items.{typed}
use Rattle.ir_tree.specs.Rules.{Follow}
use Rattle.ir_tree.specs.declared.operand.Argument.{Argument}
use Rattle.ir_tree.specs.declared.operand.Operand.TheVariants.{Number}
use Rattle.ir_tree.specs.declared.operand.Reg.TheVariants.{Int}
use Rattle.ir_verify.specs.Parts.{LeadsTo, LeadsNowhere}

number_one : (j k : ℕ) → typed (Int 32) (Number 32 j) ≡ typed (Int 32) (Number 32 k) → j ≡ k
number_one j k e = let o = ap (λ (a : Argument). a.operand) e in cc

one_part : (parts : List Form) (index : Argument) (f g : Form) → LeadsTo parts index f → LeadsTo parts index g → f ≡ g
one_part parts index f g h i =
    let same = number_one h.0 i.0 (sym h.1 ∙ i.1) in
    let e = sym h.2 ∙ ap (slice_get parts) same ∙ i.2 in
    cc

-- what follows the index of a struct's part
pub follow_part : (packed : _) (parts : List Form) (index : Argument) (more : List Argument) (f : Form) → LeadsTo parts index f → Follow (structure packed (forms_of parts)) (index ∷ more) ↔ Follow f more
follow_part packed parts index more f h = (
  λ w. subst (λ (g : Form). Follow g more) (one_part parts index w.1 f (w.0, w.2, ap (λ fs. slice_get fs w.0) (sym (list_of-forms_of parts)) ∙ w.3) h) w.4,
  λ w. (h.0, f, h.1, ap (λ fs. slice_get fs h.0) (list_of-forms_of parts) ∙ h.2, w),
)

pub follow_nowhere : (packed : _) (parts : List Form) (index : Argument) (more : List Argument) → LeadsNowhere parts index → Follow (structure packed (forms_of parts)) (index ∷ more) → ⊥
follow_nowhere packed parts index more h w = h w.1 (w.0, w.2, ap (λ fs. slice_get fs w.0) (sym (list_of-forms_of parts)) ∙ w.3)

rest_is : {A : Type 0} (x : A) (xs : List A) → take (length (x ∷ xs) - 1) (drop 1 (x ∷ xs)) ≡ xs
rest_is x xs = let e : length (x ∷ xs) - 1 ≡ length xs = omega arith in rw e (take_all xs)
  where
    take_all : {A : Type 0} (xs : List A) → take (length xs) xs ≡ xs
    take_all xs = grind (arith, common_steps)

-- the same of a list of indices whose first is known
pub follow_at : (shape : Form) (indices : List Argument) (packed : Bool) (parts : List Form) (index : Argument) (f : Form) (b : Bool) → shape ≡ structure packed (forms_of parts) → 1 ≤ length indices → index ≡ get_or indices 0 index → LeadsTo parts index f → IsTrue b ↔ Follow f (take (length indices - 1) (drop 1 indices)) → IsTrue b ↔ Follow shape indices
follow_at shape [] packed parts index f b is long first h k = absurd (omega arith)
follow_at shape (x ∷ xs) packed parts index f b is long first h k =
    let same : x ≡ index = sym first in
    let whole = follow_part packed parts index xs f h in
    let at = subst (λ (ys : List Argument). IsTrue b ↔ Follow f ys) (rest_is x xs) k in
    let goal : IsTrue b ↔ Follow (structure packed (forms_of parts)) (index ∷ xs) = (λ t. whole.1 (at.0 t), λ w. at.1 (whole.0 w)) in
    subst (λ (s : Form). IsTrue b ↔ Follow s (x ∷ xs)) (sym is) (subst (λ (a : Argument). IsTrue b ↔ Follow (structure packed (forms_of parts)) (a ∷ xs)) (sym same) goal)

pub follow_none : (shape : Form) (indices : List Argument) (packed : Bool) (parts : List Form) (index : Argument) → shape ≡ structure packed (forms_of parts) → 1 ≤ length indices → index ≡ get_or indices 0 index → LeadsNowhere parts index → Follow shape indices → ⊥
follow_none shape [] packed parts index is long first h k = absurd (omega arith)
follow_none shape (x ∷ xs) packed parts index is long first h k =
    follow_nowhere packed parts index xs h (subst (λ (a : Argument). Follow (structure packed (forms_of parts)) (a ∷ xs)) (sym first) (subst (λ (s : Form). Follow s (x ∷ xs)) is k))
