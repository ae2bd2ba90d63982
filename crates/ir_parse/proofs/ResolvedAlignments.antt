-- Alignments that aren't written are powers of two.
use Rattle.std.proofs.Common.{◌≡◌, ℕ, ◌+◌, ◌/◌, ◌≤◌, max, nat_le, Bool, true, false, inl, inr, Option, Some, None, refl, ap, subst, arith}
use Rattle.std.proofs.lemmas.Bool.{leb-true, leb-false}
use Rattle.ir_tree.specs.Formed.{AllStored, AreStored, IsAlignment, IsReg, IsScalar, IsStored, IsWidth}
use Rattle.ir_tree.specs.Forms.{Form, Forms, int, pointer, array, structure, no_parts, part}
use Rattle.ir_tree.specs.Layout.{align, widest}
use Rattle.ir_tree.specs.declared.operand.Reg.{Reg}
use Rattle.ir_tree.specs.declared.operand.Reg.TheVariants.{Int, Ptr}
use Rattle.ir_parse_names.specs.Bodies.{align_or, reg_align}
use Rattle.ir_parse.specs.Written.{AlignWritten}

stored_align : (w : ℕ) → IsStored w → IsAlignment (w / 8)
stored_align w (inl e) = (0, omega arith, ap (λ n. n / 8) e)
stored_align w (inr (inl e)) = (1, omega arith, ap (λ n. n / 8) e)
stored_align w (inr (inr (inl e))) = (2, omega arith, ap (λ n. n / 8) e)
stored_align w (inr (inr (inr e))) = (3, omega arith, ap (λ n. n / 8) e)

eight : IsAlignment 8
eight = (3, omega arith, refl)

one : IsAlignment 1
one = (0, omega arith, refl)

greater : (a b : ℕ) → IsAlignment a → IsAlignment b → IsAlignment (max a b)
greater a b h g = by (nat_le a b) refl
  where
    by : (t : Bool) → nat_le a b ≡ t → IsAlignment (max a b)
    by true e = let le : a ≤ b = leb-true a b e in let same : b ≡ max a b = omega (arith, le) in subst IsAlignment same g
    by false e = let lt : b + 1 ≤ a = omega (arith, leb-false a b e) in let same : a ≡ max a b = omega (arith, lt) in subst IsAlignment same h

mutual
  pub shape_align : (f : Form) → AreStored f → IsAlignment (align f)
  shape_align (int w) h = stored_align w h
  shape_align pointer h = eight
  shape_align (array n of) h = shape_align of h
  shape_align (structure true parts) h = one
  shape_align (structure false parts) h = parts_align parts h

  parts_align : (fs : Forms) → AllStored fs → IsAlignment (widest fs)
  parts_align no_parts h = one
  parts_align (part f fs) h = greater (align f) (widest fs) (shape_align f h.0) (parts_align fs h.1)

pub scalar_align : (reg : Reg) → IsScalar reg → IsAlignment (reg_align reg)
scalar_align (Int w) h = stored_align w h
scalar_align Ptr h = eight

pub aligned : (default : ℕ) (written : Option ℕ) → IsAlignment default → AlignWritten written → IsAlignment (align_or default written)
aligned default None h w = h
aligned default (Some a) h w = w

stored_width : (w : ℕ) → IsStored w → IsWidth w
stored_width w (inl e) = (omega arith, omega arith)
stored_width w (inr (inl e)) = (omega arith, omega arith)
stored_width w (inr (inr (inl e))) = (omega arith, omega arith)
stored_width w (inr (inr (inr e))) = (omega arith, omega arith)

-- what memory holds is a register's type too
pub scalar_reg : (reg : Reg) → IsScalar reg → IsReg reg
scalar_reg (Int w) h = stored_width w h
scalar_reg Ptr h = tt
