-- Variables within the limits, whose constants are of the types before them, are readable; those whose initialisers fit their
-- shapes are such.
use Rattle.std.proofs.Common.{ℕ, ◌+◌, ◌≤◌, max, inr, Option, Some, None, List, ◌++◌, sym, ap, subst, arith}
use Rattle.std.specs.List.{AllByRecursion as Each}
use Rattle.std.specs.Prelude.{Bool, Contains}
use Rattle.std.proofs.lemmas.List.Elements.{recursion_from_All}
use Rattle.ir_parse_names.specs.Variables.{constant_type}
use Rattle.ir_tree.specs.Fits.{AllFit, AllOf, Fits, FitsScalar, InitFits, shapes}
use Rattle.ir_tree.specs.Formed.{AllStored, deepest, nesting}
use Rattle.ir_tree.specs.Forms.{Form, Forms, int, pointer, array, structure, part}
use Rattle.ir_tree.specs.Initials.{Initial, Initials, plain, zeros, bytes, elements, members, no_initials, initial}
use Rattle.ir_tree.specs.Layout.{AreLaidOut}
use Rattle.ir_tree.specs.Wholes.{ConstantFormed, IsKnown, VariableFormed, all_operands, init_operands, initial_operands}
use Rattle.ir_tree.specs.declared.function.Variable.{Variable}
use Rattle.ir_tree.specs.declared.operand.Operand.{Operand}
use Rattle.ir_tree.specs.declared.operand.Operand.TheVariants as operand
use Rattle.ir_tree.specs.declared.operand.Reg.{Reg}
use Rattle.ir_tree.specs.declared.operand.Reg.TheVariants.{Int}
use Rattle.ir_tree.specs.declared.operand.Symbol.{Symbol}
use Rattle.ir_round_trip.proofs.Each.{front, back}
use Rattle.ir_round_trip.proofs.ResolvedVariables.{type_again}
use Rattle.ir_round_trip.specs.Typed.{InitialTyped, InitialsTyped, InitTyped}
use Rattle.ir_round_trip.specs.Within.{NameWithin, OffsetFits, VariableWithin}
use Rattle.ir_round_trip.specs.VariablesReadable.{ConstantReadable, InitialReadable, InitialsReadable, InitReadable, VariableReadable}
use Rattle.ir_round_trip.specs.PartsReadable.{AllCountsReadable, ShapeReadable}
use Rattle.ir_round_trip.specs.PrintedTyped.{OperandTyped}

-- ---- shapes of parts

element_readable : (n : ℕ) (of : Form) → ShapeReadable (array n of) → ShapeReadable of
element_readable n of h = let deep : nesting of + 1 ≤ 32 = h.shape.nested in record { shape = record { stored = h.shape.stored; nested = omega (arith, deep); sized = h.shape.sized.1 }; counts = h.counts.1 }

record PartsReadable (fs : Forms) : Type 0 where
  stored : AllStored fs
  nested : deepest fs ≤ 32
  sized : AreLaidOut fs
  counts : AllCountsReadable fs

parts_readable : (packed : Bool) (fs : Forms) → ShapeReadable (structure packed fs) → PartsReadable fs
parts_readable packed fs h = let deep : deepest fs + 1 ≤ 32 = h.shape.nested in record { stored = h.shape.stored; nested = omega (arith, deep); sized = h.shape.sized.1; counts = h.counts }

first_readable : (f : Form) (fs : Forms) → PartsReadable (part f fs) → ShapeReadable f
first_readable f fs h = record { shape = record { stored = h.stored.0; nested = low (nesting f) (deepest fs) h.nested; sized = h.sized.0 }; counts = h.counts.0 }
  where
    low : (a b : ℕ) → max a b ≤ 32 → a ≤ 32
    low a b h = omega (arith, h)

others_readable : (f : Form) (fs : Forms) → PartsReadable (part f fs) → PartsReadable fs
others_readable f fs h = record { stored = h.stored.1; nested = low (nesting f) (deepest fs) h.nested; sized = h.sized.1; counts = h.counts.1 }
  where
    low : (a b : ℕ) → max a b ≤ 32 → b ≤ 32
    low a b h = omega (arith, h)

-- ---- initialisers that fit

scalar_typed : (f : Form) (x : Operand) → FitsScalar f x → OperandTyped (constant_type f) x
scalar_typed (int w) (operand.Number v bits) fits = inr (ap Int fits)
scalar_typed (int w) (operand.Poison reg) fits = fits
scalar_typed pointer operand.Null fits = tt
scalar_typed pointer (operand.Symbol s offset) fits = tt
scalar_typed pointer (operand.Poison reg) fits = fits
scalar_typed f x fits = absurd fits

mutual
  initial_typed : (f : Form) (v : Initial) → ShapeReadable f → Fits f v → InitialTyped f v
  initial_typed f (plain x) s fits = scalar_typed f x fits
  initial_typed f zeros s fits = tt
  initial_typed f (bytes text) s fits = tt
  initial_typed f (elements parts) s fits = elements_typed fits.0.0 parts (element_readable _ fits.0.0 (subst (λ (g : Form). ShapeReadable g) fits.0.1 s)) fits.0.2 fits.1
  initial_typed f (members packed parts) s fits = members_typed parts (parts_readable packed (shapes parts) (subst (λ (g : Form). ShapeReadable g) fits.0 s)) fits.1

  elements_typed : (of : Form) (vs : Initials) → ShapeReadable of → AllOf of vs → AllFit vs → InitialsTyped vs
  elements_typed of no_initials s all fits = tt
  elements_typed of (initial f v vs) s all fits = let own = subst (λ (g : Form). ShapeReadable g) (sym all.0) s in (own, initial_typed f v own fits.0, elements_typed of vs s all.1 fits.1)

  members_typed : (vs : Initials) → PartsReadable (shapes vs) → AllFit vs → InitialsTyped vs
  members_typed no_initials s fits = tt
  members_typed (initial f v vs) s fits = let own = first_readable f (shapes vs) s in (own, initial_typed f v own fits.0, members_typed vs (others_readable f (shapes vs) s) fits.1)

pub fitting_typed : (f : Form) (v : Option Initial) → ShapeReadable f → InitFits f v → InitTyped f v
fitting_typed f None s fits = tt
fitting_typed f (Some v) s fits = initial_typed f v s fits

module _ (known : List Symbol) (names : (s : Symbol) → Contains known s → NameWithin s) where
  -- ---- constants

  constant_readable : (f : Form) (x : Operand) → OperandTyped (constant_type f) x → ConstantFormed x → IsKnown known x → OffsetFits x → ConstantReadable (constant_type f) x
  constant_readable f (operand.Local n) t h k o = h
  constant_readable f (operand.Number width bits) t h k o = record { width = h.0; bits = h.1; typed = t }
  constant_readable f operand.Null t h k o = tt
  constant_readable f (operand.Poison reg) t h k o = t
  constant_readable f (operand.Symbol s offset) t h k o = let name = names s k in record { name = name.0; ordinary = name.1; offset = o }

  -- ---- initialisers

  abbrev AreRight : List Operand → Type 0
  AreRight xs = Each ConstantFormed xs × Each (IsKnown known) xs × Each OffsetFits xs

  front_right : (xs ys : List Operand) → AreRight (xs ++ ys) → AreRight xs
  front_right xs ys h = (front ConstantFormed xs ys h.0, front (IsKnown known) xs ys h.1, front OffsetFits xs ys h.2)

  back_right : (xs ys : List Operand) → AreRight (xs ++ ys) → AreRight ys
  back_right xs ys h = (back ConstantFormed xs ys h.0, back (IsKnown known) xs ys h.1, back OffsetFits xs ys h.2)

  mutual
    initial_readable : (f : Form) (v : Initial) → InitialTyped f v → AreRight (initial_operands v) → InitialReadable f v
    initial_readable f (plain x) t h = subst (λ (reg : Reg). ConstantReadable reg x) (type_again f) (constant_readable f x t h.0.0 h.1.0 h.2.0)
    initial_readable f zeros t h = tt
    initial_readable f (bytes text) t h = tt
    initial_readable f (elements parts) t h = initials_readable parts t h
    initial_readable f (members packed parts) t h = initials_readable parts t h

    initials_readable : (vs : Initials) → InitialsTyped vs → AreRight (all_operands vs) → InitialsReadable vs
    initials_readable no_initials t h = tt
    initials_readable (initial f v vs) t h =
        (t.0, initial_readable f v t.1 (front_right (initial_operands v) (all_operands vs) h), initials_readable vs t.2 (back_right (initial_operands v) (all_operands vs) h))

  init_readable : (f : Form) (v : Option Initial) → InitTyped f v → AreRight (init_operands v) → InitReadable f v
  init_readable f None t h = tt
  init_readable f (Some v) t h = initial_readable f v t h

  -- ---- variables

  pub variable_readable : (v : Variable) → VariableFormed v → InitTyped v.shape v.init → NameWithin v.symbol → Each (IsKnown known) (init_operands v.init) → VariableWithin v → VariableReadable v
  variable_readable v formed typed name k w = record {
    name = name.0;
    ordinary = name.1;
    shape = record { shape = formed.shape; counts = w.counts };
    init = init_readable v.shape v.init typed (recursion_from_All ConstantFormed (init_operands v.init) formed.operands, k, recursion_from_All OffsetFits (init_operands v.init) w.offsets);
    align = formed.align;
  }
