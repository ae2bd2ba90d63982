-- Shapes that expand are within the limits, and types of constants for them are those of registers.
use Rattle.std.proofs.Common.{◌≡◌, ℕ, zero, suc, ◌+◌, ◌^◌, ◌≤◌, nat_le, nat_eq, Bool, true, false, List, [], ◌∷◌, length, Option, Some, None, Result, Ok, Err, refl, subst, arith, if◌then◌else◌}
use Rattle.std.specs.List.{AllByRecursion as Each}
use Rattle.std.proofs.lemmas.Bool.{and_parts, leb-true}
use Rattle.std.proofs.lemmas.List.Elements.{recursion_from_All}
use Rattle.ir_lex.specs.Tok.{Tok}
use Rattle.ir_parse_parts.specs.Shapes as w
use Rattle.ir_parse_parts.specs.Shapes.{Written, WrittenParts}
use Rattle.ir_parse_parts.specs.declared.shape.Typed.{Typed}
use Rattle.ir_tree.specs.Forms.{Form, int, pointer, array, structure, forms_of}
use Rattle.ir_tree.specs.Formed.{AreStored, AllStored, IsReg, IsStored, IsShape, IsWidth, nesting, deepest}
use Rattle.ir_tree.specs.Layout.{IsLaidOut, AreLaidOut, size}
use Rattle.ir_parse_names.specs.declared.fault.Fault.{Fault}
use Rattle.ir_parse_names.specs.Bodies.{allocated}
use Rattle.ir_parse_names.specs.Keys.{Key, key_of, same_key}
use Rattle.ir_parse_names.specs.Locals.{unknown}
use Rattle.ir_parse_names.specs.Resolving.{each}
use Rattle.ir_parse_names.specs.Types.{Types, limit, or_unknown, entry_of, entry_in, shape_in, head_from, head_of, is_width, scalar, within, opened, without_parts, expand, expanded, array_of}
use Rattle.ir_parse.specs.Resolved.{ShapesAreWithin}
use Rattle.ir_parse.specs.Written.{ShapeWritten, PartsWritten, TypeWritten, TypesWritten}
use Rattle.ir_parse_names.specs.Variables.{constant_type}
use Rattle.ir_parse.proofs.Gives.{Gives, gives, fails, bind, bind_each, whatever}

-- ---- what a name stands for is written so too

entry_written : (types : Types) (key : Key) (entry : Option Written) → Each (λ d. TypeWritten d.1) types → entry_of types key ≡ Some entry → TypeWritten entry
entry_written [] key entry h e = absurd cc
entry_written (d ∷ ds) key entry h e = by (same_key key d.0) e (λ g. entry_written ds key entry h.1 g)
  where
    by : (b : Bool) → (if b then Some d.1 else entry_of ds key) ≡ Some entry → (entry_of ds key ≡ Some entry → TypeWritten entry) → TypeWritten entry
    by true e more = let same : d.1 ≡ entry = cc in subst TypeWritten same h.0
    by false e more = more e

or_gives : {A : Type 0} (P : A → Type 0) (line : ℕ) (o : Option A) → ((x : A) → o ≡ Some x → P x) → Gives (or_unknown line o) P
or_gives P line None h = fails P (unknown line)
or_gives P line (Some x) h = gives P x (h x refl)

module _ (types : Types) (are : TypesWritten types) where
  shape_written : (name : Tok) → Gives (shape_in types name) ShapeWritten
  shape_written name =
      bind TypeWritten ShapeWritten (entry_in types name) (λ entry. or_unknown name.line entry)
      (or_gives TypeWritten name.line (entry_of types (key_of name)) (λ entry e. entry_written types (key_of name) entry (recursion_from_All (λ d. TypeWritten d.1) types are) e))
      (λ entry h. or_gives ShapeWritten name.line entry (λ s e. subst TypeWritten e h))

  head_written : (n : ℕ) (s : Written) → ShapeWritten s → Gives (head_from n types s) ShapeWritten
  head_written n (w.int width) h = gives ShapeWritten (w.int width) h
  head_written n w.pointer h = gives ShapeWritten w.pointer h
  head_written n (w.array count of) h = gives ShapeWritten (w.array count of) h
  head_written n (w.structure packed parts) h = gives ShapeWritten (w.structure packed parts) h
  head_written zero (w.named name) h = fails ShapeWritten (unknown name.line)
  head_written (suc n) (w.named name) h = bind ShapeWritten ShapeWritten (shape_in types name) (λ s. head_from n types s) (shape_written name) (λ s g. head_written n s g)

  begins_written : (s : Written) → ShapeWritten s → Gives (head_of types s) ShapeWritten
  unfolding head_of
  begins_written s h = head_written (length types + 1) s h

-- ---- one level

-- with at most so many levels
record IsWithin (n : ℕ) (f : Form) : Type 0 where
  stored : AreStored f
  nested : nesting f ≤ n
  sized : IsLaidOut f

scalar_within : (n line width : ℕ) → IsStored width → Gives (scalar line width) (IsWithin n)
scalar_within n line width h = by (is_width width) refl
  where
    by : (b : Bool) → is_width width ≡ b → Gives (if b then Ok (int width) else Err (limit line)) (IsWithin n)
    by true e =
        let both : (nat_le 8 width ≡ true) × (nat_le width 64 ≡ true) = and_parts (nat_le 8 width) (nat_le width 64) e in
        gives (IsWithin n) (int width) (record { stored = h; nested = omega arith; sized = (leb-true 8 width both.0, leb-true width 64 both.1) })
    by false e = fails (IsWithin n) (limit line)

pointer_within : (n : ℕ) → IsWithin n pointer
pointer_within n = record { stored = tt; nested = omega arith; sized = tt }

array_within : (n line count : ℕ) (f : Form) → IsWithin n f → Gives (within line (array count f)) (IsWithin (suc n))
array_within n line count f h = by (nat_le (size (array count f)) (2 ^ 31)) refl
  where
    by : (b : Bool) → nat_le (size (array count f)) (2 ^ 31) ≡ b → Gives (if b then Ok (array count f) else Err (limit line)) (IsWithin (suc n))
    by true e = gives (IsWithin (suc n)) (array count f) (record { stored = h.stored; nested = (let le : nesting f ≤ n = h.nested in omega (arith, le)); sized = (leb-true (size (array count f)) (2 ^ 31) e, h.sized) })
    by false e = fails (IsWithin (suc n)) (limit line)

all_stored : (n : ℕ) (fs : List Form) → Each (IsWithin n) fs → AllStored (forms_of fs)
all_stored n [] h = tt
all_stored n (f ∷ fs) h = (h.0.stored, all_stored n fs h.1)

all_nested : (n : ℕ) (fs : List Form) → Each (IsWithin n) fs → deepest (forms_of fs) ≤ n
all_nested n [] h = omega arith
all_nested n (f ∷ fs) h = let one : nesting f ≤ n = h.0.nested in let more : deepest (forms_of fs) ≤ n = all_nested n fs h.1 in omega (arith, one, more)

all_laid : (n : ℕ) (fs : List Form) → Each (IsWithin n) fs → AreLaidOut (forms_of fs)
all_laid n [] h = tt
all_laid n (f ∷ fs) h = (h.0.sized, all_laid n fs h.1)

structure_within : (n line : ℕ) (packed : Bool) (fs : List Form) → Each (IsWithin n) fs → Gives (within line (structure packed (forms_of fs))) (IsWithin (suc n))
structure_within n line packed fs h = by (nat_le (size (structure packed (forms_of fs))) (2 ^ 31)) refl
  where
    by : (b : Bool) → nat_le (size (structure packed (forms_of fs))) (2 ^ 31) ≡ b → Gives (if b then Ok (structure packed (forms_of fs)) else Err (limit line)) (IsWithin (suc n))
    by true e =
        gives (IsWithin (suc n)) (structure packed (forms_of fs))
        (record { stored = all_stored n fs h; nested = (let le : deepest (forms_of fs) ≤ n = all_nested n fs h in omega (arith, le)); sized = (leb-true (size (structure packed (forms_of fs))) (2 ^ 31) e, all_laid n fs h) })
    by false e = fails (IsWithin (suc n)) (limit line)

leaf_within : (line : ℕ) (s : Written) → ShapeWritten s → Gives (without_parts line s) (IsWithin 0)
leaf_within line (w.int width) h = scalar_within 0 line width h
leaf_within line w.pointer h = gives (IsWithin 0) pointer (pointer_within 0)
leaf_within line (w.array count of) h = fails (IsWithin 0) (limit line)
leaf_within line (w.structure packed parts) h = fails (IsWithin 0) (limit line)
leaf_within line (w.named name) h = fails (IsWithin 0) (unknown name.line)

listed : (parts : WrittenParts) → PartsWritten parts → Each ShapeWritten (w.list_of parts)
listed w.no_parts h = tt
listed (w.part first rest) h = (h.0, listed rest h.1)

level_within : (n line : ℕ) (inner : Written → Result Form Fault) → ((s : Written) → ShapeWritten s → Gives (inner s) (IsWithin n)) → (s : Written) → ShapeWritten s → Gives (opened inner line s) (IsWithin (suc n))
level_within n line inner each_one (w.int width) h = scalar_within (suc n) line width h
level_within n line inner each_one w.pointer h = gives (IsWithin (suc n)) pointer (pointer_within (suc n))
level_within n line inner each_one (w.array count of) h =
    bind (IsWithin n) (IsWithin (suc n)) (inner of) (λ f. within line (array count f)) (each_one of h) (λ f g. array_within n line count f g)
level_within n line inner each_one (w.structure packed parts) h =
    bind (Each (IsWithin n)) (IsWithin (suc n)) (each inner (w.list_of parts)) (λ fs. within line (structure packed (forms_of fs)))
    (bind_each ShapeWritten (IsWithin n) inner each_one (w.list_of parts) (listed parts h)) (λ fs g. structure_within n line packed fs g)
level_within n line inner each_one (w.named name) h = fails (IsWithin (suc n)) (unknown name.line)

-- ---- all levels

module _ (types : Types) (are : TypesWritten types) where
  expands_within : (n line : ℕ) (s : Written) → ShapeWritten s → Gives (expand n types line s) (IsWithin n)
  expands_within zero line s h = bind ShapeWritten (IsWithin 0) (head_of types s) (λ t. without_parts line t) (begins_written types are s h) (λ t g. leaf_within line t g)
  expands_within (suc n) line s h =
      bind ShapeWritten (IsWithin (suc n)) (head_of types s) (λ t. opened (expand n types line) line t) (begins_written types are s h)
      (λ t g. level_within n line (expand n types line) (λ u k. expands_within n line u k) t g)

  as_shape : (f : Form) → IsWithin 32 f → IsShape f
  as_shape f h = record { stored = h.stored; nested = h.nested; sized = h.sized }

  pub expands : (typed : Typed) → ShapeWritten typed.shape → Gives (expanded types typed) IsShape
  unfolding expanded
  expands typed h = record { given = λ f e. as_shape f ((expands_within 32 typed.line typed.shape h).given f e) }

  array_expands : (typed : Typed) (count : ℕ) → ShapeWritten typed.shape → Gives (array_of types typed count) IsShape
  unfolding array_of
  array_expands typed count h =
      bind (IsWithin 31) IsShape (expand 31 types typed.line typed.shape) (λ f. within typed.line (array count f)) (expands_within 31 typed.line typed.shape h)
      (λ f g. record { given = λ a e. as_shape a ((array_within 31 typed.line count f g).given a e) })

  pub allocates : (typed : Typed) (count : ℕ) → ShapeWritten typed.shape → Gives (allocated types typed count) IsShape
  allocates typed count h = by (nat_eq count 1)
    where
      by : (b : Bool) → Gives (if b then expanded types typed else array_of types typed count) IsShape
      by true = expands typed h
      by false = array_expands typed count h

pub shapes_within : ShapesAreWithin
shapes_within types typed shape are h e = (expands types are typed h).given shape e

-- ---- types of constants for shapes that expand, whatever is written

abbrev IsTyped : Form → Type 0
IsTyped f = IsReg (constant_type f)

one_bit : IsWidth 1
one_bit = (omega arith, omega arith)

scalar_typed : (line width : ℕ) → Gives (scalar line width) IsTyped
scalar_typed line width = by (is_width width) refl
  where
    by : (b : Bool) → is_width width ≡ b → Gives (if b then Ok (int width) else Err (limit line)) IsTyped
    by true e =
        let both : (nat_le 8 width ≡ true) × (nat_le width 64 ≡ true) = and_parts (nat_le 8 width) (nat_le width 64) e in
        let low : 8 ≤ width = leb-true 8 width both.0 in gives IsTyped (int width) (omega (arith, low), leb-true width 64 both.1)
    by false e = fails IsTyped (limit line)

within_typed : (line : ℕ) (f : Form) → IsTyped f → Gives (within line f) IsTyped
within_typed line f h = by (nat_le (size f) (2 ^ 31))
  where
    by : (b : Bool) → Gives (if b then Ok f else Err (limit line)) IsTyped
    by true = gives IsTyped f h
    by false = fails IsTyped (limit line)

leaf_typed : (line : ℕ) (s : Written) → Gives (without_parts line s) IsTyped
leaf_typed line (w.int width) = scalar_typed line width
leaf_typed line w.pointer = gives IsTyped pointer tt
leaf_typed line (w.array count of) = fails IsTyped (limit line)
leaf_typed line (w.structure packed parts) = fails IsTyped (limit line)
leaf_typed line (w.named name) = fails IsTyped (unknown name.line)

level_typed : (line : ℕ) (inner : Written → Result Form Fault) (s : Written) → Gives (opened inner line s) IsTyped
level_typed line inner (w.int width) = scalar_typed line width
level_typed line inner w.pointer = gives IsTyped pointer tt
level_typed line inner (w.array count of) = bind _ IsTyped (inner of) (λ f. within line (array count f)) (whatever (inner of)) (λ f _. within_typed line (array count f) one_bit)
level_typed line inner (w.structure packed parts) =
    bind _ IsTyped (each inner (w.list_of parts)) (λ fs. within line (structure packed (forms_of fs))) (whatever (each inner (w.list_of parts))) (λ fs _. within_typed line (structure packed (forms_of fs)) one_bit)
level_typed line inner (w.named name) = fails IsTyped (unknown name.line)

expands_typed : (types : Types) (n line : ℕ) (s : Written) → Gives (expand n types line s) IsTyped
expands_typed types zero line s = bind _ IsTyped (head_of types s) (λ t. without_parts line t) (whatever (head_of types s)) (λ t _. leaf_typed line t)
expands_typed types (suc n) line s = bind _ IsTyped (head_of types s) (λ t. opened (expand n types line) line t) (whatever (head_of types s)) (λ t _. level_typed line (expand n types line) t)

pub constant_typed : (types : Types) (typed : Typed) → Gives (expanded types typed) (λ f. IsReg (constant_type f))
unfolding expanded
constant_typed types typed = record { given = λ f e. (expands_typed types 32 typed.line typed.shape).given f e }
