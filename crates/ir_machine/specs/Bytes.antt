-- The bytes of a block: what marks and the pointers beside them mean.
use Rattle.std.specs.Prelude.{ℕ, zero, suc, ◌-◌, Bool, true, false, if◌then◌else◌, List, [], ◌∷◌, length, Option, Some, None, nat_eq}
use Rattle.std.specs.HashMap as hash
use Rattle.ir_tree.specs.declared.operand.Symbol.{Symbol}
use Rattle.ir_meaning.specs.declared.value.Byte.{Byte}
use Rattle.ir_meaning.specs.declared.value.Byte.TheVariants as byte
use Rattle.ir_machine.specs.Marks.{are_parts, marks_number}
use Rattle.ir_machine.specs.Meant.{base_meant}
use Rattle.ir_machine.specs.declared.bytes.Bytes.{Bytes}
use Rattle.ir_machine.specs.declared.mark.ByteMark.{ByteMark}
use Rattle.ir_machine.specs.declared.mark.ByteMark.TheVariants.{Part, Plain, Spoilt, Unset}
use Rattle.ir_machine.specs.declared.scalar.Base.TheVariants.{Null}
use Rattle.ir_machine.specs.declared.scalar.Pointer.{Pointer}
use Rattle.ir_machine.specs.declared.scalar.Scalar.{Scalar}
use Rattle.ir_machine.specs.declared.scalar.Scalar.TheVariants as scalar

abbrev pub null : Pointer
null = record { base = Null; offset = 0 }

abbrev pub pointer_or_null : Option Pointer → Pointer
pointer_or_null None = null
pointer_or_null (Some p) = p

-- part i of a pointer
abbrev pub part_of : List Symbol → ℕ → Pointer → Byte
part_of names i p = byte.Fragment i (base_meant names p.base) p.offset

-- the byte that a mark at place q means, where `at` gives the pointer whose first part is at a place
abbrev pub mark_meant : List Symbol → (ℕ → Pointer) → ℕ → ByteMark → Byte
mark_meant names at q Unset = byte.Unset
mark_meant names at q Spoilt = byte.Spoilt
mark_meant names at q (Plain n) = byte.Plain n
mark_meant names at q (Part i) = part_of names i (at (q - i))

-- the bytes that marks from place q on mean
abbrev pub marks_meant : List Symbol → (ℕ → Pointer) → ℕ → List ByteMark → List Byte
marks_meant names at q [] = []
marks_meant names at q (m ∷ ms) = mark_meant names at q m ∷ marks_meant names at (suc q) ms

-- the pointer whose first part is at a place
abbrev pub pointer_at : Bytes → ℕ → Pointer
pointer_at b o = pointer_or_null (hash.get nat_eq b.pointers o)

-- the bytes of a block
abbrev pub bytes_meant : List Symbol → Bytes → List Byte
bytes_meant names b = marks_meant names (pointer_at b) 0 b.marks.items

-- how many bytes a block has
abbrev pub bytes_len : Bytes → ℕ
bytes_len b = length b.marks.items

abbrev pub is_zero : Option ℕ → Bool
is_zero (Some zero) = true
is_zero _ = false

-- the pointer that eight marks are, where p is the one whose first part is at their place
abbrev pub pointer_in : Pointer → List ByteMark → Scalar
pointer_in p ms = if are_parts 0 ms then scalar.Pointer p else (if is_zero (marks_number ms) then scalar.Pointer null else scalar.Poison)
