-- Marks of bytes: what they say by themselves, and the bytes that they mean.
use Rattle.std.specs.Prelude.{ℕ, zero, suc, ◌/◌, ◌%◌, nat_lt, ◌≤◌, Bool, true, false, ◌&&◌, ◌==◌, List, [], ◌∷◌, Option, Some, None}
use Rattle.ir_meaning.specs.Bytes.{raised}
use Rattle.ir_tree.specs.declared.operand.Reg.{Reg}
use Rattle.ir_tree.specs.declared.operand.Reg.TheVariants.{Int, Ptr}
use Rattle.ir_machine.specs.declared.mark.ByteMark.{ByteMark}
use Rattle.ir_machine.specs.declared.mark.ByteMark.TheVariants.{Part, Plain, Spoilt, Unset}

abbrev pub is_unset : ByteMark → Bool
is_unset Unset = true
is_unset _ = false

abbrev pub is_spoilt : ByteMark → Bool
is_spoilt Spoilt = true
is_spoilt _ = false

-- the number that the marks are, the lowest first
abbrev pub marks_number : List ByteMark → Option ℕ
marks_number [] = Some 0
marks_number (Plain n ∷ ms) = raised n (marks_number ms)
marks_number (_ ∷ ms) = None

-- the marks are the parts from i on, in their order
abbrev pub are_parts : ℕ → List ByteMark → Bool
are_parts i [] = true
are_parts i (Part j ∷ ms) = (j == i) && are_parts (suc i) ms
are_parts i (_ ∷ ms) = false

-- k bytes of a number, the lowest first
abbrev pub number_marks : ℕ → ℕ → List ByteMark
number_marks zero n = []
number_marks (suc k) n = Plain (n % 256) ∷ number_marks k (n / 256)

-- k parts of a pointer, from i on
abbrev pub part_marks : ℕ → ℕ → List ByteMark
part_marks zero i = []
part_marks (suc k) i = Part i ∷ part_marks k (suc i)

-- each part is one of the eight of a pointer
abbrev pub are_small : List ByteMark → Bool
are_small [] = true
are_small (Part i ∷ ms) = nat_lt i 8 && are_small ms
are_small (_ ∷ ms) = are_small ms

-- the type of a register: an integer of 1 to 64 bits, or a pointer
abbrev pub HasWidth : Reg → Type 0
HasWidth (Int w) = (1 ≤ w) × (w ≤ 64)
HasWidth Ptr = Unit {0}
