-- The texts under checks/native/integers as trees, which `checks/native_runs --write` makes.
use Rattle.std.specs.Prelude.{true, false, [], ◌∷◌, Some, codes}
use Rattle.ir_tree.specs.declared.block.Terminator.TheVariants.{Return}
use Rattle.ir_tree.specs.declared.instr.BinaryOp.TheVariants.{Add, And, Ashr, Lshr, Mul, Or, Sdiv, Shl, Srem, Sub, Udiv, Urem, Xor}
use Rattle.ir_tree.specs.declared.instr.CastOp.TheVariants.{Sext, Trunc, Zext}
use Rattle.ir_tree.specs.declared.instr.Instr.TheVariants.{Binary, Cast, Freeze, Icmp, Select}
use Rattle.ir_tree.specs.declared.instr.Predicate.TheVariants.{Sge, Sgt, Sle, Slt, Uge, Ugt, Ule, Ult}
use Rattle.ir_tree.specs.declared.operand.Operand.TheVariants.{Local, Number as Constant}
use Rattle.ir_tree.specs.declared.operand.Reg.TheVariants.{Int}
use Rattle.ir_meaning.specs.ExampleRuns.{block, defines, named_by, no_flags, sets}
use Rattle.ir_meaning.specs.Native.{Source, typed}

abbrev pub bitwise : Source
bitwise = record {
  functions =
      defines (named_by (codes "f")) [] (Some (Int 32))
      (block 0 []
      (sets 1 (Binary And no_flags 32 (Constant 32 252645135) (Constant 32 1431655765))
      ∷ sets 2 (Binary Or no_flags 32 (Local 1) (Constant 32 16))
      ∷ sets 3 (Binary Xor no_flags 32 (Local 2) (Constant 32 4294967295))
      ∷ [])
      (Return (Some (typed (Int 32) (Local 3))))
      ∷ [])
      ∷ [];
  variables = [];
}

abbrev pub casts : Source
casts = record {
  functions =
      defines (named_by (codes "f")) [] (Some (Int 64))
      (block 0 []
      (sets 1 (Cast Trunc (Int 64) (Constant 64 511) (Int 8))
      ∷ sets 2 (Cast Sext (Int 8) (Local 1) (Int 64))
      ∷ sets 3 (Cast Zext (Int 8) (Local 1) (Int 64))
      ∷ sets 4 (Cast Trunc (Int 32) (Constant 32 254) (Int 1))
      ∷ sets 5 (Cast Sext (Int 1) (Local 4) (Int 64))
      ∷ sets 6 (Binary Mul no_flags 64 (Local 2) (Local 3))
      ∷ sets 7 (Binary Sub no_flags 64 (Local 6) (Local 5))
      ∷ [])
      (Return (Some (typed (Int 64) (Local 7))))
      ∷ [])
      ∷ [];
  variables = [];
}

abbrev pub clamped : Source
clamped = record {
  functions =
      defines (named_by (codes "f")) [] (Some (Int 32))
      (block 0 []
      (sets 1 (Icmp Slt (Int 32) (Constant 32 4294967291) (Constant 32 0))
      ∷ sets 2 (Select (Local 1) (typed (Int 32) (Constant 32 0)) (typed (Int 32) (Constant 32 4294967291)))
      ∷ sets 3 (Icmp Sgt (Int 32) (Constant 32 300) (Constant 32 255))
      ∷ sets 4 (Select (Local 3) (typed (Int 32) (Constant 32 255)) (typed (Int 32) (Constant 32 300)))
      ∷ sets 5 (Binary Shl no_flags 32 (Local 4) (Constant 32 8))
      ∷ sets 6 (Binary Or no_flags 32 (Local 5) (Local 2))
      ∷ [])
      (Return (Some (typed (Int 32) (Local 6))))
      ∷ [])
      ∷ [];
  variables = [];
}

abbrev pub difference_below_zero : Source
difference_below_zero = record {
  functions =
      defines (named_by (codes "f")) [] (Some (Int 32))
      (block 0 []
      (sets 1 (Binary Sub no_flags 16 (Constant 16 3) (Constant 16 5))
      ∷ sets 2 (Cast Sext (Int 16) (Local 1) (Int 32))
      ∷ [])
      (Return (Some (typed (Int 32) (Local 2))))
      ∷ [])
      ∷ [];
  variables = [];
}

abbrev pub exact_shifts_and_divisions : Source
exact_shifts_and_divisions = record {
  functions =
      defines (named_by (codes "f")) [] (Some (Int 32))
      (block 0 []
      (sets 1 (Binary Lshr (record { nuw = false; nsw = false; exact = true }) 32 (Constant 32 96) (Constant 32 5))
      ∷ sets 2 (Binary Ashr (record { nuw = false; nsw = false; exact = true }) 32 (Constant 32 4294967200) (Constant 32 5))
      ∷ sets 3 (Binary Udiv (record { nuw = false; nsw = false; exact = true }) 32 (Constant 32 91) (Constant 32 7))
      ∷ sets 4 (Binary Sdiv (record { nuw = false; nsw = false; exact = true }) 32 (Constant 32 4294967205) (Constant 32 7))
      ∷ sets 5 (Binary Mul no_flags 32 (Local 1) (Local 2))
      ∷ sets 6 (Binary Mul no_flags 32 (Local 3) (Local 4))
      ∷ sets 7 (Binary Sub no_flags 32 (Local 5) (Local 6))
      ∷ [])
      (Return (Some (typed (Int 32) (Local 7))))
      ∷ [])
      ∷ [];
  variables = [];
}

abbrev pub flags_that_are_met : Source
flags_that_are_met = record {
  functions =
      defines (named_by (codes "f")) [] (Some (Int 32))
      (block 0 []
      (sets 1 (Binary Add (record { nuw = true; nsw = true; exact = false }) 16 (Constant 16 1000) (Constant 16 2000))
      ∷ sets 2 (Binary Sub (record { nuw = true; nsw = true; exact = false }) 16 (Local 1) (Constant 16 1))
      ∷ sets 3 (Binary Mul (record { nuw = true; nsw = true; exact = false }) 16 (Local 2) (Constant 16 3))
      ∷ sets 4 (Binary Shl (record { nuw = true; nsw = true; exact = false }) 16 (Local 3) (Constant 16 1))
      ∷ sets 5 (Cast Zext (Int 16) (Local 4) (Int 32))
      ∷ [])
      (Return (Some (typed (Int 32) (Local 5))))
      ∷ [])
      ∷ [];
  variables = [];
}

abbrev pub frozen_number : Source
frozen_number = record {
  functions =
      defines (named_by (codes "f")) [] (Some (Int 32))
      (block 0 []
      (sets 1 (Binary Mul no_flags 32 (Constant 32 6) (Constant 32 7))
      ∷ sets 2 (Freeze (Int 32) (Local 1))
      ∷ [])
      (Return (Some (typed (Int 32) (Local 2))))
      ∷ [])
      ∷ [];
  variables = [];
}

abbrev pub least_number_divided : Source
least_number_divided = record {
  functions =
      defines (named_by (codes "f")) [] (Some (Int 32))
      (block 0 []
      (sets 1 (Binary Sdiv no_flags 8 (Constant 8 128) (Constant 8 1))
      ∷ sets 2 (Binary Srem no_flags 8 (Constant 8 128) (Constant 8 127))
      ∷ sets 3 (Cast Sext (Int 8) (Local 1) (Int 32))
      ∷ sets 4 (Cast Sext (Int 8) (Local 2) (Int 32))
      ∷ sets 5 (Binary Mul no_flags 32 (Local 3) (Constant 32 1000))
      ∷ sets 6 (Binary Add no_flags 32 (Local 5) (Local 4))
      ∷ [])
      (Return (Some (typed (Int 32) (Local 6))))
      ∷ [])
      ∷ [];
  variables = [];
}

abbrev pub left_shift_drops_bits : Source
left_shift_drops_bits = record {
  functions =
      defines (named_by (codes "f")) [] (Some (Int 32))
      (block 0 []
      (sets 1 (Binary Shl no_flags 32 (Constant 32 3060399405) (Constant 32 5))
      ∷ [])
      (Return (Some (typed (Int 32) (Local 1))))
      ∷ [])
      ∷ [];
  variables = [];
}

abbrev pub one_bit : Source
one_bit = record {
  functions =
      defines (named_by (codes "f")) [] (Some (Int 32))
      (block 0 []
      (sets 1 (Binary Add no_flags 1 (Constant 1 1) (Constant 1 1))
      ∷ sets 2 (Binary Xor no_flags 1 (Local 1) (Constant 1 1))
      ∷ sets 3 (Icmp Slt (Int 1) (Local 2) (Local 1))
      ∷ sets 4 (Cast Sext (Int 1) (Local 2) (Int 32))
      ∷ sets 5 (Cast Zext (Int 1) (Local 3) (Int 32))
      ∷ sets 6 (Binary Add no_flags 32 (Local 4) (Local 5))
      ∷ [])
      (Return (Some (typed (Int 32) (Local 6))))
      ∷ [])
      ∷ [];
  variables = [];
}

abbrev pub product_at_33_bits : Source
product_at_33_bits = record {
  functions =
      defines (named_by (codes "f")) [] (Some (Int 64))
      (block 0 []
      (sets 1 (Cast Trunc (Int 64) (Constant 64 5000000000) (Int 33))
      ∷ sets 2 (Binary Mul no_flags 33 (Local 1) (Constant 33 7))
      ∷ sets 3 (Cast Zext (Int 33) (Local 2) (Int 64))
      ∷ [])
      (Return (Some (typed (Int 64) (Local 3))))
      ∷ [])
      ∷ [];
  variables = [];
}

abbrev pub product_at_64_bits : Source
product_at_64_bits = record {
  functions =
      defines (named_by (codes "f")) [] (Some (Int 64))
      (block 0 []
      (sets 1 (Binary Mul no_flags 64 (Constant 64 6364136223846793005) (Constant 64 6364136223846793005))
      ∷ sets 2 (Binary Add no_flags 64 (Local 1) (Constant 64 1442695040888963407))
      ∷ [])
      (Return (Some (typed (Int 64) (Local 2))))
      ∷ [])
      ∷ [];
  variables = [];
}

abbrev pub right_shifts_of_a_negative : Source
right_shifts_of_a_negative = record {
  functions =
      defines (named_by (codes "f")) [] (Some (Int 64))
      (block 0 []
      (sets 1 (Binary Lshr no_flags 64 (Constant 64 18446744073709550616) (Constant 64 3))
      ∷ sets 2 (Binary Ashr no_flags 64 (Constant 64 18446744073709550616) (Constant 64 3))
      ∷ sets 3 (Binary Xor no_flags 64 (Local 1) (Local 2))
      ∷ [])
      (Return (Some (typed (Int 64) (Local 3))))
      ∷ [])
      ∷ [];
  variables = [];
}

abbrev pub rotated : Source
rotated = record {
  functions =
      defines (named_by (codes "f")) [] (Some (Int 32))
      (block 0 []
      (sets 1 (Binary Shl no_flags 32 (Constant 32 305419896) (Constant 32 13))
      ∷ sets 2 (Binary Lshr no_flags 32 (Constant 32 305419896) (Constant 32 19))
      ∷ sets 3 (Binary Or no_flags 32 (Local 1) (Local 2))
      ∷ [])
      (Return (Some (typed (Int 32) (Local 3))))
      ∷ [])
      ∷ [];
  variables = [];
}

abbrev pub seven_bits : Source
seven_bits = record {
  functions =
      defines (named_by (codes "f")) [] (Some (Int 32))
      (block 0 []
      (sets 1 (Binary Add no_flags 7 (Constant 7 100) (Constant 7 50))
      ∷ sets 2 (Binary Shl no_flags 7 (Local 1) (Constant 7 3))
      ∷ sets 3 (Icmp Slt (Int 7) (Constant 7 100) (Local 2))
      ∷ sets 4 (Cast Zext (Int 7) (Local 2) (Int 32))
      ∷ sets 5 (Select (Local 3) (typed (Int 32) (Local 4)) (typed (Int 32) (Constant 32 0)))
      ∷ [])
      (Return (Some (typed (Int 32) (Local 5))))
      ∷ [])
      ∷ [];
  variables = [];
}

abbrev pub signed_comparisons : Source
signed_comparisons = record {
  functions =
      defines (named_by (codes "f")) [] (Some (Int 32))
      (block 0 []
      (sets 1 (Icmp Slt (Int 8) (Constant 8 200) (Constant 8 100))
      ∷ sets 2 (Icmp Sle (Int 8) (Constant 8 200) (Constant 8 200))
      ∷ sets 3 (Icmp Sgt (Int 8) (Constant 8 200) (Constant 8 100))
      ∷ sets 4 (Icmp Sge (Int 8) (Constant 8 100) (Constant 8 200))
      ∷ sets 5 (Cast Zext (Int 1) (Local 1) (Int 32))
      ∷ sets 6 (Cast Zext (Int 1) (Local 2) (Int 32))
      ∷ sets 7 (Cast Zext (Int 1) (Local 3) (Int 32))
      ∷ sets 8 (Cast Zext (Int 1) (Local 4) (Int 32))
      ∷ sets 9 (Binary Shl no_flags 32 (Local 6) (Constant 32 1))
      ∷ sets 10 (Binary Shl no_flags 32 (Local 7) (Constant 32 2))
      ∷ sets 11 (Binary Shl no_flags 32 (Local 8) (Constant 32 3))
      ∷ sets 12 (Binary Or no_flags 32 (Local 5) (Local 9))
      ∷ sets 13 (Binary Or no_flags 32 (Local 10) (Local 11))
      ∷ sets 14 (Binary Or no_flags 32 (Local 12) (Local 13))
      ∷ [])
      (Return (Some (typed (Int 32) (Local 14))))
      ∷ [])
      ∷ [];
  variables = [];
}

abbrev pub signed_division : Source
signed_division = record {
  functions =
      defines (named_by (codes "f")) [] (Some (Int 32))
      (block 0 []
      (sets 1 (Binary Sdiv no_flags 32 (Constant 32 4294967289) (Constant 32 2))
      ∷ sets 2 (Binary Srem no_flags 32 (Constant 32 4294967289) (Constant 32 2))
      ∷ sets 3 (Binary Sdiv no_flags 32 (Constant 32 7) (Constant 32 4294967294))
      ∷ sets 4 (Binary Srem no_flags 32 (Constant 32 7) (Constant 32 4294967294))
      ∷ sets 5 (Binary Mul no_flags 32 (Local 1) (Constant 32 1000))
      ∷ sets 6 (Binary Mul no_flags 32 (Local 2) (Constant 32 100))
      ∷ sets 7 (Binary Mul no_flags 32 (Local 3) (Constant 32 10))
      ∷ sets 8 (Binary Add no_flags 32 (Local 5) (Local 6))
      ∷ sets 9 (Binary Add no_flags 32 (Local 7) (Local 4))
      ∷ sets 10 (Binary Add no_flags 32 (Local 8) (Local 9))
      ∷ [])
      (Return (Some (typed (Int 32) (Local 10))))
      ∷ [])
      ∷ [];
  variables = [];
}

abbrev pub sum_wraps_at_8_bits : Source
sum_wraps_at_8_bits = record {
  functions =
      defines (named_by (codes "f")) [] (Some (Int 32))
      (block 0 []
      (sets 1 (Binary Add no_flags 8 (Constant 8 200) (Constant 8 100))
      ∷ sets 2 (Cast Zext (Int 8) (Local 1) (Int 32))
      ∷ [])
      (Return (Some (typed (Int 32) (Local 2))))
      ∷ [])
      ∷ [];
  variables = [];
}

abbrev pub unsigned_comparisons : Source
unsigned_comparisons = record {
  functions =
      defines (named_by (codes "f")) [] (Some (Int 32))
      (block 0 []
      (sets 1 (Icmp Ult (Int 8) (Constant 8 200) (Constant 8 100))
      ∷ sets 2 (Icmp Ule (Int 8) (Constant 8 200) (Constant 8 200))
      ∷ sets 3 (Icmp Ugt (Int 8) (Constant 8 200) (Constant 8 100))
      ∷ sets 4 (Icmp Uge (Int 8) (Constant 8 100) (Constant 8 200))
      ∷ sets 5 (Cast Zext (Int 1) (Local 1) (Int 32))
      ∷ sets 6 (Cast Zext (Int 1) (Local 2) (Int 32))
      ∷ sets 7 (Cast Zext (Int 1) (Local 3) (Int 32))
      ∷ sets 8 (Cast Zext (Int 1) (Local 4) (Int 32))
      ∷ sets 9 (Binary Shl no_flags 32 (Local 6) (Constant 32 1))
      ∷ sets 10 (Binary Shl no_flags 32 (Local 7) (Constant 32 2))
      ∷ sets 11 (Binary Shl no_flags 32 (Local 8) (Constant 32 3))
      ∷ sets 12 (Binary Or no_flags 32 (Local 5) (Local 9))
      ∷ sets 13 (Binary Or no_flags 32 (Local 10) (Local 11))
      ∷ sets 14 (Binary Or no_flags 32 (Local 12) (Local 13))
      ∷ [])
      (Return (Some (typed (Int 32) (Local 14))))
      ∷ [])
      ∷ [];
  variables = [];
}

abbrev pub unsigned_division : Source
unsigned_division = record {
  functions =
      defines (named_by (codes "f")) [] (Some (Int 64))
      (block 0 []
      (sets 1 (Binary Udiv no_flags 64 (Constant 64 18446744073709551615) (Constant 64 10))
      ∷ sets 2 (Binary Urem no_flags 64 (Constant 64 18446744073709551615) (Constant 64 10))
      ∷ sets 3 (Binary Mul no_flags 64 (Local 2) (Constant 64 1000000007))
      ∷ sets 4 (Binary Add no_flags 64 (Local 1) (Local 3))
      ∷ [])
      (Return (Some (typed (Int 64) (Local 4))))
      ∷ [])
      ∷ [];
  variables = [];
}
