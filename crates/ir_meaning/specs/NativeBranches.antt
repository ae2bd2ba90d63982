-- The texts under checks/native/branches as trees, which `checks/native_runs --write` makes.
use Rattle.std.specs.Prelude.{true, false, [], ◌∷◌, Some, codes}
use Rattle.ir_tree.specs.declared.block.Terminator.TheVariants.{Branch, Jump, Return, Switch}
use Rattle.ir_tree.specs.declared.instr.BinaryOp.TheVariants.{Add, And, Lshr, Mul, Sub, Urem}
use Rattle.ir_tree.specs.declared.instr.CastOp.TheVariants.{Trunc}
use Rattle.ir_tree.specs.declared.instr.Instr.TheVariants.{Binary, Cast, Icmp, Select}
use Rattle.ir_tree.specs.declared.instr.Predicate.TheVariants.{Eq, Ne, Sle, Ult}
use Rattle.ir_tree.specs.declared.operand.Operand.TheVariants.{Local, Number as Constant}
use Rattle.ir_tree.specs.declared.operand.Reg.TheVariants.{Int}
use Rattle.ir_meaning.specs.ExampleRuns.{block, defines, named_by, no_flags, sets}
use Rattle.ir_meaning.specs.Native.{Source, case, edge, takes, typed}

abbrev pub bits_counted : Source
bits_counted = record {
  functions =
      defines (named_by (codes "f")) [] (Some (Int 32))
      (block 0 []
      []
      (Jump 1)
      ∷ block 1 (takes 2 (Int 32) (edge 0 (Constant 32 181) ∷ edge 5 (Local 7) ∷ [])
      ∷ takes 3 (Int 32) (edge 0 (Constant 32 0) ∷ edge 5 (Local 8) ∷ [])
      ∷ [])
      (sets 4 (Icmp Eq (Int 32) (Local 2) (Constant 32 0))
      ∷ [])
      (Branch (Local 4) 9 5)
      ∷ block 5 []
      (sets 6 (Binary Sub no_flags 32 (Local 2) (Constant 32 1))
      ∷ sets 7 (Binary And no_flags 32 (Local 2) (Local 6))
      ∷ sets 8 (Binary Add no_flags 32 (Local 3) (Constant 32 1))
      ∷ [])
      (Jump 1)
      ∷ block 9 []
      []
      (Return (Some (typed (Int 32) (Local 3))))
      ∷ [])
      ∷ [];
  variables = [];
}

abbrev pub fibonacci_numbers : Source
fibonacci_numbers = record {
  functions =
      defines (named_by (codes "f")) [] (Some (Int 64))
      (block 0 []
      []
      (Jump 1)
      ∷ block 1 (takes 2 (Int 32) (edge 0 (Constant 32 0) ∷ edge 6 (Local 8) ∷ [])
      ∷ takes 3 (Int 64) (edge 0 (Constant 64 0) ∷ edge 6 (Local 4) ∷ [])
      ∷ takes 4 (Int 64) (edge 0 (Constant 64 1) ∷ edge 6 (Local 7) ∷ [])
      ∷ [])
      (sets 5 (Icmp Ne (Int 32) (Local 2) (Constant 32 12))
      ∷ [])
      (Branch (Local 5) 6 9)
      ∷ block 6 []
      (sets 7 (Binary Add no_flags 64 (Local 3) (Local 4))
      ∷ sets 8 (Binary Add no_flags 32 (Local 2) (Constant 32 1))
      ∷ [])
      (Jump 1)
      ∷ block 9 []
      []
      (Return (Some (typed (Int 64) (Local 3))))
      ∷ [])
      ∷ [];
  variables = [];
}

abbrev pub greatest_common_divisor : Source
greatest_common_divisor = record {
  functions =
      defines (named_by (codes "f")) [] (Some (Int 32))
      (block 0 []
      []
      (Jump 1)
      ∷ block 1 (takes 2 (Int 32) (edge 0 (Constant 32 1071) ∷ edge 5 (Local 3) ∷ [])
      ∷ takes 3 (Int 32) (edge 0 (Constant 32 462) ∷ edge 5 (Local 6) ∷ [])
      ∷ [])
      (sets 4 (Icmp Eq (Int 32) (Local 3) (Constant 32 0))
      ∷ [])
      (Branch (Local 4) 7 5)
      ∷ block 5 []
      (sets 6 (Binary Urem no_flags 32 (Local 2) (Local 3))
      ∷ [])
      (Jump 1)
      ∷ block 7 []
      []
      (Return (Some (typed (Int 32) (Local 2))))
      ∷ [])
      ∷ [];
  variables = [];
}

abbrev pub loops_in_a_loop : Source
loops_in_a_loop = record {
  functions =
      defines (named_by (codes "f")) [] (Some (Int 32))
      (block 0 []
      []
      (Jump 1)
      ∷ block 1 (takes 2 (Int 32) (edge 0 (Constant 32 1) ∷ edge 11 (Local 12) ∷ [])
      ∷ takes 3 (Int 32) (edge 0 (Constant 32 0) ∷ edge 11 (Local 8) ∷ [])
      ∷ [])
      []
      (Jump 4)
      ∷ block 4 (takes 5 (Int 32) (edge 1 (Constant 32 1) ∷ edge 4 (Local 9) ∷ [])
      ∷ takes 6 (Int 32) (edge 1 (Local 3) ∷ edge 4 (Local 8) ∷ [])
      ∷ [])
      (sets 7 (Binary Mul no_flags 32 (Local 2) (Local 5))
      ∷ sets 8 (Binary Add no_flags 32 (Local 6) (Local 7))
      ∷ sets 9 (Binary Add no_flags 32 (Local 5) (Constant 32 1))
      ∷ sets 10 (Icmp Sle (Int 32) (Local 9) (Constant 32 3))
      ∷ [])
      (Branch (Local 10) 4 11)
      ∷ block 11 []
      (sets 12 (Binary Add no_flags 32 (Local 2) (Constant 32 1))
      ∷ sets 13 (Icmp Sle (Int 32) (Local 12) (Constant 32 3))
      ∷ [])
      (Branch (Local 13) 1 14)
      ∷ block 14 []
      []
      (Return (Some (typed (Int 32) (Local 8))))
      ∷ [])
      ∷ [];
  variables = [];
}

abbrev pub power_modulo : Source
power_modulo = record {
  functions =
      defines (named_by (codes "f")) [] (Some (Int 32))
      (block 0 []
      []
      (Jump 1)
      ∷ block 1 (takes 2 (Int 32) (edge 0 (Constant 32 1) ∷ edge 1 (Local 8) ∷ [])
      ∷ takes 3 (Int 32) (edge 0 (Constant 32 7) ∷ edge 1 (Local 10) ∷ [])
      ∷ takes 4 (Int 32) (edge 0 (Constant 32 13) ∷ edge 1 (Local 11) ∷ [])
      ∷ [])
      (sets 5 (Cast Trunc (Int 32) (Local 4) (Int 1))
      ∷ sets 6 (Binary Mul no_flags 32 (Local 2) (Local 3))
      ∷ sets 7 (Binary Urem no_flags 32 (Local 6) (Constant 32 1000))
      ∷ sets 8 (Select (Local 5) (typed (Int 32) (Local 7)) (typed (Int 32) (Local 2)))
      ∷ sets 9 (Binary Mul no_flags 32 (Local 3) (Local 3))
      ∷ sets 10 (Binary Urem no_flags 32 (Local 9) (Constant 32 1000))
      ∷ sets 11 (Binary Lshr no_flags 32 (Local 4) (Constant 32 1))
      ∷ sets 12 (Icmp Eq (Int 32) (Local 11) (Constant 32 0))
      ∷ [])
      (Branch (Local 12) 13 1)
      ∷ block 13 []
      []
      (Return (Some (typed (Int 32) (Local 8))))
      ∷ [])
      ∷ [];
  variables = [];
}

abbrev pub states : Source
states = record {
  functions =
      defines (named_by (codes "f")) [] (Some (Int 32))
      (block 0 []
      []
      (Jump 1)
      ∷ block 1 (takes 2 (Int 32) (edge 0 (Constant 32 0) ∷ edge 4 (Constant 32 2) ∷ edge 6 (Constant 32 4294967295) ∷ edge 8 (Constant 32 1) ∷ [])
      ∷ takes 3 (Int 32) (edge 0 (Constant 32 0) ∷ edge 4 (Local 5) ∷ edge 6 (Local 7) ∷ edge 8 (Local 9) ∷ [])
      ∷ [])
      []
      (Switch 32 (Local 2) 10 (case 32 0 4 ∷ case 32 1 6 ∷ case 32 2 8 ∷ []))
      ∷ block 4 []
      (sets 5 (Binary Add no_flags 32 (Local 3) (Constant 32 100))
      ∷ [])
      (Jump 1)
      ∷ block 6 []
      (sets 7 (Binary Mul no_flags 32 (Local 3) (Constant 32 3))
      ∷ [])
      (Jump 1)
      ∷ block 8 []
      (sets 9 (Binary Sub no_flags 32 (Local 3) (Constant 32 7))
      ∷ [])
      (Jump 1)
      ∷ block 10 []
      []
      (Return (Some (typed (Int 32) (Local 3))))
      ∷ [])
      ∷ [];
  variables = [];
}

abbrev pub steps_to_one : Source
steps_to_one = record {
  functions =
      defines (named_by (codes "f")) [] (Some (Int 32))
      (block 0 []
      []
      (Jump 1)
      ∷ block 1 (takes 2 (Int 32) (edge 0 (Constant 32 6) ∷ edge 8 (Local 9) ∷ edge 10 (Local 12) ∷ [])
      ∷ takes 3 (Int 32) (edge 0 (Constant 32 0) ∷ edge 8 (Local 6) ∷ edge 10 (Local 6) ∷ [])
      ∷ [])
      (sets 4 (Icmp Eq (Int 32) (Local 2) (Constant 32 1))
      ∷ [])
      (Branch (Local 4) 13 5)
      ∷ block 5 []
      (sets 6 (Binary Add no_flags 32 (Local 3) (Constant 32 1))
      ∷ sets 7 (Cast Trunc (Int 32) (Local 2) (Int 1))
      ∷ [])
      (Branch (Local 7) 10 8)
      ∷ block 8 []
      (sets 9 (Binary Lshr (record { nuw = false; nsw = false; exact = true }) 32 (Local 2) (Constant 32 1))
      ∷ [])
      (Jump 1)
      ∷ block 10 []
      (sets 11 (Binary Mul no_flags 32 (Local 2) (Constant 32 3))
      ∷ sets 12 (Binary Add no_flags 32 (Local 11) (Constant 32 1))
      ∷ [])
      (Jump 1)
      ∷ block 13 []
      []
      (Return (Some (typed (Int 32) (Local 3))))
      ∷ [])
      ∷ [];
  variables = [];
}

abbrev pub sum_to_ten : Source
sum_to_ten = record {
  functions =
      defines (named_by (codes "f")) [] (Some (Int 32))
      (block 0 []
      []
      (Jump 1)
      ∷ block 1 (takes 2 (Int 32) (edge 0 (Constant 32 1) ∷ edge 1 (Local 5) ∷ [])
      ∷ takes 3 (Int 32) (edge 0 (Constant 32 0) ∷ edge 1 (Local 4) ∷ [])
      ∷ [])
      (sets 4 (Binary Add (record { nuw = true; nsw = true; exact = false }) 32 (Local 3) (Local 2))
      ∷ sets 5 (Binary Add (record { nuw = true; nsw = true; exact = false }) 32 (Local 2) (Constant 32 1))
      ∷ sets 6 (Icmp Ult (Int 32) (Local 2) (Constant 32 10))
      ∷ [])
      (Branch (Local 6) 1 7)
      ∷ block 7 []
      []
      (Return (Some (typed (Int 32) (Local 4))))
      ∷ [])
      ∷ [];
  variables = [];
}
