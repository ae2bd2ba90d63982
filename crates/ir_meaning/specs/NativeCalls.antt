-- The texts under checks/native/calls as trees, which `checks/native_runs --write` makes.
use Rattle.std.specs.Prelude.{[], ◌∷◌, Some, None, codes}
use Rattle.ir_tree.specs.Forms.{int, pointer}
use Rattle.ir_tree.specs.declared.block.Terminator.TheVariants.{Branch, Jump, Return}
use Rattle.ir_tree.specs.declared.instr.BinaryOp.TheVariants.{Add, Mul, Or, Sdiv, Shl, Srem, Sub, Udiv, Urem, Xor}
use Rattle.ir_tree.specs.declared.instr.CastOp.TheVariants.{Zext}
use Rattle.ir_tree.specs.declared.instr.Instr.TheVariants.{Alloca, Binary, Call, Cast, Icmp, Load, Select, Store}
use Rattle.ir_tree.specs.declared.instr.Predicate.TheVariants.{Eq, Slt, Ule, Ult}
use Rattle.ir_tree.specs.declared.operand.Operand.TheVariants.{Local, Number as Constant, Symbol as Named}
use Rattle.ir_tree.specs.declared.operand.Reg.TheVariants.{Int, Ptr}
use Rattle.ir_meaning.specs.ExampleRuns.{block, defines, does, named_by, no_flags, sets}
use Rattle.ir_meaning.specs.Native.{Source, edge, param, takes, typed}

abbrev pub answers_through_a_pointer : Source
answers_through_a_pointer = record {
  functions =
      defines (named_by (codes "divide")) (param 0 (Int 32) ∷ param 1 (Int 32) ∷ param 2 Ptr ∷ []) (Some (Int 32))
      (block 3 []
      (sets 4 (Binary Sdiv no_flags 32 (Local 0) (Local 1))
      ∷ sets 5 (Binary Srem no_flags 32 (Local 0) (Local 1))
      ∷ does (Store (Int 32) (Local 4) (Local 2) 4)
      ∷ [])
      (Return (Some (typed (Int 32) (Local 5))))
      ∷ [])
      ∷ defines (named_by (codes "f")) [] (Some (Int 32))
      (block 0 []
      (sets 1 (Alloca (int 32) 4)
      ∷ sets 2 (Call (Some (Int 32)) (Named (named_by (codes "divide")) 0) (typed (Int 32) (Constant 32 1000) ∷ typed (Int 32) (Constant 32 7) ∷ typed Ptr (Local 1) ∷ []))
      ∷ sets 3 (Load (Int 32) (Local 1) 4)
      ∷ sets 4 (Binary Mul no_flags 32 (Local 3) (Constant 32 10))
      ∷ sets 5 (Binary Add no_flags 32 (Local 4) (Local 2))
      ∷ [])
      (Return (Some (typed (Int 32) (Local 5))))
      ∷ [])
      ∷ [];
  variables = [];
}

abbrev pub even_and_odd : Source
even_and_odd = record {
  functions =
      defines (named_by (codes "even")) (param 0 (Int 32) ∷ []) (Some (Int 1))
      (block 1 []
      (sets 2 (Icmp Eq (Int 32) (Local 0) (Constant 32 0))
      ∷ [])
      (Branch (Local 2) 3 4)
      ∷ block 3 []
      []
      (Return (Some (typed (Int 1) (Constant 1 1))))
      ∷ block 4 []
      (sets 5 (Binary Sub no_flags 32 (Local 0) (Constant 32 1))
      ∷ sets 6 (Call (Some (Int 1)) (Named (named_by (codes "odd")) 0) (typed (Int 32) (Local 5) ∷ []))
      ∷ [])
      (Return (Some (typed (Int 1) (Local 6))))
      ∷ [])
      ∷ defines (named_by (codes "odd")) (param 0 (Int 32) ∷ []) (Some (Int 1))
      (block 1 []
      (sets 2 (Icmp Eq (Int 32) (Local 0) (Constant 32 0))
      ∷ [])
      (Branch (Local 2) 3 4)
      ∷ block 3 []
      []
      (Return (Some (typed (Int 1) (Constant 1 0))))
      ∷ block 4 []
      (sets 5 (Binary Sub no_flags 32 (Local 0) (Constant 32 1))
      ∷ sets 6 (Call (Some (Int 1)) (Named (named_by (codes "even")) 0) (typed (Int 32) (Local 5) ∷ []))
      ∷ [])
      (Return (Some (typed (Int 1) (Local 6))))
      ∷ [])
      ∷ defines (named_by (codes "f")) [] (Some (Int 32))
      (block 0 []
      (sets 1 (Call (Some (Int 1)) (Named (named_by (codes "even")) 0) (typed (Int 32) (Constant 32 5) ∷ []))
      ∷ sets 2 (Call (Some (Int 1)) (Named (named_by (codes "odd")) 0) (typed (Int 32) (Constant 32 5) ∷ []))
      ∷ sets 3 (Cast Zext (Int 1) (Local 1) (Int 32))
      ∷ sets 4 (Cast Zext (Int 1) (Local 2) (Int 32))
      ∷ sets 5 (Binary Shl no_flags 32 (Local 4) (Constant 32 1))
      ∷ sets 6 (Binary Or no_flags 32 (Local 3) (Local 5))
      ∷ [])
      (Return (Some (typed (Int 32) (Local 6))))
      ∷ [])
      ∷ [];
  variables = [];
}

abbrev pub factorial : Source
factorial = record {
  functions =
      defines (named_by (codes "factorial")) (param 0 (Int 64) ∷ []) (Some (Int 64))
      (block 1 []
      (sets 2 (Icmp Ule (Int 64) (Local 0) (Constant 64 1))
      ∷ [])
      (Branch (Local 2) 3 4)
      ∷ block 3 []
      []
      (Return (Some (typed (Int 64) (Constant 64 1))))
      ∷ block 4 []
      (sets 5 (Binary Sub no_flags 64 (Local 0) (Constant 64 1))
      ∷ sets 6 (Call (Some (Int 64)) (Named (named_by (codes "factorial")) 0) (typed (Int 64) (Local 5) ∷ []))
      ∷ sets 7 (Binary Mul no_flags 64 (Local 0) (Local 6))
      ∷ [])
      (Return (Some (typed (Int 64) (Local 7))))
      ∷ [])
      ∷ defines (named_by (codes "f")) [] (Some (Int 64))
      (block 0 []
      (sets 1 (Call (Some (Int 64)) (Named (named_by (codes "factorial")) 0) (typed (Int 64) (Constant 64 6) ∷ []))
      ∷ [])
      (Return (Some (typed (Int 64) (Local 1))))
      ∷ [])
      ∷ [];
  variables = [];
}

abbrev pub fibonacci_by_recursion : Source
fibonacci_by_recursion = record {
  functions =
      defines (named_by (codes "fib")) (param 0 (Int 32) ∷ []) (Some (Int 32))
      (block 1 []
      (sets 2 (Icmp Slt (Int 32) (Local 0) (Constant 32 2))
      ∷ [])
      (Branch (Local 2) 3 4)
      ∷ block 3 []
      []
      (Return (Some (typed (Int 32) (Local 0))))
      ∷ block 4 []
      (sets 5 (Binary Sub no_flags 32 (Local 0) (Constant 32 1))
      ∷ sets 6 (Binary Sub no_flags 32 (Local 0) (Constant 32 2))
      ∷ sets 7 (Call (Some (Int 32)) (Named (named_by (codes "fib")) 0) (typed (Int 32) (Local 5) ∷ []))
      ∷ sets 8 (Call (Some (Int 32)) (Named (named_by (codes "fib")) 0) (typed (Int 32) (Local 6) ∷ []))
      ∷ sets 9 (Binary Add no_flags 32 (Local 7) (Local 8))
      ∷ [])
      (Return (Some (typed (Int 32) (Local 9))))
      ∷ [])
      ∷ defines (named_by (codes "f")) [] (Some (Int 32))
      (block 0 []
      (sets 1 (Call (Some (Int 32)) (Named (named_by (codes "fib")) 0) (typed (Int 32) (Constant 32 5) ∷ []))
      ∷ [])
      (Return (Some (typed (Int 32) (Local 1))))
      ∷ [])
      ∷ [];
  variables = [];
}

abbrev pub greeting : Source
greeting = record {
  functions =
      defines (named_by (codes "f")) [] (Some (Int 32))
      (block 0 []
      (sets 1 (Call (Some (Int 32)) (Named (named_by (codes "putchar")) 0) (typed (Int 32) (Constant 32 72) ∷ []))
      ∷ sets 2 (Call (Some (Int 32)) (Named (named_by (codes "putchar")) 0) (typed (Int 32) (Constant 32 105) ∷ []))
      ∷ sets 3 (Binary Add no_flags 32 (Local 1) (Local 2))
      ∷ [])
      (Return (Some (typed (Int 32) (Local 3))))
      ∷ [])
      ∷ [];
  variables = [];
}

abbrev pub input_in_capitals : Source
input_in_capitals = record {
  functions =
      defines (named_by (codes "f")) [] (Some (Int 32))
      (block 0 []
      []
      (Jump 1)
      ∷ block 1 (takes 2 (Int 32) (edge 0 (Constant 32 0) ∷ edge 5 (Local 11) ∷ [])
      ∷ [])
      (sets 3 (Call (Some (Int 32)) (Named (named_by (codes "getchar")) 0) [])
      ∷ sets 4 (Icmp Slt (Int 32) (Local 3) (Constant 32 0))
      ∷ [])
      (Branch (Local 4) 12 5)
      ∷ block 5 []
      (sets 6 (Binary Sub no_flags 32 (Local 3) (Constant 32 97))
      ∷ sets 7 (Icmp Ult (Int 32) (Local 6) (Constant 32 26))
      ∷ sets 8 (Binary Xor no_flags 32 (Local 3) (Constant 32 32))
      ∷ sets 9 (Select (Local 7) (typed (Int 32) (Local 8)) (typed (Int 32) (Local 3)))
      ∷ sets 10 (Call (Some (Int 32)) (Named (named_by (codes "putchar")) 0) (typed (Int 32) (Local 9) ∷ []))
      ∷ sets 11 (Binary Add no_flags 32 (Local 2) (Constant 32 1))
      ∷ [])
      (Jump 1)
      ∷ block 12 []
      []
      (Return (Some (typed (Int 32) (Local 2))))
      ∷ [])
      ∷ [];
  variables = [];
}

abbrev pub low_byte_written : Source
low_byte_written = record {
  functions =
      defines (named_by (codes "f")) [] (Some (Int 32))
      (block 0 []
      (sets 1 (Call (Some (Int 32)) (Named (named_by (codes "putchar")) 0) (typed (Int 32) (Constant 32 833) ∷ []))
      ∷ [])
      (Return (Some (typed (Int 32) (Local 1))))
      ∷ [])
      ∷ [];
  variables = [];
}

abbrev pub number_written : Source
number_written = record {
  functions =
      defines (named_by (codes "write")) (param 0 (Int 32) ∷ []) None
      (block 1 []
      (sets 2 (Binary Udiv no_flags 32 (Local 0) (Constant 32 10))
      ∷ sets 3 (Binary Urem no_flags 32 (Local 0) (Constant 32 10))
      ∷ sets 4 (Icmp Eq (Int 32) (Local 2) (Constant 32 0))
      ∷ [])
      (Branch (Local 4) 6 5)
      ∷ block 5 []
      (does (Call None (Named (named_by (codes "write")) 0) (typed (Int 32) (Local 2) ∷ []))
      ∷ [])
      (Jump 6)
      ∷ block 6 []
      (sets 7 (Binary Add no_flags 32 (Local 3) (Constant 32 48))
      ∷ sets 8 (Call (Some (Int 32)) (Named (named_by (codes "putchar")) 0) (typed (Int 32) (Local 7) ∷ []))
      ∷ [])
      (Return None)
      ∷ [])
      ∷ defines (named_by (codes "f")) [] (Some (Int 32))
      (block 0 []
      (does (Call None (Named (named_by (codes "write")) 0) (typed (Int 32) (Constant 32 1729) ∷ []))
      ∷ [])
      (Return (Some (typed (Int 32) (Constant 32 0))))
      ∷ [])
      ∷ [];
  variables = [];
}

abbrev pub slots_of_each_call : Source
slots_of_each_call = record {
  functions =
      defines (named_by (codes "depth")) (param 0 (Int 32) ∷ []) (Some (Int 32))
      (block 1 []
      (sets 2 (Alloca (int 32) 4)
      ∷ does (Store (Int 32) (Local 0) (Local 2) 4)
      ∷ sets 3 (Icmp Eq (Int 32) (Local 0) (Constant 32 0))
      ∷ [])
      (Branch (Local 3) 10 4)
      ∷ block 4 []
      (sets 5 (Binary Sub no_flags 32 (Local 0) (Constant 32 1))
      ∷ sets 6 (Call (Some (Int 32)) (Named (named_by (codes "depth")) 0) (typed (Int 32) (Local 5) ∷ []))
      ∷ sets 7 (Load (Int 32) (Local 2) 4)
      ∷ sets 8 (Binary Mul no_flags 32 (Local 6) (Constant 32 10))
      ∷ sets 9 (Binary Add no_flags 32 (Local 8) (Local 7))
      ∷ [])
      (Return (Some (typed (Int 32) (Local 9))))
      ∷ block 10 []
      []
      (Return (Some (typed (Int 32) (Constant 32 0))))
      ∷ [])
      ∷ defines (named_by (codes "f")) [] (Some (Int 32))
      (block 0 []
      (sets 1 (Call (Some (Int 32)) (Named (named_by (codes "depth")) 0) (typed (Int 32) (Constant 32 4) ∷ []))
      ∷ [])
      (Return (Some (typed (Int 32) (Local 1))))
      ∷ [])
      ∷ [];
  variables = [];
}

abbrev pub through_a_pointer : Source
through_a_pointer = record {
  functions =
      defines (named_by (codes "twice")) (param 0 (Int 32) ∷ []) (Some (Int 32))
      (block 1 []
      (sets 2 (Binary Shl no_flags 32 (Local 0) (Constant 32 1))
      ∷ [])
      (Return (Some (typed (Int 32) (Local 2))))
      ∷ [])
      ∷ defines (named_by (codes "square")) (param 0 (Int 32) ∷ []) (Some (Int 32))
      (block 1 []
      (sets 2 (Binary Mul no_flags 32 (Local 0) (Local 0))
      ∷ [])
      (Return (Some (typed (Int 32) (Local 2))))
      ∷ [])
      ∷ defines (named_by (codes "f")) [] (Some (Int 32))
      (block 0 []
      (sets 1 (Alloca pointer 8)
      ∷ sets 2 (Icmp Ult (Int 32) (Constant 32 3) (Constant 32 5))
      ∷ sets 3 (Select (Local 2) (typed Ptr (Named (named_by (codes "square")) 0)) (typed Ptr (Named (named_by (codes "twice")) 0)))
      ∷ does (Store Ptr (Local 3) (Local 1) 8)
      ∷ sets 4 (Load Ptr (Local 1) 8)
      ∷ sets 5 (Call (Some (Int 32)) (Local 4) (typed (Int 32) (Constant 32 9) ∷ []))
      ∷ sets 6 (Call (Some (Int 32)) (Named (named_by (codes "twice")) 0) (typed (Int 32) (Local 5) ∷ []))
      ∷ [])
      (Return (Some (typed (Int 32) (Local 6))))
      ∷ [])
      ∷ [];
  variables = [];
}

abbrev pub towers : Source
towers = record {
  functions =
      defines (named_by (codes "moves")) (param 0 (Int 32) ∷ []) (Some (Int 32))
      (block 1 []
      (sets 2 (Icmp Eq (Int 32) (Local 0) (Constant 32 0))
      ∷ [])
      (Branch (Local 2) 8 3)
      ∷ block 3 []
      (sets 4 (Binary Sub no_flags 32 (Local 0) (Constant 32 1))
      ∷ sets 5 (Call (Some (Int 32)) (Named (named_by (codes "moves")) 0) (typed (Int 32) (Local 4) ∷ []))
      ∷ sets 6 (Binary Shl no_flags 32 (Local 5) (Constant 32 1))
      ∷ sets 7 (Binary Or no_flags 32 (Local 6) (Constant 32 1))
      ∷ [])
      (Return (Some (typed (Int 32) (Local 7))))
      ∷ block 8 []
      []
      (Return (Some (typed (Int 32) (Constant 32 0))))
      ∷ [])
      ∷ defines (named_by (codes "f")) [] (Some (Int 32))
      (block 0 []
      (sets 1 (Call (Some (Int 32)) (Named (named_by (codes "moves")) 0) (typed (Int 32) (Constant 32 4) ∷ []))
      ∷ [])
      (Return (Some (typed (Int 32) (Local 1))))
      ∷ [])
      ∷ [];
  variables = [];
}
