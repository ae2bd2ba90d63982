-- The texts under checks/native/memory as trees, which `checks/native_runs --write` makes.
use Rattle.std.specs.Prelude.{true, false, [], ◌∷◌, Some, None, codes}
use Rattle.ir_tree.specs.Forms.{int, pointer, array, structure, no_parts, part}
use Rattle.ir_tree.specs.declared.block.Terminator.TheVariants.{Branch, Jump, Return}
use Rattle.ir_tree.specs.declared.instr.BinaryOp.TheVariants.{Add, Mul}
use Rattle.ir_tree.specs.declared.instr.CastOp.TheVariants.{Sext, Trunc, Zext}
use Rattle.ir_tree.specs.declared.instr.Instr.TheVariants.{Address, Alloca, Binary, Call, Cast, Icmp, Load, Select, Store}
use Rattle.ir_tree.specs.declared.instr.Predicate.TheVariants.{Eq, Ult}
use Rattle.ir_tree.specs.declared.operand.Operand.TheVariants.{Local, Null, Number as Constant, Symbol as Named}
use Rattle.ir_tree.specs.declared.operand.Reg.TheVariants.{Int, Ptr}
use Rattle.ir_meaning.specs.ExampleRuns.{block, defines, does, named_by, no_flags, sets}
use Rattle.ir_meaning.specs.Native.{Source, edge, numbers, takes, typed}

abbrev pub array_of_squares : Source
array_of_squares = record {
  functions =
      defines (named_by (codes "f")) [] (Some (Int 32))
      (block 0 []
      (sets 1 (Alloca (array 4 (int 32)) 16)
      ∷ [])
      (Jump 2)
      ∷ block 2 (takes 3 (Int 64) (edge 0 (Constant 64 0) ∷ edge 2 (Local 7) ∷ [])
      ∷ [])
      (sets 4 (Cast Trunc (Int 64) (Local 3) (Int 32))
      ∷ sets 5 (Binary Mul no_flags 32 (Local 4) (Local 4))
      ∷ sets 6 (Address true (array 4 (int 32)) (Local 1) (typed (Int 64) (Constant 64 0) ∷ typed (Int 64) (Local 3) ∷ []))
      ∷ does (Store (Int 32) (Local 5) (Local 6) 4)
      ∷ sets 7 (Binary Add no_flags 64 (Local 3) (Constant 64 1))
      ∷ sets 8 (Icmp Eq (Int 64) (Local 7) (Constant 64 4))
      ∷ [])
      (Branch (Local 8) 9 2)
      ∷ block 9 (takes 10 (Int 64) (edge 2 (Constant 64 0) ∷ edge 9 (Local 15) ∷ [])
      ∷ takes 11 (Int 32) (edge 2 (Constant 32 0) ∷ edge 9 (Local 14) ∷ [])
      ∷ [])
      (sets 12 (Address true (int 32) (Local 1) (typed (Int 64) (Local 10) ∷ []))
      ∷ sets 13 (Load (Int 32) (Local 12) 4)
      ∷ sets 14 (Binary Add no_flags 32 (Local 11) (Local 13))
      ∷ sets 15 (Binary Add no_flags 64 (Local 10) (Constant 64 1))
      ∷ sets 16 (Icmp Eq (Int 64) (Local 15) (Constant 64 4))
      ∷ [])
      (Branch (Local 16) 17 9)
      ∷ block 17 []
      []
      (Return (Some (typed (Int 32) (Local 14))))
      ∷ [])
      ∷ [];
  variables = [];
}

abbrev pub constant_table : Source
constant_table = record {
  functions =
      defines (named_by (codes "f")) [] (Some (Int 32))
      (block 0 []
      (sets 1 (Address true (array 5 (int 16)) (Named (named_by (codes "table")) 0) (typed (Int 64) (Constant 64 0) ∷ typed (Int 64) (Constant 64 4) ∷ []))
      ∷ sets 2 (Load (Int 16) (Local 1) 2)
      ∷ sets 3 (Cast Sext (Int 16) (Local 2) (Int 32))
      ∷ [])
      (Return (Some (typed (Int 32) (Local 3))))
      ∷ [])
      ∷ [];
  variables = (named_by (codes "table"), numbers 2 2 false (3 ∷ 1 ∷ 4 ∷ 1 ∷ 65531 ∷ [])) ∷ [];
}

abbrev pub fields_of_a_structure : Source
fields_of_a_structure = record {
  functions =
      defines (named_by (codes "f")) [] (Some (Int 32))
      (block 0 []
      (sets 1 (Alloca (structure false (part (int 8) (part (int 32) (part (int 16) no_parts)))) 4)
      ∷ sets 2 (Address true (structure false (part (int 8) (part (int 32) (part (int 16) no_parts)))) (Local 1) (typed (Int 64) (Constant 64 0) ∷ typed (Int 32) (Constant 32 0) ∷ []))
      ∷ sets 3 (Address true (structure false (part (int 8) (part (int 32) (part (int 16) no_parts)))) (Local 1) (typed (Int 64) (Constant 64 0) ∷ typed (Int 32) (Constant 32 1) ∷ []))
      ∷ sets 4 (Address true (structure false (part (int 8) (part (int 32) (part (int 16) no_parts)))) (Local 1) (typed (Int 64) (Constant 64 0) ∷ typed (Int 32) (Constant 32 2) ∷ []))
      ∷ does (Store (Int 8) (Constant 8 255) (Local 2) 1)
      ∷ does (Store (Int 32) (Constant 32 70000) (Local 3) 4)
      ∷ does (Store (Int 16) (Constant 16 65534) (Local 4) 2)
      ∷ sets 5 (Load (Int 8) (Local 2) 1)
      ∷ sets 6 (Load (Int 32) (Local 3) 4)
      ∷ sets 7 (Load (Int 16) (Local 4) 2)
      ∷ sets 8 (Cast Sext (Int 8) (Local 5) (Int 32))
      ∷ sets 9 (Cast Zext (Int 16) (Local 7) (Int 32))
      ∷ sets 10 (Binary Add no_flags 32 (Local 8) (Local 6))
      ∷ sets 11 (Binary Add no_flags 32 (Local 10) (Local 9))
      ∷ [])
      (Return (Some (typed (Int 32) (Local 11))))
      ∷ [])
      ∷ [];
  variables = [];
}

abbrev pub global_counter : Source
global_counter = record {
  functions =
      defines (named_by (codes "step")) [] None
      (block 0 []
      (sets 1 (Load (Int 32) (Named (named_by (codes "count")) 0) 4)
      ∷ sets 2 (Binary Add no_flags 32 (Local 1) (Constant 32 1))
      ∷ does (Store (Int 32) (Local 2) (Named (named_by (codes "count")) 0) 4)
      ∷ [])
      (Return None)
      ∷ [])
      ∷ defines (named_by (codes "f")) [] (Some (Int 32))
      (block 0 []
      (does (Call None (Named (named_by (codes "step")) 0) [])
      ∷ does (Call None (Named (named_by (codes "step")) 0) [])
      ∷ sets 1 (Load (Int 32) (Named (named_by (codes "count")) 0) 4)
      ∷ [])
      (Return (Some (typed (Int 32) (Local 1))))
      ∷ [])
      ∷ [];
  variables = (named_by (codes "count"), numbers 4 4 true (40 ∷ [])) ∷ [];
}

abbrev pub linked_list : Source
linked_list = record {
  functions =
      defines (named_by (codes "f")) [] (Some (Int 32))
      (block 0 []
      (sets 1 (Alloca (structure false (part (int 32) (part pointer no_parts))) 8)
      ∷ sets 2 (Alloca (structure false (part (int 32) (part pointer no_parts))) 8)
      ∷ sets 3 (Address true (structure false (part (int 32) (part pointer no_parts))) (Local 1) (typed (Int 64) (Constant 64 0) ∷ typed (Int 32) (Constant 32 1) ∷ []))
      ∷ sets 4 (Address true (structure false (part (int 32) (part pointer no_parts))) (Local 2) (typed (Int 64) (Constant 64 0) ∷ typed (Int 32) (Constant 32 1) ∷ []))
      ∷ does (Store (Int 32) (Constant 32 20) (Local 1) 8)
      ∷ does (Store (Int 32) (Constant 32 22) (Local 2) 8)
      ∷ does (Store Ptr (Local 2) (Local 3) 8)
      ∷ does (Store Ptr Null (Local 4) 8)
      ∷ [])
      (Jump 5)
      ∷ block 5 (takes 6 Ptr (edge 0 (Local 1) ∷ edge 9 (Local 13) ∷ [])
      ∷ takes 7 (Int 32) (edge 0 (Constant 32 0) ∷ edge 9 (Local 11) ∷ [])
      ∷ [])
      (sets 8 (Icmp Eq Ptr (Local 6) Null)
      ∷ [])
      (Branch (Local 8) 14 9)
      ∷ block 9 []
      (sets 10 (Load (Int 32) (Local 6) 8)
      ∷ sets 11 (Binary Add no_flags 32 (Local 7) (Local 10))
      ∷ sets 12 (Address true (structure false (part (int 32) (part pointer no_parts))) (Local 6) (typed (Int 64) (Constant 64 0) ∷ typed (Int 32) (Constant 32 1) ∷ []))
      ∷ sets 13 (Load Ptr (Local 12) 8)
      ∷ [])
      (Jump 5)
      ∷ block 14 []
      []
      (Return (Some (typed (Int 32) (Local 7))))
      ∷ [])
      ∷ [];
  variables = [];
}

abbrev pub little_endian : Source
little_endian = record {
  functions =
      defines (named_by (codes "f")) [] (Some (Int 32))
      (block 0 []
      (sets 1 (Alloca (int 64) 8)
      ∷ does (Store (Int 64) (Constant 64 72623859790382856) (Local 1) 8)
      ∷ sets 2 (Address true (int 8) (Local 1) (typed (Int 64) (Constant 64 2) ∷ []))
      ∷ sets 3 (Load (Int 16) (Local 2) 2)
      ∷ sets 4 (Cast Zext (Int 16) (Local 3) (Int 32))
      ∷ [])
      (Return (Some (typed (Int 32) (Local 4))))
      ∷ [])
      ∷ [];
  variables = [];
}

abbrev pub number_in_part_overwritten : Source
number_in_part_overwritten = record {
  functions =
      defines (named_by (codes "f")) [] (Some (Int 64))
      (block 0 []
      (sets 1 (Alloca (int 64) 8)
      ∷ does (Store (Int 64) (Constant 64 18446744073709551615) (Local 1) 8)
      ∷ sets 2 (Address true (int 8) (Local 1) (typed (Int 64) (Constant 64 4) ∷ []))
      ∷ does (Store (Int 16) (Constant 16 513) (Local 2) 2)
      ∷ sets 3 (Load (Int 64) (Local 1) 8)
      ∷ [])
      (Return (Some (typed (Int 64) (Local 3))))
      ∷ [])
      ∷ [];
  variables = [];
}

abbrev pub packed_structure : Source
packed_structure = record {
  functions =
      defines (named_by (codes "f")) [] (Some (Int 32))
      (block 0 []
      (sets 1 (Alloca (structure true (part (int 8) (part (int 32) no_parts))) 1)
      ∷ sets 2 (Address true (structure true (part (int 8) (part (int 32) no_parts))) (Local 1) (typed (Int 64) (Constant 64 0) ∷ typed (Int 32) (Constant 32 1) ∷ []))
      ∷ does (Store (Int 32) (Constant 32 305419896) (Local 2) 1)
      ∷ sets 3 (Address true (int 8) (Local 1) (typed (Int 64) (Constant 64 3) ∷ []))
      ∷ sets 4 (Load (Int 8) (Local 3) 1)
      ∷ sets 5 (Cast Zext (Int 8) (Local 4) (Int 32))
      ∷ [])
      (Return (Some (typed (Int 32) (Local 5))))
      ∷ [])
      ∷ [];
  variables = [];
}

abbrev pub pairs_in_an_array : Source
pairs_in_an_array = record {
  functions =
      defines (named_by (codes "f")) [] (Some (Int 32))
      (block 0 []
      (sets 1 (Alloca (array 3 (structure false (part (int 16) (part (int 32) no_parts)))) 4)
      ∷ sets 2 (Address true (array 3 (structure false (part (int 16) (part (int 32) no_parts)))) (Local 1) (typed (Int 64) (Constant 64 0) ∷ typed (Int 64) (Constant 64 2) ∷ typed (Int 32) (Constant 32 1) ∷ []))
      ∷ does (Store (Int 32) (Constant 32 55) (Local 2) 4)
      ∷ sets 3 (Address true (array 3 (structure false (part (int 16) (part (int 32) no_parts)))) (Local 1) (typed (Int 64) (Constant 64 1) ∷ []))
      ∷ sets 4 (Address true (int 32) (Local 3) (typed (Int 64) (Constant 64 18446744073709551615) ∷ []))
      ∷ sets 5 (Load (Int 32) (Local 4) 4)
      ∷ [])
      (Return (Some (typed (Int 32) (Local 5))))
      ∷ [])
      ∷ [];
  variables = [];
}

abbrev pub pointer_in_memory : Source
pointer_in_memory = record {
  functions =
      defines (named_by (codes "f")) [] (Some (Int 32))
      (block 0 []
      (sets 1 (Alloca (int 32) 4)
      ∷ sets 2 (Alloca pointer 8)
      ∷ does (Store (Int 32) (Constant 32 77) (Local 1) 4)
      ∷ does (Store Ptr (Local 1) (Local 2) 8)
      ∷ sets 3 (Load Ptr (Local 2) 8)
      ∷ sets 4 (Icmp Eq Ptr (Local 3) (Local 1))
      ∷ sets 5 (Load (Int 32) (Local 3) 4)
      ∷ sets 6 (Select (Local 4) (typed (Int 32) (Local 5)) (typed (Int 32) (Constant 32 0)))
      ∷ [])
      (Return (Some (typed (Int 32) (Local 6))))
      ∷ [])
      ∷ [];
  variables = [];
}

abbrev pub slots_swapped : Source
slots_swapped = record {
  functions =
      defines (named_by (codes "f")) [] (Some (Int 32))
      (block 0 []
      (sets 1 (Alloca (int 32) 4)
      ∷ sets 2 (Alloca (int 32) 4)
      ∷ does (Store (Int 32) (Constant 32 12) (Local 1) 4)
      ∷ does (Store (Int 32) (Constant 32 34) (Local 2) 4)
      ∷ sets 3 (Load (Int 32) (Local 1) 4)
      ∷ sets 4 (Load (Int 32) (Local 2) 4)
      ∷ does (Store (Int 32) (Local 4) (Local 1) 4)
      ∷ does (Store (Int 32) (Local 3) (Local 2) 4)
      ∷ sets 5 (Load (Int 32) (Local 1) 4)
      ∷ sets 6 (Load (Int 32) (Local 2) 4)
      ∷ sets 7 (Binary Mul no_flags 32 (Local 5) (Constant 32 100))
      ∷ sets 8 (Binary Add no_flags 32 (Local 7) (Local 6))
      ∷ [])
      (Return (Some (typed (Int 32) (Local 8))))
      ∷ [])
      ∷ [];
  variables = [];
}

abbrev pub until_the_end_pointer : Source
until_the_end_pointer = record {
  functions =
      defines (named_by (codes "f")) [] (Some (Int 32))
      (block 0 []
      (sets 1 (Address true (array 4 (int 8)) (Named (named_by (codes "bytes")) 0) (typed (Int 64) (Constant 64 1) ∷ []))
      ∷ [])
      (Jump 2)
      ∷ block 2 (takes 3 Ptr (edge 0 (Named (named_by (codes "bytes")) 0) ∷ edge 2 (Local 8) ∷ [])
      ∷ takes 4 (Int 32) (edge 0 (Constant 32 0) ∷ edge 2 (Local 7) ∷ [])
      ∷ [])
      (sets 5 (Load (Int 8) (Local 3) 1)
      ∷ sets 6 (Cast Zext (Int 8) (Local 5) (Int 32))
      ∷ sets 7 (Binary Add no_flags 32 (Local 4) (Local 6))
      ∷ sets 8 (Address true (int 8) (Local 3) (typed (Int 64) (Constant 64 1) ∷ []))
      ∷ sets 9 (Icmp Ult Ptr (Local 8) (Local 1))
      ∷ [])
      (Branch (Local 9) 2 10)
      ∷ block 10 []
      []
      (Return (Some (typed (Int 32) (Local 7))))
      ∷ [])
      ∷ [];
  variables = (named_by (codes "bytes"), numbers 1 1 false (9 ∷ 8 ∷ 7 ∷ 6 ∷ [])) ∷ [];
}
