-- What native builds of the texts under checks/native read, wrote and returned, and the definitions compute too:
-- `checks/native_runs` builds them and compares. Each line is a text: its input, its output and its answer.
use Rattle.std.specs.Prelude.{[], codes}
use Rattle.ir_meaning.specs.Native.{Returns}
use Rattle.ir_meaning.specs.NativeBranches as branches
use Rattle.ir_meaning.specs.NativeCalls as calls
use Rattle.ir_meaning.specs.NativeIntegers as integers
use Rattle.ir_meaning.specs.NativeMemory as memory

pub record BranchRuns : Type 0 where
  pub bits_counted : Returns branches.bits_counted [] [] 5
  pub fibonacci_numbers : Returns branches.fibonacci_numbers [] [] 144
  pub greatest_common_divisor : Returns branches.greatest_common_divisor [] [] 21
  pub loops_in_a_loop : Returns branches.loops_in_a_loop [] [] 36
  pub power_modulo : Returns branches.power_modulo [] [] 407
  pub states : Returns branches.states [] [] 279
  pub steps_to_one : Returns branches.steps_to_one [] [] 8
  pub sum_to_ten : Returns branches.sum_to_ten [] [] 55

pub record CallRuns : Type 0 where
  pub answers_through_a_pointer : Returns calls.answers_through_a_pointer [] [] 1426
  pub even_and_odd : Returns calls.even_and_odd [] [] 2
  pub factorial : Returns calls.factorial [] [] 720
  pub fibonacci_by_recursion : Returns calls.fibonacci_by_recursion [] [] 5
  pub greeting : Returns calls.greeting [] (codes "Hi") 177
  pub input_in_capitals : Returns calls.input_in_capitals (codes "aZ!m") (codes "AZ!M") 4
  pub low_byte_written : Returns calls.low_byte_written [] (codes "A") 65
  pub number_written : Returns calls.number_written [] (codes "1729") 0
  pub slots_of_each_call : Returns calls.slots_of_each_call [] [] 1234
  pub through_a_pointer : Returns calls.through_a_pointer [] [] 162
  pub towers : Returns calls.towers [] [] 15

pub record IntegerRuns : Type 0 where
  pub bitwise : Returns integers.bitwise [] [] 4210752234
  pub casts : Returns integers.casts [] [] 18446744073709551361
  pub clamped : Returns integers.clamped [] [] 65280
  pub difference_below_zero : Returns integers.difference_below_zero [] [] 4294967294
  pub exact_shifts_and_divisions : Returns integers.exact_shifts_and_divisions [] [] 160
  pub flags_that_are_met : Returns integers.flags_that_are_met [] [] 17994
  pub frozen_number : Returns integers.frozen_number [] [] 42
  pub least_number_divided : Returns integers.least_number_divided [] [] 4294839295
  pub left_shift_drops_bits : Returns integers.left_shift_drops_bits [] [] 3443500448
  pub one_bit : Returns integers.one_bit [] [] 0
  pub product_at_33_bits : Returns integers.product_at_33_bits [] [] 640261632
  pub product_at_64_bits : Returns integers.product_at_64_bits [] [] 8963592765199298360
  pub right_shifts_of_a_negative : Returns integers.right_shifts_of_a_negative [] [] 16140901064495857664
  pub rotated : Returns integers.rotated [] [] 2328822342
  pub seven_bits : Returns integers.seven_bits [] [] 48
  pub signed_comparisons : Returns integers.signed_comparisons [] [] 11
  pub signed_division : Returns integers.signed_division [] [] 4294964167
  pub sum_wraps_at_8_bits : Returns integers.sum_wraps_at_8_bits [] [] 44
  pub unsigned_comparisons : Returns integers.unsigned_comparisons [] [] 6
  pub unsigned_division : Returns integers.unsigned_division [] [] 1844674412370955196

pub record MemoryRuns : Type 0 where
  pub array_of_squares : Returns memory.array_of_squares [] [] 14
  pub constant_table : Returns memory.constant_table [] [] 4294967291
  pub fields_of_a_structure : Returns memory.fields_of_a_structure [] [] 135533
  pub global_counter : Returns memory.global_counter [] [] 42
  pub linked_list : Returns memory.linked_list [] [] 42
  pub little_endian : Returns memory.little_endian [] [] 1286
  pub number_in_part_overwritten : Returns memory.number_in_part_overwritten [] [] 18446464806346031103
  pub packed_structure : Returns memory.packed_structure [] [] 52
  pub pairs_in_an_array : Returns memory.pairs_in_an_array [] [] 55
  pub pointer_in_memory : Returns memory.pointer_in_memory [] [] 77
  pub slots_swapped : Returns memory.slots_swapped [] [] 3412
  pub until_the_end_pointer : Returns memory.until_the_end_pointer [] [] 30

pub record NativeRuns : Type 0 where
  pub branches : BranchRuns
  pub calls : CallRuns
  pub integers : IntegerRuns
  pub memory : MemoryRuns
