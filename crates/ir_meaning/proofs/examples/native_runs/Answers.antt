use Rattle.std.proofs.Common.{refl}
use Rattle.lto_bits.specs.Operation.{arithmetic}
use Rattle.lto_bits.specs.Comparison.{compared}
use Rattle.ir_meaning.specs.Address.{new_offset}
use Rattle.ir_meaning.specs.Act.{act, enter, resume}
use Rattle.ir_meaning.specs.NativeRuns.{IntegerRuns, BranchRuns, MemoryRuns, CallRuns}
use Rattle.ir_meaning.proofs.examples.native_runs.Goals as goal

of_branches : BranchRuns
unfolding act enter resume arithmetic compared new_offset
of_branches = record {
  bits_counted = record { output = refl; answer = refl };
  fibonacci_numbers = record { output = refl; answer = refl };
  greatest_common_divisor = record { output = refl; answer = refl };
  loops_in_a_loop = record { output = refl; answer = refl };
  power_modulo = record { output = refl; answer = refl };
  states = record { output = refl; answer = refl };
  steps_to_one = record { output = refl; answer = refl };
  sum_to_ten = record { output = refl; answer = refl };
}

of_calls : CallRuns
unfolding act enter resume arithmetic compared new_offset
of_calls = record {
  answers_through_a_pointer = record { output = refl; answer = refl };
  even_and_odd = record { output = refl; answer = refl };
  factorial = record { output = refl; answer = refl };
  fibonacci_by_recursion = record { output = refl; answer = refl };
  greeting = record { output = refl; answer = refl };
  input_in_capitals = record { output = refl; answer = refl };
  low_byte_written = record { output = refl; answer = refl };
  number_written = record { output = refl; answer = refl };
  slots_of_each_call = record { output = refl; answer = refl };
  through_a_pointer = record { output = refl; answer = refl };
  towers = record { output = refl; answer = refl };
}

of_integers : IntegerRuns
unfolding act enter resume arithmetic compared new_offset
of_integers = record {
  bitwise = record { output = refl; answer = refl };
  casts = record { output = refl; answer = refl };
  clamped = record { output = refl; answer = refl };
  difference_below_zero = record { output = refl; answer = refl };
  exact_shifts_and_divisions = record { output = refl; answer = refl };
  flags_that_are_met = record { output = refl; answer = refl };
  frozen_number = record { output = refl; answer = refl };
  least_number_divided = record { output = refl; answer = refl };
  left_shift_drops_bits = record { output = refl; answer = refl };
  one_bit = record { output = refl; answer = refl };
  product_at_33_bits = record { output = refl; answer = refl };
  product_at_64_bits = record { output = refl; answer = refl };
  right_shifts_of_a_negative = record { output = refl; answer = refl };
  rotated = record { output = refl; answer = refl };
  seven_bits = record { output = refl; answer = refl };
  signed_comparisons = record { output = refl; answer = refl };
  signed_division = record { output = refl; answer = refl };
  sum_wraps_at_8_bits = record { output = refl; answer = refl };
  unsigned_comparisons = record { output = refl; answer = refl };
  unsigned_division = record { output = refl; answer = refl };
}

of_memory : MemoryRuns
unfolding act enter resume arithmetic compared new_offset
of_memory = record {
  array_of_squares = record { output = refl; answer = refl };
  constant_table = record { output = refl; answer = refl };
  fields_of_a_structure = record { output = refl; answer = refl };
  global_counter = record { output = refl; answer = refl };
  linked_list = record { output = refl; answer = refl };
  little_endian = record { output = refl; answer = refl };
  number_in_part_overwritten = record { output = refl; answer = refl };
  packed_structure = record { output = refl; answer = refl };
  pairs_in_an_array = record { output = refl; answer = refl };
  pointer_in_memory = record { output = refl; answer = refl };
  slots_swapped = record { output = refl; answer = refl };
  until_the_end_pointer = record { output = refl; answer = refl };
}

pub returns : goal.returns
returns c = record {
  branches = of_branches;
  calls = of_calls;
  integers = of_integers;
  memory = of_memory;
}
