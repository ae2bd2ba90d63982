use Rattle.std.proofs.Common.{refl}
use Rattle.lto_bits.specs.Operation.{arithmetic}
use Rattle.lto_bits.specs.Comparison.{compared}
use Rattle.ir_meaning.specs.Address.{new_offset}
use Rattle.ir_meaning.specs.Examples.{Arithmetic, Comparisons, Conversions, Addresses, PointerComparisons, Loads}
use Rattle.ir_meaning.proofs.examples.example_operations.Goals as goal

of_arithmetic : Arithmetic
unfolding arithmetic compared new_offset
of_arithmetic = record {
  add_wraps = refl;
  add_nuw = refl;
  add_nsw = refl;
  add_nsw_unsigned = refl;
  sub_wraps = refl;
  sub_nuw = refl;
  mul_wraps = refl;
  mul_nsw = refl;
  shl_two = refl;
  shl_ten = refl;
  shl_by_width = refl;
  shl_nsw = refl;
  lshr_one = refl;
  lshr_two = refl;
  lshr_three = refl;
  lshr_negative = refl;
  lshr_exact = refl;
  ashr_one = refl;
  ashr_negative = refl;
  and_parts = refl;
  and_apart = refl;
  or_parts = refl;
  or_apart = refl;
  xor_parts = refl;
  xor_apart = refl;
  xor_negated = refl;
  udiv_exact = refl;
  sdiv_towards_zero = refl;
  srem_of_negative = refl;
  urem = refl;
  by_zero = refl;
  least_by_minus_one = refl;
  least_rest = refl;
  poison_by_minus_one = refl;
  poison_by_zero = refl;
  by_poison = refl;
  poison_dividend = refl;
  past_the_width = refl;
  add_both_flags = refl;
  add_nsw_greatest = refl;
  sub_negates = refl;
  sub_nsw = refl;
  mul_nuw = refl;
  mul_wraps_at_64 = refl;
  shl_nuw = refl;
  shl_nsw_of_negative = refl;
  lshr_by_width = refl;
  ashr_by_width = refl;
  ashr_exact = refl;
  sdiv_exact = refl;
  sdiv_of_one_bit = refl;
  udiv_by_greatest = refl;
}

of_comparisons : Comparisons
unfolding arithmetic compared new_offset
of_comparisons = record {
  eq = refl;
  ult = refl;
  sgt = refl;
  ule_negative = refl;
  sle_negative = refl;
  sge = refl;
  select_true = refl;
  select_poison = refl;
  select_one_arm = refl;
  freeze_number = refl;
  freeze_poison = refl;
  ne = refl;
  ugt_negative = refl;
  uge = refl;
  slt_least = refl;
  sgt_one_bit = refl;
  of_poison = refl;
  of_another_width = refl;
  select_false = refl;
}

of_conversions : Conversions
unfolding arithmetic compared new_offset
of_conversions = record {
  trunc_byte = refl;
  trunc_odd = refl;
  trunc_even = refl;
  zext_word = refl;
  zext_true = refl;
  sext_byte = refl;
  sext_true = refl;
  of_a_pointer = refl;
  sext_positive = refl;
  trunc_high_bits = refl;
  of_poison = refl;
}

of_addresses : Addresses
unfolding arithmetic compared new_offset
of_addresses = record {
  element = refl;
  along_an_array = refl;
  into_an_array = refl;
  wraps_without_inbounds = refl;
  leaves_the_object = refl;
  one_past_the_end = refl;
  zero_stays = refl;
  of_poison = refl;
  backwards = refl;
  field_behind_padding = refl;
  packed_field = refl;
  before_the_object = refl;
}

of_pointer_comparisons : PointerComparisons
unfolding arithmetic compared new_offset
of_pointer_comparisons = record {
  one_block = λ choice. refl;
  one_dead_block = λ choice. refl;
  two_live_blocks = λ choice. refl;
  end_of_a_block = λ choice. refl;
  a_dead_block = λ choice. refl;
  null_and_a_block = λ choice. refl;
  order_in_a_block = λ choice. refl;
  order_of_two = λ choice. refl;
}

of_loads : Loads
unfolding arithmetic compared new_offset
of_loads = record {
  little_endian = refl;
  unset_before_poison = refl;
  poison_byte = refl;
  null_is_zero = refl;
  zero_is_null = refl;
  pointer_again = refl;
  pointer_as_number = refl;
  number_as_pointer = refl;
  fragments_apart = refl;
  byte_of_a_pointer = refl;
  poison_again = refl;
}

pub returns : goal.returns
returns c = record {
  arithmetic = of_arithmetic;
  comparisons = of_comparisons;
  conversions = of_conversions;
  addresses = of_addresses;
  pointer_comparisons = of_pointer_comparisons;
  loads = of_loads;
}
