use Rattle.std.proofs.Common.{refl}
use Rattle.lto_bits.specs.Operation.{arithmetic}
use Rattle.lto_bits.specs.Comparison.{compared}
use Rattle.ir_meaning.specs.Act.{act, enter, resume}
use Rattle.ir_meaning.specs.ExampleRuns.{ExampleRuns}
use Rattle.ir_meaning.proofs.examples.example_runs.Goals as goal

run_so : ExampleRuns
unfolding act enter resume arithmetic compared
run_so = record {
  call_slot_and_output = refl;
  three_steps_of_it = refl;
  loop_over_input = refl;
  phis_at_once = refl;
  place_behind_a_phi = refl;
  for_ever = refl;
  dead_slot = refl;
  stored_poison = refl;
  of_a_constant = refl;
  unset_local = refl;
  missing_symbol = refl;
  stray_phi = refl;
  putchar_answers_the_byte = refl;
  unset_slot = refl;
  division_overflow = refl;
  poison_divisor = refl;
  branch_on_poison = refl;
  switch_on_poison = refl;
  unreachable_reached = refl;
  call_of_no_function = refl;
  call_of_a_variable = refl;
  call_past_a_function = refl;
  call_of_another_type = refl;
  poison_argument = refl;
  load_of_null = refl;
  store_to_a_function = refl;
  store_to_constant = refl;
  load_past_the_end = refl;
  store_past_the_end = refl;
  misaligned_load = refl;
  block_of_less_alignment = refl;
}

pub returns : goal.returns
returns c = run_so
