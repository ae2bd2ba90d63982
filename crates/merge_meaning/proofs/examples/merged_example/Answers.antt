use Rattle.std.proofs.Common.{refl}
use Rattle.ir_meaning.specs.Act.{act, enter, resume}
use Rattle.lto_bits.specs.Operation.{arithmetic}
use Rattle.merge_meaning.specs.Examples.{MergedExample}
use Rattle.merge_meaning.proofs.examples.merged_example.Goals as goal

run_so : MergedExample
unfolding act enter resume arithmetic
run_so = record { merged_runs = refl; linked_runs = refl; turned_round = refl }

pub returns : goal.returns
returns c = run_so
