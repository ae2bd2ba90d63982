use Rattle.ir_verify.specs.Definitions.{param_pairs}
use Rattle.ir_verify.proofs.Extending.{Along}
use Rattle.ir_verify.proofs.definitions.put_params.Given as goal

abbrev pub invariant-loop-param : goal.invariant-loop-param
invariant-loop-param l = Along (λ k ps. param_pairs ps) l.params l.param-index l.initial.table.entries.items l.table.entries.items
