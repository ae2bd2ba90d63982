use Rattle.ir_verify.specs.Definitions.{phi_pairs}
use Rattle.ir_verify.proofs.Extending.{Along}
use Rattle.ir_verify.proofs.definitions.put_phis.Given as goal

abbrev pub invariant-loop-phi : goal.invariant-loop-phi
invariant-loop-phi l = Along (λ k ps. phi_pairs l.block ps) l.phis l.phi-index l.initial.table.entries.items l.table.entries.items
