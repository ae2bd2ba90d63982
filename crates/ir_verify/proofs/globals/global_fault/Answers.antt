use Rattle.std.proofs.Common.{subst, sym}
use Rattle.ir_tree.specs.declared.module.GlobalValue.{GlobalValue}
use Rattle.ir_verify.specs.Modules.{GlobalPast}
use Rattle.ir_verify.proofs.globals.global_fault.Goals as goal

pub returns-in_ok-fault-in-Variable-clause-fault :
    goal.returns-in_ok-fault-in-Variable-clause-fault
returns-in_ok-fault-in-Variable-clause-fault c =
    subst (λ (g : GlobalValue). GlobalPast g c.args.lines.now c.args.number c.args.found c.in_ok-fault-in-Variable.fault) (sym c.in-Variable.is) (c.in_ok-fault-in-Variable.ensures c.args.number)
