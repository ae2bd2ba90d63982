use Rattle.std.proofs.Common.{subst, sym}
use Rattle.ir_interp.specs.Ran.{IsRan}
use Rattle.ir_interp.specs.Tasks.{IsTaskKnown, task_meant, CanRun}
use Rattle.ir_interp.specs.declared.task.Task.{Task}
use Rattle.ir_interp.specs.Lines.{IsCall}
use Rattle.ir_interp.proofs.LineActs.{ran_no_call}
use Rattle.ir_interp.proofs.line.run_line.Goals as goal

pub returns-in_ok-ran-in-Reserve-clause-ok : goal.returns-in_ok-ran-in-Reserve-clause-ok
returns-in_ok-ran-in-Reserve-clause-ok c = λ names meaning locals distinct s a k.
    subst (λ (t : Task). IsRan names c.args.memory.now meaning locals c.args.line.now.local c.args.choice (task_meant names locals t) c.reserve_block.new.memory c.reserve_block.new.registers c.in_ok-ran-in-Reserve.ran) (sym c.in-Reserve.is)
    (c.in_ok-ran-in-Reserve.ensures.ok names meaning locals c.args.choice s a)

pub returns-in_ok-ran-in-Store-clause-ok : goal.returns-in_ok-ran-in-Store-clause-ok
returns-in_ok-ran-in-Store-clause-ok c = λ names meaning locals distinct s a k.
    let known = subst (λ (t : Task). IsTaskKnown names c.args.memory.now meaning t) c.in-Store.is k in
    subst (λ (t : Task). IsRan names c.args.memory.now meaning locals c.args.line.now.local c.args.choice (task_meant names locals t) c.store.new.memory c.args.registers.now c.in_ok-ran-in-Store.ran) (sym c.in-Store.is)
    (c.in_ok-ran-in-Store.ensures.ok names meaning locals c.args.line.now.local c.args.choice s a known.0 known.1)

pub returns-in_ok-ran-in-Compute-clause-ok : goal.returns-in_ok-ran-in-Compute-clause-ok
returns-in_ok-ran-in-Compute-clause-ok c = λ names meaning locals distinct s a k.
    subst (λ (t : Task). IsRan names c.args.memory.now meaning locals c.args.line.now.local c.args.choice (task_meant names locals t) c.args.memory.now c.compute.new.registers c.in_ok-ran-in-Compute.ran) (sym c.in-Compute.is)
    (c.in_ok-ran-in-Compute.ensures.ok names meaning locals distinct s a (subst (λ (t : Task). IsTaskKnown names c.args.memory.now meaning t) c.in-Compute.is k))

pub returns-in-Call-clause-ok : goal.returns-in-Call-clause-ok
returns-in-Call-clause-ok c = λ names meaning locals distinct s a k.
    (subst IsCall (sym c.in-Call.is) tt, record { holds = s; reads = a; keeps = λ h x. x })

pub returns-in_ok-ran-in-Store-clause-called : goal.returns-in_ok-ran-in-Store-clause-called
returns-in_ok-ran-in-Store-clause-called c = λ e. absurd (ran_no_call c.in_ok-ran-in-Store.ran e)

pub returns-in_ok-ran-in-Compute-clause-called : goal.returns-in_ok-ran-in-Compute-clause-called
returns-in_ok-ran-in-Compute-clause-called c = λ e. absurd (ran_no_call c.in_ok-ran-in-Compute.ran e)

pub returns-in_ok-ran-in-Reserve-clause-called : goal.returns-in_ok-ran-in-Reserve-clause-called
returns-in_ok-ran-in-Reserve-clause-called c = λ e. absurd (ran_no_call c.in_ok-ran-in-Reserve.ran e)

pub store-requires-clause-width : goal.store-requires-clause-width
store-requires-clause-width c = (subst CanRun c.in-Store.is c.requires).0

pub store-requires-clause-aligned : goal.store-requires-clause-aligned
store-requires-clause-aligned c = (subst CanRun c.in-Store.is c.requires).1

pub compute-requires : goal.compute-requires
compute-requires c = subst CanRun c.in-Compute.is c.requires

pub returns-in_ok-ran-in-Store-clause-numbers : goal.returns-in_ok-ran-in-Store-clause-numbers
returns-in_ok-ran-in-Store-clause-numbers c = λ names meaning s. c.in_ok-ran-in-Store.ensures.numbers

pub returns-in_ok-ran-in-Reserve-clause-numbers : goal.returns-in_ok-ran-in-Reserve-clause-numbers
returns-in_ok-ran-in-Reserve-clause-numbers c = λ names meaning s. c.in_ok-ran-in-Reserve.ensures.numbers names meaning s

pub returns-in_ok-ran-in-Compute-clause-numbers : goal.returns-in_ok-ran-in-Compute-clause-numbers
returns-in_ok-ran-in-Compute-clause-numbers c = λ names meaning s. c.in_ok-ran-in-Compute.ensures.numbers
