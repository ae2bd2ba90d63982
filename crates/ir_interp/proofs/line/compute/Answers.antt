use Rattle.std.proofs.Common.{Some}
use Rattle.ir_machine.specs.Meant.{meant}
use Rattle.ir_interp.proofs.Reading.{same_locals}
use Rattle.ir_interp.proofs.line.compute.Goals as goal

pub returns-in-Value-clause-ok : goal.returns-in-Value-clause-ok
returns-in-Value-clause-ok c = λ names meaning locals distinct s a k.
    let a' = same_locals names c.args.memory.now meaning c.args.registers.now c.reserve_result.new.self locals c.reserve_result.ensures.same a in
    let p = c.in-Value.ensures names meaning locals distinct s a' k in
    record {
      value = Some (meant names c.in-Value.value);
      after = meaning;
      effect = p.0;
      stand = record {
        holds = s;
        reads = c.bind.ensures names c.args.memory.now meaning locals a' p.1;
        keeps = λ h x. x;
      };
    }

pub returns-in-Undefined-clause-ok : goal.returns-in-Undefined-clause-ok
returns-in-Undefined-clause-ok c = λ names meaning locals distinct s a k.
    let a' = same_locals names c.args.memory.now meaning c.args.registers.now c.reserve_result.new.self locals c.reserve_result.ensures.same a in
    let p = c.in-Undefined.ensures names meaning locals distinct s a' k in
    (p.0, record { holds = s; reads = a'; keeps = λ h x. x })

pub returns-in-Uninit-clause-ok : goal.returns-in-Uninit-clause-ok
returns-in-Uninit-clause-ok c = λ names meaning locals distinct s a k.
    let a' = same_locals names c.args.memory.now meaning c.args.registers.now c.reserve_result.new.self locals c.reserve_result.ensures.same a in
    let p = c.in-Uninit.ensures names meaning locals distinct s a' k in
    (p.0, record { holds = s; reads = a'; keeps = λ h x. x })
