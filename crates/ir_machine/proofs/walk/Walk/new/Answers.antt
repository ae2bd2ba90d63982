use Rattle.std.proofs.Common.{◌^◌, ◌<◌, rules}
use Rattle.ir_machine.proofs.Walks.{begins}
use Rattle.ir_machine.proofs.walk.Walk.new.Goals as goal

pub returns-clause-ends : goal.returns-clause-ends
returns-clause-ends c =
    let low : c.args.offset < 2 ^ 64 = search rules in
    λ inbounds is. begins inbounds c.args.shape.now c.args.size c.args.offset is low
