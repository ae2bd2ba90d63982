use Rattle.std.proofs.Common.{◌≡◌, ◌+◌, arith}
use Rattle.ir_tree.specs.declared.function.Function.{Function}
use Rattle.back_end.specs.Walk.{Takes}
use Rattle.back_end.specs.Walking.{TakesNone, TakesNow, bodies_in}
use Rattle.back_end.proofs.Ahead.{matched, none_now}
use Rattle.back_end.proofs.calls.call_now.Goals as goal

pub returns-clause-takes : goal.returns-clause-takes
returns-clause-takes c =
    let room : c.args.count + c.in_ok-room.room ≡ 20000 = omega (arith, c.in_ok-room.ensures) in
    matched c.taken.result ((d : Function) → Takes (bodies_in c.args.bodies.now) c.args.symbol.now c.in_ok-room.room c.args.instr.now d → ⊥) (TakesNone (bodies_in c.args.bodies.now) c.args.symbol.now c.args.count c.args.instr.now)
    (λ d. Takes (bodies_in c.args.bodies.now) c.args.symbol.now c.in_ok-room.room c.args.instr.now d.callee.now) (λ d. TakesNow (bodies_in c.args.bodies.now) c.args.symbol.now c.args.count c.args.instr.now d.callee.now)
    (none_now (bodies_in c.args.bodies.now) c.args.symbol.now c.args.count c.in_ok-room.room c.args.instr.now room) (λ d t. record { room = c.in_ok-room.room; has_room = room; takes = t }) c.taken.ensures.takes
