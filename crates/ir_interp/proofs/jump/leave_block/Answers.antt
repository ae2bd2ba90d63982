use Rattle.std.proofs.Common.{◌≡◌, Bool, length, sym, subst, ◌∙◌, arith}
use Rattle.ir_interp.specs.Scenes.{HasJumped}
use Rattle.ir_interp.proofs.Exiting.{exit_goes, exit_nowhere, exit_returns, exit_stops, exit_target}
use Rattle.ir_interp.proofs.Leaving.{own_block, slot_count}
use Rattle.ir_interp.proofs.jump.leave_block.Goals as goal

pub returns-in-Undefined-clause-ok : goal.returns-in-Undefined-clause-ok
returns-in-Undefined-clause-ok c = λ z choice given s here none.
    exit_stops z c.args.code.now c.args.memory.now c.args.frame.now c.args.block.now c.leave.result c.in-Undefined.cause choice given s here none c.in-Undefined.is
    (λ known. c.leave.ensures z.names c.args.memory.now z.memory z.frame.locals s.frame.reads known)

pub returns-in-Returned-clause-ok : goal.returns-in-Returned-clause-ok
returns-in-Returned-clause-ok c = λ z choice given s here none.
    let count : length z.frame.slots ≡ c.saturating_sub.result = omega (arith, slot_count z c.args.code.now c.args.memory.now c.args.frame.now s, c.saturating_sub.ensures, c.len-live.ensures, c.args.memory.now.blocks.ok) in
    exit_returns z c.args.code.now c.args.memory.now c.end_slots.new.memory c.args.frame.now c.args.frame.now c.args.block.now c.leave.result c.in-Returned.answer choice given s here none c.in-Returned.is
    (λ known. c.leave.ensures z.names c.args.memory.now z.memory z.frame.locals s.frame.reads known)
    (c.end_slots.ensures z.names z.memory z.frame.slots z.front s.holds count s.stacks.last)

pub returns-then-there-clause-ok : goal.returns-then-there-clause-ok
returns-then-there-clause-ok c = λ z choice given s here none.
    let t = exit_target z c.args.code.now c.args.memory.now c.args.frame.now c.args.block.now c.leave.result c.in-To.target s here c.in-To.is
    (λ known. c.leave.ensures z.names c.args.memory.now z.memory z.frame.locals s.frame.reads known) in
    let from = (own_block z c.args.code.now c.args.memory.now c.args.frame.now c.args.block.now s here).number ∙ sym s.frame.stands.number in
    exit_goes z c.args.memory.now c.args.frame.now c.jump.new.frame t.0 choice given none t.1.0
    (subst (λ (b : Bool). HasJumped z c.args.memory.now c.args.frame.now c.jump.new.frame t.0 b) c.if-there.true (c.in_ok-there-in-To.ensures.ok z c.args.memory.now t.0 s from t.1.1))

pub returns-else-there-clause-ok : goal.returns-else-there-clause-ok
returns-else-there-clause-ok c = λ z choice given s here none.
    let t = exit_target z c.args.code.now c.args.memory.now c.args.frame.now c.args.block.now c.leave.result c.in-To.target s here c.in-To.is
    (λ known. c.leave.ensures z.names c.args.memory.now z.memory z.frame.locals s.frame.reads known) in
    let from = (own_block z c.args.code.now c.args.memory.now c.args.frame.now c.args.block.now s here).number ∙ sym s.frame.stands.number in
    exit_nowhere z c.args.memory.now c.args.frame.now c.jump.new.frame t.0 choice given none t.1.0
    (subst (λ (b : Bool). HasJumped z c.args.memory.now c.args.frame.now c.jump.new.frame t.0 b) c.if-there.false (c.in_ok-there-in-To.ensures.ok z c.args.memory.now t.0 s from t.1.1))
