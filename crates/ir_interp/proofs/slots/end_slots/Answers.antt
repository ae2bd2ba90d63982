use Rattle.std.proofs.Common.{◌≡◌, ℕ, ◌+◌, ◌-◌, ◌<◌, ◌≤◌, length, subst, arith}
use Rattle.ir_interp.proofs.Lives.{Ends, all_ended, begin_ends, one_ends, one_fewer}
use Rattle.ir_interp.proofs.slots.end_slots.Goals as goal

pub loop-left-init : goal.loop-left-init
loop-left-init c = record {
  some = omega arith;
  within = c.requires;
  ends = λ names meaning slots front s l h.
      let none : 0 ≡ c.args.count - c.args.count = omega arith in
      subst (λ (n : ℕ). Ends names c.args.memory.now meaning slots front c.args.memory.now n) none (begin_ends names c.args.memory.now meaning slots front s h);
}

pub loop-left-preserved : goal.loop-left-preserved
loop-left-preserved c =
    let some : 0 < length c.loop-left.memory.blocks.items = omega (arith, c.loop-left-test.true, c.loop-left.invariant.within) in
    let fewer : length c.loop-left.memory.blocks.items ≡ length c.pop.new.self.blocks.items + 1 = one_fewer c.loop-left.memory c.pop.new.self some c.pop.ensures.last in
    let next : c.args.count - c.loop-left.left + 1 ≡ c.args.count - (c.loop-left.left - 1) = omega (arith, c.loop-left-test.true, c.loop-left.invariant.some) in
    record {
      some = omega (arith, c.loop-left.invariant.some);
      within = omega (arith, fewer, c.loop-left.invariant.within);
      ends = λ names meaning slots front s l h.
          let more : c.args.count - c.loop-left.left < length slots = omega (arith, l, c.loop-left-test.true, c.loop-left.invariant.some) in
          subst (λ (n : ℕ). Ends names c.args.memory.now meaning slots front c.pop.new.self n) next
          (one_ends names c.args.memory.now meaning slots front c.loop-left.memory c.pop.new.self (c.args.count - c.loop-left.left)
          (c.loop-left.invariant.ends names meaning slots front s l h) more (λ memory stands. c.pop.ensures.ended names memory stands) c.pop.ensures.last c.pop.ensures.held);
    }

pub returns : goal.returns
returns c = λ names meaning slots front s l h.
    let all : length slots ≤ c.args.count - c.loop-left.left = omega (arith, l, c.loop-left-test.false) in
    all_ended names c.args.memory.now meaning slots front c.loop-left.memory (c.args.count - c.loop-left.left) (c.loop-left.invariant.ends names meaning slots front s l h) all
