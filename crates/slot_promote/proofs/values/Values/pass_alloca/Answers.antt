use Rattle.std.proofs.Common.{◌≡◌, ℕ, Option}
use Rattle.std.proofs.lemmas.Result.{on_ok_weaker}
use Rattle.ir_tree.specs.declared.operand.Operand.TheVariants.{Poison}
use Rattle.ir_meaning.specs.Promote.{changed}
use Rattle.slot_promote.specs.Tables.{current, place_in}
use Rattle.slot_promote.specs.declared.slots.SlotRank.{SlotRank}
use Rattle.slot_promote.proofs.Loops.{made}
use Rattle.slot_promote.proofs.values.Values.pass_alloca.Goals as goal

pub returns-then-has : goal.returns-then-has
returns-then-has c =
    on_ok_weaker c.set.result
    (λ (h : (at : ℕ → Option SlotRank) (x : ℕ) → current at c.set.new.self x ≡ changed c.in-Some.local (Poison c.reg.result) (current at c.args.self.now) x). λ (x : ℕ).
    made (place_in c.args.slots.now) c.in-Some.local c.args.local c.reg.result c.has.result (current (place_in c.args.slots.now) c.args.self.now) (current (place_in c.args.slots.now) c.set.new.self) x
    c.in-Some.is c.has.ensures c.if-has.true c.reg.ensures (h (place_in c.args.slots.now) x))
    c.set.ensures
