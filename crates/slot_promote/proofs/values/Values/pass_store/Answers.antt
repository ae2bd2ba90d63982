use Rattle.std.proofs.Common.{◌≡◌, ℕ, Option}
use Rattle.std.proofs.lemmas.Result.{on_ok_weaker}
use Rattle.ir_meaning.specs.Promote.{changed}
use Rattle.slot_promote.specs.Tables.{current, place_in}
use Rattle.slot_promote.specs.declared.slots.SlotRank.{SlotRank}
use Rattle.slot_promote.proofs.Loops.{stored}
use Rattle.slot_promote.proofs.values.Values.pass_store.Goals as goal

pub returns-in_ok-duplicate-in-Local : goal.returns-in_ok-duplicate-in-Local
returns-in_ok-duplicate-in-Local c =
    on_ok_weaker c.set.result
    (λ (h : (at : ℕ → Option SlotRank) (x : ℕ) → current at c.set.new.self x ≡ changed c.in-Local.local c.in_ok-duplicate-in-Local.field-0 (current at c.args.self.now) x). λ (x : ℕ).
    stored (place_in c.args.slots.now) c.in-Local.local c.args.address.now c.args.value.now c.in_ok-duplicate-in-Local.field-0 c.has.result (current (place_in c.args.slots.now) c.args.self.now) (current (place_in c.args.slots.now) c.set.new.self) x
    c.in-Local.is c.has.ensures c.if-has.true c.in_ok-duplicate-in-Local.ensures (h (place_in c.args.slots.now) x))
    c.set.ensures
