use Rattle.std.proofs.Common.{◌≡◌, ℕ, suc, ◌+◌, List, ◌++◌, ◌∷◌, [], length, take, sym, ap, subst, ◌∙◌, arith, take_all, refl}
use Rattle.std.proofs.lemmas.List.{length-append}
use Rattle.ir_machine.specs.Meant.{meant}
use Rattle.ir_machine.specs.declared.scalar.Scalar.{Scalar}
use Rattle.ir_interp.specs.Phis.{AreEdgesKnown, AreTaken, HaveRoom, edge_meant}
use Rattle.ir_interp.specs.declared.phis.Edge.{Edge}
use Rattle.ir_interp.proofs.Edges.{phi_known, room_more, taken_more, none_room, none_taken}
use Rattle.ir_interp.proofs.Reading.{same_locals}
use Rattle.ir_interp.specs.declared.phis.Phi.{Phi}
use Rattle.ir_interp.proofs.registers.Registers.take.Goals as goal

pub loop-phi-preserved : goal.loop-phi-preserved
loop-phi-preserved c =
    let i = c.loop-phi.phi-index in
    let ps = c.args.phis.now in
    let p = c.phi-item.result in
    let one : suc i ≡ i + 1 = omega arith in
    let same : (x : ℕ) → _ = λ (x : ℕ). c.reserve.ensures.same x ∙ c.loop-phi.invariant.same x in
    record {
      same = same;
      count = omega (arith, ap length c.in_ok-push.ensures.items, length-append {A = Scalar}, c.loop-phi.invariant.count);
      room = subst (λ (k : ℕ). HaveRoom (length c.reserve.new.self.cells.items) (take k ps)) one
          (room_more (length c.loop-phi.self.cells.items) (length c.reserve.new.self.cells.items) ps i p c.reserve.ensures.longer c.loop-phi-test.true c.phi-item.is c.in_ok-reserve.ensures.room c.loop-phi.invariant.room);
      taken = λ names m memory locals a k.
          let a' = same_locals names m memory c.args.self.now c.reserve.new.self locals same a in
          let known = subst (λ (es : List Edge). AreEdgesKnown names m memory es) (sym c.deref.ensures.value) (phi_known names m memory ps i p k c.loop-phi-test.true c.phi-item.is) in
          subst (λ (vs : List Scalar). AreTaken names m memory locals c.args.from (take (i + 1) ps) vs) (sym c.in_ok-push.ensures.items)
          (subst (λ (j : ℕ). AreTaken names m memory locals c.args.from (take j ps) (c.loop-phi.values.items ++ c.taken.result ∷ [])) one
          (taken_more names m memory locals c.args.from ps i p c.loop-phi.values.items c.taken.result c.loop-phi-test.true c.phi-item.is
          (c.loop-phi.invariant.taken names m memory locals a k)
          (subst (λ (es : List Edge). meant names c.taken.result ≡ edge_meant names locals c.args.from es) c.deref.ensures.value (c.taken.ensures.value names m memory locals a' known))
          (c.taken.ensures.valid names m memory locals a' known)));
    }

pub returns-clause-taken : goal.returns-clause-taken
returns-clause-taken c = λ names m memory locals a k.
    subst (λ (ps : List Phi). AreTaken names m memory locals c.args.from ps c.loop-phi.values.items) (take_all c.loop-phi.phi-index c.args.phis.now (omega (arith, c.loop-phi-test.false))) (c.loop-phi.invariant.taken names m memory locals a k)

pub returns-clause-room : goal.returns-clause-room
returns-clause-room c = subst (λ (ps : List Phi). HaveRoom (length c.loop-phi.self.cells.items) ps) (take_all c.loop-phi.phi-index c.args.phis.now (omega (arith, c.loop-phi-test.false))) c.loop-phi.invariant.room

pub returns-in_err-push-clause-same : goal.returns-in_err-push-clause-same
returns-in_err-push-clause-same c = λ x. c.reserve.ensures.same x ∙ c.loop-phi.invariant.same x

pub returns-in_err-reserve-clause-same : goal.returns-in_err-reserve-clause-same
returns-in_err-reserve-clause-same c = λ x. c.reserve.ensures.same x ∙ c.loop-phi.invariant.same x

pub loop-phi-init : goal.loop-phi-init
loop-phi-init c = record {
  same = λ x. refl;
  count = omega (arith, ap length c.clear.ensures.items);
  room = none_room (length c.args.self.now.cells.items) c.args.phis.now;
  taken = λ names m memory locals a k. subst (AreTaken names m memory locals c.args.from (take 0 c.args.phis.now)) (sym c.clear.ensures.items) (none_taken names m memory locals c.args.from c.args.phis.now);
}
