use Rattle.std.proofs.Common.{◌≡◌, ℕ, suc, ◌<◌, List, ◌++◌, ◌∷◌, [], length, take, drop, get_or, nat_eq, if◌then◌else◌, sym, ap, subst, ◌∙◌, arith}
use Rattle.std.proofs.lemmas.List.{length-append}
use Rattle.ir_machine.specs.declared.scalar.Scalar.{Scalar}
use Rattle.ir_interp.specs.Locals.{AreLocals, register_at}
use Rattle.ir_interp.specs.Phis.{AreTaken, HaveRoom, phis_meant}
use Rattle.ir_interp.specs.declared.phis.Phi.{Phi}
use Rattle.ir_interp.proofs.Edges.{phi_written, room_at, taken_last}
use Rattle.ir_interp.proofs.registers.Registers.put.Goals as goal

pub write-requires : goal.write-requires
write-requires c =
    let count : c.len.result < length c.args.phis.now = omega (arith, ap length c.in-Some.ensures.items, length-append {A = Scalar}, c.loop-value.invariant.count, c.len.ensures, c.pop.new.self.ok) in
    subst (λ (p : Phi). p.local < length c.loop-value.self.cells.items) c.index-phis-len.is
    (room_at (length c.loop-value.self.cells.items) c.args.phis.now c.len.result c.index-phis-len.result count c.index-phis-len.is c.loop-value.invariant.room)

pub loop-value-preserved : goal.loop-value-preserved
loop-value-preserved c =
    let ps = c.args.phis.now in
    let p = c.index-phis-len.result in
    let vs = c.pop.new.self.items in
    let v = c.in-Some.value in
    let r = c.loop-value.self in
    let r' = c.write.new.self in
    let count : c.len.result ≡ length c.pop.new.self.items = omega (arith, c.len.ensures, c.pop.new.self.ok) in
    let long : length c.loop-value.values.items ≡ suc (length c.pop.new.self.items) = omega (arith, ap length c.in-Some.ensures.items, length-append {A = Scalar}) in
    let lt : length c.pop.new.self.items < length c.args.phis.now = omega (arith, long, c.loop-value.invariant.count) in
    let is : c.index-phis-len.result ≡ get_or c.args.phis.now (length c.pop.new.self.items) c.index-phis-len.result = c.index-phis-len.is ∙ ap (λ (k : ℕ). get_or ps k p) count in
    record {
      count = omega (arith, lt);
      room = subst (λ (n : ℕ). HaveRoom n ps) (sym c.write.ensures.room) c.loop-value.invariant.room;
      written = λ names m memory locals from a t.
          let inv = c.loop-value.invariant.written names m memory locals from a t in
          let all = subst (λ (xs : List Scalar). AreTaken names m memory locals from (take (length c.loop-value.values.items) ps) xs) c.in-Some.ensures.items inv.0 in
          let all' = subst (λ (k : ℕ). AreTaken names m memory locals from (take k ps) (vs ++ v ∷ [])) long all in
          let last = taken_last names m memory locals from ps p vs v lt is all' in
          let rest = subst (λ (k : ℕ). AreLocals names m memory r (phis_meant names locals from (drop k ps) locals)) long inv.1 in (
            last.0,
            phi_written names m memory locals from ps (length vs) p v r r' lt is
                (λ x. c.write.ensures.written x ∙ ap (λ (q : Phi). if nat_eq q.local x then v else register_at r x) (sym c.index-phis-len.is))
                last.1 last.2 rest,
          );
    }
