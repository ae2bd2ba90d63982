use Rattle.std.proofs.Common.{◌≡◌, ℕ, suc, ◌<◌, List, length, take, drop, get_or, nat_eq, if◌then◌else◌, sym, ap, subst, ◌∙◌, arith, take_all}
use Rattle.std.proofs.lemmas.List.{length-append, drop_all}
use Rattle.ir_machine.specs.declared.scalar.Scalar.{Scalar}
use Rattle.ir_interp.specs.Locals.{AreLocals, register_at}
use Rattle.ir_interp.specs.Calls.{all_meant}
use Rattle.ir_interp.specs.Entering.{ParamsFit, params_meant}
use Rattle.ir_interp.proofs.Entering.{all_written, fit_at, last_left, param_written, no_locals}
use Rattle.ir_interp.proofs.entry.pass.Goals as goal

pub write-requires : goal.write-requires
write-requires c =
    let count : c.len.result < length c.args.params.now = omega (arith, ap length c.in-Some.ensures.items, length-append {A = Scalar}, c.loop-value.invariant.count, c.len.ensures, c.pop.new.self.ok) in
    fit_at (length c.loop-value.registers.cells.items) c.args.params.now c.len.result count c.loop-value.invariant.room

pub loop-value-preserved : goal.loop-value-preserved
loop-value-preserved c =
    let xs = c.args.params.now in
    let all = c.args.arguments.now.items in
    let vs = c.pop.new.self.items in
    let v = c.in-Some.value in
    let r = c.loop-value.registers in
    let count : c.len.result ≡ length c.pop.new.self.items = omega (arith, c.len.ensures, c.pop.new.self.ok) in
    let long : length c.loop-value.arguments.items ≡ suc (length c.pop.new.self.items) = omega (arith, ap length c.in-Some.ensures.items, length-append {A = Scalar}) in
    let lt : length c.pop.new.self.items < length c.args.params.now = omega (arith, long, c.loop-value.invariant.count) in
    let last = last_left vs all v (sym c.in-Some.ensures.items ∙ c.loop-value.invariant.left ∙ ap (λ (k : ℕ). take k all) long) in
    record {
      count = omega (arith, lt);
      room = subst (λ (n : ℕ). ParamsFit n xs) (sym c.write.ensures.room) c.loop-value.invariant.room;
      left = last.0;
      written = λ names m memory h valid.
          let inv = subst (λ (k : ℕ). AreLocals names m memory r (params_meant (drop k xs) (all_meant names (drop k all)))) long (c.loop-value.invariant.written names m memory h valid) in
          param_written names m memory xs all (length vs) v r c.write.new.self lt last.1 valid
          (λ x. c.write.ensures.written x ∙ ap (λ (k : ℕ). if nat_eq (get_or xs k 0) x then v else register_at r x) count) inv;
    }

pub returns : goal.returns
returns c = λ names m memory h valid.
    let none = rw c.in_default.is at c.pop.ensures.cases in
    let n : length c.loop-value.arguments.items ≡ 0 = omega (arith, none.0, c.loop-value.arguments.ok) in
    all_written names m memory c.loop-value.registers c.args.params.now c.args.arguments.now.items (length c.loop-value.arguments.items) n (c.loop-value.invariant.written names m memory h valid)

pub loop-value-init : goal.loop-value-init
loop-value-init c =
    let all = c.args.arguments.now.items in
    record {
      count = omega (arith, c.requires.count);
      room = c.requires.room;
      left = sym (take_all (length all) all (omega arith));
      written = λ names m memory h valid.
          subst (λ (ys : List ℕ). AreLocals names m memory c.args.registers.now (params_meant ys (all_meant names (drop (length all) all)))) (sym (drop_all (length all) c.args.params.now (omega (arith, c.requires.count)))) (no_locals names m memory c.args.registers.now h);
    }
