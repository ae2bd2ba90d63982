use Rattle.std.proofs.Common.{◌≡◌, List, Option, map, refl, sym, ap, subst, ◌∙◌, arith}
use Rattle.ir_machine.specs.declared.scalar.Scalar.{Scalar}
use Rattle.ir_machine.specs.declared.scalar.Scalar.TheVariants.{Number}
use Rattle.ir_interp.specs.Calls.{AreValid, all_meant}
use Rattle.ir_interp.specs.Frames.{IsOpened}
use Rattle.ir_interp.specs.declared.frame.Frame.{Frame}
use Rattle.ir_interp.proofs.Advancing.{begun}
use Rattle.ir_interp.proofs.Begun.{meant_numbers, valid_numbers}
use Rattle.ir_interp.proofs.Leaving.{block_count}
use Rattle.ir_interp.proofs.machine.Machine.new.Goals as goal

pub returns-in-Some-clause-begun : goal.returns-in-Some-clause-begun
returns-in-Some-clause-begun c = λ names p distinct code knows holds.
    let m = c.args.memory in
    let vs = c.in_ok-values.values.items in
    let all : vs ≡ map Number c.args.arguments.now = c.in_ok-values.ensures in
    let opened = c.in_ok-top.ensures names p m p.opening code (subst (λ (xs : List Scalar). AreValid names m p.opening xs) (sym all) (valid_numbers names m p.opening c.args.arguments.now)) in
    begun names p _ c.args.root c.len.result c.args.arguments.now (all_meant names vs) (ap (all_meant names) all ∙ meant_numbers names c.args.arguments.now) distinct code knows holds
    (subst (λ (o : Option Frame). IsOpened names p m p.opening c.args.root (all_meant names vs) c.len.result o) c.in-Some.is opened) (omega (arith, c.len.ensures, block_count m)) c.new.ensures.items refl
