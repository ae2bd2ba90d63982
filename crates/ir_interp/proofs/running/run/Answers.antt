use Rattle.std.proofs.Common.{◌≡◌, ◌+◌, ◌-◌, ℕ, suc, List, Option, Result, Some, Err, drop, refl, sym, ap, subst, ◌∙◌, arith}
use Rattle.std.specs.Prelude.{IfErr}
use Rattle.std.proofs.lemmas.Result.{err_from_is_err_and}
use Rattle.ir_tree.specs.declared.operand.Symbol.{Symbol}
use Rattle.ir_meaning.specs.Program.{Program, State}
use Rattle.ir_interp.specs.Code.{IsRunnable}
use Rattle.ir_interp.specs.Steps.{IsRunning}
use Rattle.ir_interp.specs.declared.code.Code.{Code}
use Rattle.ir_interp.specs.Runs.{HasSentPart, IsBlamed}
use Rattle.ir_interp.specs.Turns.{HasTurned}
use Rattle.ir_interp.specs.declared.end.RunEnd.{RunEnd}
use Rattle.ir_interp.specs.declared.end.RunEnd.TheVariants.{OutOfSteps}
use Rattle.ir_interp.specs.declared.end.RunFault.{RunFault}
use Rattle.ir_interp.proofs.Endings.{blamed_since, no_more, on_err, over_fed, over_told, part_fed, part_told, turn_ends_fed, turn_ends_told}
use Rattle.ir_interp.proofs.Feeding.{err_so}
use Rattle.ir_interp.proofs.Turns.{Comes, come_first, turn_further}
use Rattle.ir_interp.proofs.running.run.Goals as goal

pub loop-left-init : goal.loop-left-init
loop-left-init g c = record {
  within = omega arith;
  runnable = c.requires;
  code = refl;
  inputs = omega arith;
  outputs = omega arith;
  comes = λ names p s runs.
      let left = g.I.ByteIn.left c.args.input.now in
      let sent = g.O.ByteOut.sent c.args.out.now in
      let none : 0 ≡ c.args.budget - c.args.budget = omega arith in
      subst (λ (n : ℕ). Comes names p s left sent n left sent c.args.machine.now) none (come_first names p s left sent c.args.machine.now runs);
}

pub returns-clause-ok : goal.returns-clause-ok
returns-clause-ok g c = λ names p s bytes runs is.
    let come = c.loop-left.invariant.comes names p s runs in
    let all : (c.args.budget - c.loop-left.left) + 0 ≡ c.args.budget = omega (arith, c.loop-left-test.false) in
    over_told names p s (g.I.ByteIn.left c.args.input.now) (g.O.ByteOut.sent c.args.out.now) (c.args.budget - c.loop-left.left) 0 c.args.budget (g.I.ByteIn.left c.loop-left.input) (g.O.ByteOut.sent c.loop-left.out) c.loop-left.machine OutOfSteps all
    come (no_more names p come.now) bytes is

pub returns-clause-fed : goal.returns-clause-fed
returns-clause-fed g c = λ names p s runs.
    let come = c.loop-left.invariant.comes names p s runs in
    let all : (c.args.budget - c.loop-left.left) + 0 ≡ c.args.budget = omega (arith, c.loop-left-test.false) in
    over_fed names p s (g.I.ByteIn.left c.args.input.now) (g.O.ByteOut.sent c.args.out.now) (c.args.budget - c.loop-left.left) 0 c.args.budget (g.I.ByteIn.left c.loop-left.input) (g.O.ByteOut.sent c.loop-left.out) c.loop-left.machine OutOfSteps all
    come (no_more names p come.now)

pub turn-requires : goal.turn-requires
turn-requires g c = c.loop-left.invariant.runnable

pub loop-left-preserved : goal.loop-left-preserved
loop-left-preserved g c =
    let i = c.loop-left.invariant in
    record {
      within = omega (arith, i.within);
      runnable = subst (λ (x : Code). IsRunnable x) (sym c.turn.ensures.code) i.runnable;
      code = c.turn.ensures.code ∙ i.code;
      inputs = omega (arith, i.inputs, c.turn.ensures.inputs);
      outputs = omega (arith, i.outputs, c.turn.ensures.outputs);
      comes = λ names p s runs.
          let come = i.comes names p s runs in
          let turned = subst (λ (o : Option RunEnd). HasTurned names p come.now (g.I.ByteIn.left c.loop-left.input) (g.I.ByteIn.left c.turn.new.input) (g.O.ByteOut.sent c.loop-left.out) (g.O.ByteOut.sent c.turn.new.out) c.turn.new.machine o) c.in-None.is
          (c.in_ok-end.ensures.ok names p come.now come.runs) in
          turn_further names p s (g.I.ByteIn.left c.args.input.now) (g.O.ByteOut.sent c.args.out.now) (c.args.budget - c.loop-left.left) (c.args.budget - (c.loop-left.left - 1)) (g.I.ByteIn.left c.loop-left.input) (g.I.ByteIn.left c.turn.new.input)
          (g.O.ByteOut.sent c.loop-left.out) (g.O.ByteOut.sent c.turn.new.out) c.loop-left.machine c.turn.new.machine (omega (arith, i.within, c.loop-left-test.true)) come turned;
    }

pub returns-in-Some-clause-ok : goal.returns-in-Some-clause-ok
returns-in-Some-clause-ok g c = λ names p s bytes runs is.
    let i = c.loop-left.invariant in
    let come = i.comes names p s runs in
    let all : (c.args.budget - c.loop-left.left) + suc (c.loop-left.left - 1) ≡ c.args.budget = omega (arith, i.within, c.loop-left-test.true) in
    let turned = subst (λ (o : Option RunEnd). HasTurned names p come.now (g.I.ByteIn.left c.loop-left.input) (g.I.ByteIn.left c.turn.new.input) (g.O.ByteOut.sent c.loop-left.out) (g.O.ByteOut.sent c.turn.new.out) c.turn.new.machine o) c.in-Some.is
    (c.in_ok-end.ensures.ok names p come.now come.runs) in
    turn_ends_told names p s (g.I.ByteIn.left c.args.input.now) (g.O.ByteOut.sent c.args.out.now) (c.args.budget - c.loop-left.left) (c.loop-left.left - 1) c.args.budget (g.I.ByteIn.left c.loop-left.input) (g.I.ByteIn.left c.turn.new.input)
    (g.O.ByteOut.sent c.loop-left.out) (g.O.ByteOut.sent c.turn.new.out) c.loop-left.machine c.turn.new.machine c.in-Some.end all come turned bytes is

pub returns-in-Some-clause-fed : goal.returns-in-Some-clause-fed
returns-in-Some-clause-fed g c = λ names p s runs.
    let i = c.loop-left.invariant in
    let come = i.comes names p s runs in
    let all : (c.args.budget - c.loop-left.left) + suc (c.loop-left.left - 1) ≡ c.args.budget = omega (arith, i.within, c.loop-left-test.true) in
    let turned = subst (λ (o : Option RunEnd). HasTurned names p come.now (g.I.ByteIn.left c.loop-left.input) (g.I.ByteIn.left c.turn.new.input) (g.O.ByteOut.sent c.loop-left.out) (g.O.ByteOut.sent c.turn.new.out) c.turn.new.machine o) c.in-Some.is
    (c.in_ok-end.ensures.ok names p come.now come.runs) in
    turn_ends_fed names p s (g.I.ByteIn.left c.args.input.now) (g.O.ByteOut.sent c.args.out.now) (c.args.budget - c.loop-left.left) (c.loop-left.left - 1) c.args.budget (g.I.ByteIn.left c.loop-left.input) (g.I.ByteIn.left c.turn.new.input)
    (g.O.ByteOut.sent c.loop-left.out) (g.O.ByteOut.sent c.turn.new.out) c.loop-left.machine c.turn.new.machine c.in-Some.end all come turned

pub returns-in_err-end-clause-cause : goal.returns-in_err-end-clause-cause
returns-in_err-end-clause-cause g c =
    let i = c.loop-left.invariant in
    let e : RunFault = c.in_err-end.field-0.0 in
    let p = err_from_is_err_and c.from_residual.result c.from_residual.ensures.1 in
    let same : c.from_residual.result ≡ Err e = p.1 ∙ ap (λ (x : RunFault). Err x) p.2 in
    subst
    (λ (r : Result RunEnd RunFault). IfErr r (IsBlamed (g.I.ByteIn.faults c.args.input.now) (g.I.ByteIn.faults c.turn.new.input) (g.O.ByteOut.faults c.args.out.now) (g.O.ByteOut.faults c.turn.new.out)))
    (sym same)
    (blamed_since (g.I.ByteIn.faults c.args.input.now) (g.I.ByteIn.faults c.loop-left.input) (g.I.ByteIn.faults c.turn.new.input) (g.O.ByteOut.faults c.args.out.now) (g.O.ByteOut.faults c.loop-left.out) (g.O.ByteOut.faults c.turn.new.out) e i.inputs i.outputs
    c.in_err-end.ensures.cause)

pub returns-in_err-end-clause-part : goal.returns-in_err-end-clause-part
returns-in_err-end-clause-part g c =
    let i = c.loop-left.invariant in
    let e : RunFault = c.in_err-end.field-0.0 in
    let exit = err_from_is_err_and c.from_residual.result c.from_residual.ensures.1 in
    let same : c.from_residual.result ≡ Err e = exit.1 ∙ ap (λ (x : RunFault). Err x) exit.2 in
    err_so
    (λ (why : RunFault). (names : List Symbol) (p : Program) (s : State) (bytes : List ℕ) → IsRunning names p c.args.machine.now s → g.I.ByteIn.left c.args.input.now ≡ Some (drop s.place bytes) →
    HasSentPart p s bytes c.args.budget why (g.I.ByteIn.left c.turn.new.input) (g.O.ByteOut.sent c.args.out.now) (g.O.ByteOut.sent c.turn.new.out))
    c.from_residual.result e same (λ names p s bytes runs is.
    let come = i.comes names p s runs in
    part_told names p s (g.I.ByteIn.left c.args.input.now) (g.O.ByteOut.sent c.args.out.now) c.args.budget (c.args.budget - c.loop-left.left) (g.I.ByteIn.left c.loop-left.input) (g.I.ByteIn.left c.turn.new.input)
    (g.O.ByteOut.sent c.loop-left.out) (g.O.ByteOut.sent c.turn.new.out) c.loop-left.machine e (omega (arith, i.within, c.loop-left-test.true)) come c.in_err-end.ensures.kept bytes is
    (c.in_err-end.ensures.left names p come.now bytes come.runs (come.told bytes is).0))

pub returns-in_err-end-clause-fed_part : goal.returns-in_err-end-clause-fed_part
returns-in_err-end-clause-fed_part g c = on_err c.from_residual.result (λ names p s runs.
    let i = c.loop-left.invariant in
    part_fed names p s (g.I.ByteIn.left c.args.input.now) (g.O.ByteOut.sent c.args.out.now) c.args.budget (c.args.budget - c.loop-left.left) (g.I.ByteIn.left c.loop-left.input) (g.O.ByteOut.sent c.loop-left.out) (g.O.ByteOut.sent c.turn.new.out) c.loop-left.machine
    (omega (arith, i.within, c.loop-left-test.true)) (i.comes names p s runs) c.in_err-end.ensures.kept)

pub returns-in-Some-clause-code : goal.returns-in-Some-clause-code
returns-in-Some-clause-code g c = c.turn.ensures.code ∙ c.loop-left.invariant.code
