use Rattle.std.proofs.Common.{ap, sym, subst, suc, ◌∙◌, ◌≡◌, ◌<◌, ℕ, List, Option, Some, length, arith}
use Rattle.std.specs.Prelude.{slice_get}
use Rattle.std.proofs.lemmas.Slice.Zip.{AllZip-long}
use Rattle.ir_flow.specs.OfFunction.{AreFlows}
use Rattle.ir_flow.specs.declared.flow.Flow.{Flow}
use Rattle.ir_tree.specs.Wholes.{HasLines}
use Rattle.ir_verify.specs.Modules.{GlobalPast}
use Rattle.ir_verify.proofs.Keys.{got_read}
use Rattle.ir_verify.proofs.Modules.{counted, flow_pushed, over_global, zip_at}
use Rattle.ir_verify.proofs.globals.globals_fault.Goals as goal

pub bounds-lines-number : goal.bounds-lines-number
bounds-lines-number c =
    let long = AllZip-long HasLines c.args.globals.now c.args.lines.now c.requires.lined in
    omega (arith, long, c.loop-number-test.true)

pub global_fault-requires-clause-lined : goal.global_fault-requires-clause-lined
global_fault-requires-clause-lined c =
    let long = AllZip-long HasLines c.args.globals.now c.args.lines.now c.requires.lined in
    let below : c.loop-number.number < length c.args.lines.now = omega (arith, long, c.loop-number-test.true) in
    subst (λ (on : List ℕ). HasLines c.index-globals-number.result on) (sym c.as_slice-on.ensures)
    (zip_at HasLines c.args.globals.now c.args.lines.now c.loop-number.number c.index-globals-number.result c.index-lines-number.result c.requires.lined
    (got_read c.args.globals.now c.loop-number.number c.index-globals-number.result c.loop-number-test.true c.index-globals-number.is)
    (got_read c.args.lines.now c.loop-number.number c.index-lines-number.result below c.index-lines-number.is))

pub loop-number-preserved : goal.loop-number-preserved
loop-number-preserved c =
    let long = AllZip-long HasLines c.args.globals.now c.args.lines.now c.requires.lined in
    let below : c.loop-number.number < length c.args.lines.now = omega (arith, long, c.loop-number-test.true) in
    let here = got_read c.args.globals.now c.loop-number.number c.index-globals-number.result c.loop-number-test.true c.index-globals-number.is in
    let more : length c.push.new.self ≡ suc (length c.loop-number.flows) = ap (λ (all : List (Option Flow)). length all) c.in_ok-push.ensures.ok ∙ counted c.loop-number.flows c.in_ok-fault.flow in
    record {
      first = over_global c.args.globals.now c.args.lines.now c.loop-number.number c.loop-number.best c.in_ok-fault.fault c.loop-number.invariant.first c.index-globals-number.result c.index-lines-number.result
          here
          (got_read c.args.lines.now c.loop-number.number c.index-lines-number.result below c.index-lines-number.is)
          (subst (λ (on : List ℕ). GlobalPast c.index-globals-number.result on c.loop-number.number c.loop-number.best c.in_ok-fault.fault) c.as_slice-on.ensures c.in_ok-fault.ensures.fault);
      count = omega (arith, more, c.loop-number.invariant.count);
      flows = subst (λ (all : List (Option Flow)). AreFlows c.args.globals.now all) (sym c.in_ok-push.ensures.ok)
          (flow_pushed c.args.globals.now c.loop-number.flows c.in_ok-fault.flow c.index-globals-number.result c.loop-number.invariant.flows
          (subst (λ (n : ℕ). slice_get c.args.globals.now n ≡ Some c.index-globals-number.result) (sym c.loop-number.invariant.count) here)
          c.in_ok-fault.ensures.flow);
    }
