use Rattle.std.proofs.Common.{◌≡◌, ◌∙◌, List, ap, get_or, length, refl, arith}
use Rattle.std.proofs.lemmas.Option.{slice_get_read}
use Rattle.ir_tree.specs.declared.module.GlobalValue.{GlobalValue}
use Rattle.ir_tree.specs.declared.module.Module.{Module}
use Rattle.merge_meaning.proofs.Tabled.{each_more}
use Rattle.merge_meaning.proofs.giving.give_each.Goals as goal

pub give_one-requires : goal.give_one-requires
give_one-requires c =
    let gs : c.as_slice-globals.result.now ≡ c.args.verified.now.globals = c.as_slice-globals.ensures ∙ ap (λ (m : Module). m.globals) c.module.ensures.module in
    c.take_flow-flow.ensures.flow c.args.verified.now.globals c.index-globals-place.result c.loop-place.invariant.flows
    (slice_get_read c.args.verified.now.globals (length c.args.verified.now.globals) c.loop-place.place c.index-globals-place.result refl (omega (arith, c.loop-place-test.true, ap length gs))
    (c.index-globals-place.is ∙ ap (λ (l : List GlobalValue). get_or l c.loop-place.place c.index-globals-place.result) gs))

pub loop-place-preserved : goal.loop-place-preserved
loop-place-preserved c =
    let gs : c.as_slice-globals.result.now ≡ c.args.verified.now.globals = c.as_slice-globals.ensures ∙ ap (λ (m : Module). m.globals) c.module.ensures.module in
    record {
      rows = each_more c.args.resolution.now c.args.scope.now c.args.verified.now.globals c.loop-place.place c.index-globals-place.result (omega (arith, c.loop-place-test.true, ap length gs))
          (c.index-globals-place.is ∙ ap (λ (l : List GlobalValue). get_or l c.loop-place.place c.index-globals-place.result) gs) c.loop-place.rows c.give_one.new.rows _
          c.in_ok-give_one.ensures c.loop-place.invariant.rows;
      flows = c.take_flow-flow.ensures.others c.args.verified.now.globals c.loop-place.invariant.flows;
    }
