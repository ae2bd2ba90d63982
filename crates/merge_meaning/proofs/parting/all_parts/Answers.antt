use Rattle.std.proofs.Common.{◌≡◌, ◌∙◌, Some, ap, arith, length, refl, suc, rules}
use Rattle.std.specs.Prelude.{slice_get}
use Rattle.std.proofs.lemmas.Option.{slice_get_read}
use Rattle.merge_meaning.proofs.Tabled.{parts_more}
use Rattle.merge_meaning.proofs.parting.all_parts.Goals as goal

pub part-requires : goal.part-requires
part-requires c =
    let at : slice_get c.args.modules.now c.loop-verified.verified-index ≡ Some c.verified-item.result =
    slice_get_read c.args.modules.now (length c.args.modules.now) c.loop-verified.verified-index c.verified-item.result refl c.loop-verified-test.true c.verified-item.is in
    c.take_flows-flows.ensures.flows c.args.modules.now c.verified-item.result c.loop-verified.invariant.flows
    (ap (slice_get c.args.modules.now) c.loop-verified.invariant.number ∙ at)

pub loop-verified-preserved : goal.loop-verified-preserved
loop-verified-preserved c =
    let next : c.in-Some.next ≡ suc c.loop-verified.number = search rules in
    record {
      parts = parts_more c.args.resolution.now c.args.link c.args.modules.now c.loop-verified.verified-index c.verified-item.result c.loop-verified-test.true c.verified-item.is c.loop-verified.number
          c.in-Some.next next c.loop-verified.all.items c.push.new.self.items _ c.in_ok-part.field-0 c.in_ok-part.ensures c.in_ok-push.ensures.items c.loop-verified.invariant.parts;
      number = omega (arith, next, c.loop-verified.invariant.number);
      flows = c.take_flows-flows.ensures.others c.args.modules.now c.loop-verified.invariant.flows;
    }
