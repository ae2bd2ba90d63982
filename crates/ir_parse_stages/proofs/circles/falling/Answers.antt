use Rattle.std.proofs.Common.{List, Bool, ap, length, sym, subst, arith}
use Rattle.std.proofs.lemmas.List.{length_push}
use Rattle.ir_parse_stages.specs.Circles.{AreFree}
use Rattle.ir_parse_stages.proofs.Free.{one_more}
use Rattle.ir_parse_stages.proofs.circles.falling.Goals as goal

pub falls-requires : goal.falls-requires
falls-requires c = c.requires

pub each-preserved : goal.each-preserved
each-preserved c =
    let inv = c.each.invariant in
    let pushed = c.in_ok-push.ensures.items in record {
      free =
          subst (λ (bs : List Bool). AreFree c.args.graph.now bs) (sym pushed)
          (one_more c.args.graph.now c.each.free.items c.each.place c.falls.result inv.free inv.long c.falls.ensures);
      long = omega (arith, ap length pushed, length_push c.each.free.items c.falls.result, inv.long);
    }

pub returns : goal.returns
returns c = c.each.invariant.free
