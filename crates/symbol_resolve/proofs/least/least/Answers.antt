use Rattle.std.proofs.Common.{arith, option_map}
use Rattle.symbol_resolve.proofs.Found.{least_more}
use Rattle.symbol_resolve.proofs.least.least.Goals as goal

pub loop-i-preserved : goal.loop-i-preserved
loop-i-preserved c =
    least_more c.args.rule c.args.table.now.entries c.loop-i.i (option_map (λ k. (k.name.now, (k.first, k.second))) c.loop-i.best)
    (option_map (λ k. (k.name.now, (k.first, k.second))) c.one_more-best.result) _ (omega (arith, c.len-i-end.ensures.len)) c.loop-i.invariant c.one_more-best.ensures
