use Rattle.std.proofs.Common.{option_map}
use Rattle.symbol_resolve.proofs.Found.{nothing_there, one_found}
use Rattle.symbol_resolve.proofs.least.one_more.Goals as goal

pub returns-in-None : goal.returns-in-None
returns-in-None c = λ e there. absurd (nothing_there _ e c.in-None.ensures.entry there)

pub returns-in-Some : goal.returns-in-Some
returns-in-Some c = λ e there.
    one_found c.args.rule (option_map (λ k. (k.name.now, (k.first, k.second))) c.args.best) (option_map (λ k. (k.name.now, (k.first, k.second))) c.lesser_of.result)
    (c.in-Some.entry.0.now, c.in-Some.entry.1.now) e c.conflict-pair.result _ c.lesser_of.ensures c.conflict-pair.ensures c.in-Some.ensures.entry there
