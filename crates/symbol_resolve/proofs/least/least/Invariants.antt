use Rattle.std.proofs.Common.{◌≡◌, drop, None, option_map}
use Rattle.symbol_resolve.specs.Listed.{least_from, pairs}
use Rattle.symbol_resolve.proofs.least.least.Given as goal

abbrev pub invariant-loop-i : goal.invariant-loop-i
invariant-loop-i l =
    least_from l.rule (option_map (λ k. (k.name.now, (k.first, k.second))) l.best) (pairs (drop l.i l.table.entries)) ≡ least_from l.rule None (pairs l.table.entries)
