use Rattle.std.proofs.Common.{◌≡◌, ◌++◌, drop}
use Rattle.ir_facts.specs.Clear.{keys_among}
use Rattle.ir_facts.proofs.scopes.push_keys.Given as goal

abbrev pub invariant-loop-pair : goal.invariant-loop-pair
invariant-loop-pair g l =
    l.keys.items ++ keys_among (g.L.Locals.members l.among) (drop l.pair-index l.found) ≡ l.initial.keys.items ++ keys_among (g.L.Locals.members l.among) l.found
