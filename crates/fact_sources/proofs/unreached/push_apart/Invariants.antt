use Rattle.std.proofs.Common.{◌≡◌, ◌++◌, drop}
use Rattle.lto_sets.specs.Sets.{contains}
use Rattle.fact_sources.specs.Apart.{given_apart}
use Rattle.fact_sources.proofs.unreached.push_apart.Given as goal

abbrev pub invariant-loop-place : goal.invariant-loop-place
invariant-loop-place l = l.locals.items ++ given_apart (contains l.inside) l.place (drop l.place l.blocks) ≡ l.initial.locals.items ++ given_apart (contains l.inside) 0 l.blocks
