use Rattle.std.proofs.Common.{◌≡◌, map, take}
use Rattle.ir_summary.specs.Summaries.{summaries}
use Rattle.thin_link.proofs.summing.summaries.Given as goal

abbrev pub invariant-loop-module : goal.invariant-loop-module
invariant-loop-module l = map (λ v. v.items) l.all.items ≡ map (λ m. summaries m.globals) (take l.module-index l.modules)
