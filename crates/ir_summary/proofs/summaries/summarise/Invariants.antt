use Rattle.std.proofs.Common.{◌≡◌, ◌++◌, drop}
use Rattle.ir_summary.specs.Summaries.{summaries}
use Rattle.ir_summary.proofs.summaries.summarise.Given as goal

abbrev pub invariant-loop-global : goal.invariant-loop-global
invariant-loop-global l = record {
  of : l.global-items ≡ l.verified.globals;
  rest : l.all.items ++ summaries (drop l.global-index l.global-items) ≡ summaries l.verified.globals;
}
