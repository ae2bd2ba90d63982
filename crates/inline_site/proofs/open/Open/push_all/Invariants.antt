use Rattle.std.proofs.Common.{◌≡◌, ◌++◌, drop}
use Rattle.inline_site.proofs.open.Open.push_all.Given as goal

abbrev pub invariant-loop-line : goal.invariant-loop-line
invariant-loop-line l = record {
  number : l.self.number ≡ l.fn.self.number;
  phis : l.self.phis ≡ l.fn.self.phis;
  lines : l.self.lines ++ drop l.line-index l.lines ≡ l.fn.self.lines ++ l.lines;
}
