use Rattle.std.proofs.Common.{◌≡◌, ◌++◌, map, drop}
use Rattle.ir_parse.proofs.value_lines.push_block.Given as goal

abbrev pub invariant-each : goal.invariant-each
invariant-each l = l.lines ++ map (λ k. k.line) (drop l.line-index l.line-items) ≡ l.initial.lines ++ map (λ k. k.line) l.line-items
