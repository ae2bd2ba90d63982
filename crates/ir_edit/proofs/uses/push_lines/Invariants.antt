use Rattle.std.proofs.Common.{◌≡◌, ◌++◌, drop}
use Rattle.std.specs.Prelude.{flat_map}
use Rattle.ir_edit.proofs.uses.push_lines.Given as goal

abbrev pub invariant-loop-line : goal.invariant-loop-line
invariant-loop-line g l = l.uses.items ++ flat_map g.U.FindUses.of_line (drop l.line-index l.lines) ≡ l.fn.uses.items ++ flat_map g.U.FindUses.of_line l.lines
