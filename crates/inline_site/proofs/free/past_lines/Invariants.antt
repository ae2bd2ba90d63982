use Rattle.std.proofs.Common.{◌≡◌, max, drop}
use Rattle.ir_tree.specs.Flow.{room}
use Rattle.ir_edit.specs.Numbered.{line_numbers}
use Rattle.inline_site.proofs.free.past_lines.Given as goal

abbrev pub invariant-loop-line : goal.invariant-loop-line
invariant-loop-line l = max l.free (room (line_numbers (drop l.line-index l.lines))) ≡ max l.initial.free (room (line_numbers l.lines))
