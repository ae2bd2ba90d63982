use Rattle.std.proofs.Common.{◌≡◌, ◌++◌, map, take}
use Rattle.thin_link.specs.Lines.{definition_line, text_of}
use Rattle.thin_link.specs.Rows.{all_shown}
use Rattle.thin_link.proofs.lines.push_definitions.Given as goal

abbrev pub invariant-loop-entry : goal.invariant-loop-entry
invariant-loop-entry l = l.out.items ≡ l.fn.out.items ++ text_of (map (definition_line l.live) (all_shown (take l.entry-index l.entries)))
