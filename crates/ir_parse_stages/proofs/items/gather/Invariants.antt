use Rattle.std.proofs.Common.{◌≡◌, ◌++◌, drop}
use Rattle.ir_parse_names.specs.Marks.{marks_of}
use Rattle.ir_parse_stages.proofs.items.gather.Given as goal

abbrev pub invariant-each : goal.invariant-each
invariant-each l = l.marks ++ marks_of (drop l.item-index l.items) ≡ l.fn.marks ++ marks_of l.items
