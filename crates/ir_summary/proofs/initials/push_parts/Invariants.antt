use Rattle.std.proofs.Common.{◌≡◌, ◌++◌, drop}
use Rattle.ir_summary.specs.Once.{texts}
use Rattle.ir_summary.specs.Walked.{parts_named}
use Rattle.ir_summary.proofs.initials.push_parts.Given as goal

abbrev pub invariant-loop-part : goal.invariant-loop-part
invariant-loop-part l = texts l.names.items ++ parts_named (drop l.part-index l.parts) ≡ texts l.fn.names.items ++ parts_named l.parts
