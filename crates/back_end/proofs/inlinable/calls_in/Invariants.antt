use Rattle.std.proofs.Common.{◌≡◌, drop}
use Rattle.std.specs.List.{list_any}
use Rattle.back_end.specs.Inlinable.{callee_of, has_name}
use Rattle.back_end.proofs.inlinable.calls_in.Given as goal

abbrev pub invariant-loop-line : goal.invariant-loop-line
invariant-loop-line l = list_any (λ x. has_name l.name (callee_of x.instr)) (drop l.line-index l.lines) ≡ list_any (λ x. has_name l.name (callee_of x.instr)) l.lines
