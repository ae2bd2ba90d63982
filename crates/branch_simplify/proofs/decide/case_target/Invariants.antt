use Rattle.std.proofs.Common.{◌≡◌, drop}
use Rattle.ir_meaning.specs.Act.{case_target}
use Rattle.branch_simplify.proofs.decide.case_target.Given as goal

abbrev pub invariant-loop-case : goal.invariant-loop-case
invariant-loop-case l = case_target (drop l.case-index l.cases) l.default l.bits ≡ case_target l.cases l.default l.bits
