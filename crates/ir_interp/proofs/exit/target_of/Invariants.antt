use Rattle.std.proofs.Common.{◌≡◌, drop}
use Rattle.ir_interp.specs.Exits.{case_target}
use Rattle.ir_interp.proofs.exit.target_of.Given as goal

abbrev pub invariant-loop-case : goal.invariant-loop-case
invariant-loop-case l = case_target (drop l.case-index l.cases) l.default l.number ≡ case_target l.cases l.default l.number
