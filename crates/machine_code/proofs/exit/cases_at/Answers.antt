use Rattle.std.proofs.Common.{get_or, refl, ◌∙◌, arith}
use Rattle.ir_tree.specs.declared.block.Case.{Case}
use Rattle.ir_tree.specs.declared.operand.Reg.TheVariants.{Int}
use Rattle.machine_code.specs.Blocks.{IsCase}
use Rattle.machine_code.proofs.Zips.{zip_read, zip_start, zip_whole}
use Rattle.machine_code.proofs.exit.cases_at.Goals as goal

abbrev first : Case
first = record { reg = Int 0; width = 0; bits = 0; target = 0 }

pub loop-case-init : goal.loop-case-init
loop-case-init c = λ blocks p. zip_start (IsCase blocks) c.args.cases.now c.in_ok-all.all.items c.in_ok-all.ensures.items

pub loop-case-preserved : goal.loop-case-preserved
loop-case-preserved c = λ blocks p.
    zip_read (IsCase blocks) c.args.cases.now c.loop-case.all.items _ c.loop-case.case-index first _
    c.loop-case-test.true (c.loop-case.invariant blocks p)
    (record { bits = refl; target = c.at.ensures ∙ p (get_or c.args.cases.now c.loop-case.case-index first).target }) c.in_ok-push.ensures.items

pub returns : goal.returns
returns c = λ blocks p. zip_whole (IsCase blocks) c.args.cases.now c.loop-case.all.items c.loop-case.case-index (omega arith) (c.loop-case.invariant blocks p)
