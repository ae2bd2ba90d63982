use Rattle.std.proofs.Common.{◌∙◌, refl}
use Rattle.ir_tree.specs.declared.function.Param.{Param}
use Rattle.ir_meaning.specs.Programs.{regs_of}
use Rattle.machine_code.proofs.Rows.{row_more}
use Rattle.machine_code.proofs.symbol.param_regs.Goals as goal

pub loop-param-preserved : goal.loop-param-preserved
loop-param-preserved c =
    row_more (λ (p : Param). p.reg) regs_of (λ x xs. refl) c.args.params.now c.loop-param.param-index _ c.loop-param.regs.items c.push.new.self.items c.loop-param-test.true
    c.in_ok-push.ensures.items
    ∙ c.loop-param.invariant
