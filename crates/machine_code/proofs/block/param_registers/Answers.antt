use Rattle.std.proofs.Common.{◌∙◌, refl}
use Rattle.ir_tree.specs.declared.function.Param.{Param}
use Rattle.ir_interp.specs.Code.{locals_of}
use Rattle.machine_code.proofs.Rows.{row_more}
use Rattle.machine_code.proofs.block.param_registers.Goals as goal

pub loop-param-preserved : goal.loop-param-preserved
loop-param-preserved c =
    row_more (λ (p : Param). p.local) locals_of (λ x xs. refl) c.args.params.now c.loop-param.param-index _ c.loop-param.all.items c.push.new.self.items c.loop-param-test.true
    c.in_ok-push.ensures.items
    ∙ c.loop-param.invariant
