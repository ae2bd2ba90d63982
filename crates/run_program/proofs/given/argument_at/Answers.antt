use Rattle.machine_code.proofs.Lists.{all_got}
use Rattle.ir_tree.specs.declared.function.Param.{Param}
use Rattle.run_program.specs.Arguments.{IsTyped}
use Rattle.run_program.proofs.Lists.{item_there}
use Rattle.run_program.proofs.given.argument_at.Goals as goal

pub argument-requires : goal.argument-requires
argument-requires c =
    all_got (λ (p : Param). IsTyped p.reg) c.args.params.now c.args.place c.in-Some.param.now (item_there c.args.params.now c.args.place c.get.result c.in-Some.param c.in-Some.is c.get.ensures.lookup.1 c.get.ensures.lookup.3) c.requires
