use Rattle.std.proofs.Common.{◌∙◌, List, take_all, subst, arith}
use Rattle.std.specs.Prelude.{All}
use Rattle.std.proofs.lemmas.List.Elements.{All-more}
use Rattle.ir_tree.specs.Wholes.{IsVerified}
use Rattle.ir_tree.specs.declared.module.Module.{Module}
use Rattle.link_one.proofs.linking.all_verified.Goals as goal

pub loop-verified-preserved : goal.loop-verified-preserved
loop-verified-preserved c =
    All-more IsVerified c.args.modules.now c.loop-verified.verified-index c.verified-item.result c.loop-verified-test.true c.loop-verified.invariant
    (subst (λ (m : Module). IsVerified m) (c.verified.ensures ∙ c.verified-item.is) c.module.ensures.sound)

pub returns : goal.returns
returns c = subst (λ (ms : List Module). All IsVerified ms) (take_all c.loop-verified.verified-index c.args.modules.now (omega (arith, c.loop-verified-test.false))) c.loop-verified.invariant
