use Rattle.std.proofs.Common.{Some, sym, subst}
use Rattle.ir_tree.specs.declared.function.Function.{Function}
use Rattle.inline_site.specs.Inlined.{IsInlined}
use Rattle.inline_site.proofs.inline.inlined.Goals as goal

pub returns : goal.returns
returns c = λ sound.
    subst (λ (g : Function). IsInlined c.args.f.now c.args.place c.args.callee.now (Some g)) (sym c.in_ok-g.ensures)
    (c.in_ok-inline_there.ensures c.args.f.now c.args.place c.of-caller.ensures.function c.of-caller.ensures.ready c.of-caller.ensures.count c.requires.stands sound)
