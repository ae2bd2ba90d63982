use Rattle.std.proofs.Common.{List, option_copied, refl, sym, ap, subst, ◌∙◌}
use Rattle.ir_machine.proofs.Holding.{on_err}
use Rattle.ir_meaning.specs.Act.{enters_block}
use Rattle.ir_meaning.specs.Frame.{Locals}
use Rattle.ir_interp.specs.Locals.{AreLocals}
use Rattle.ir_interp.specs.Phis.{ArePhisKnown, phis_meant}
use Rattle.ir_interp.specs.declared.phis.Phi.{Phi}
use Rattle.ir_interp.proofs.Acting.{still_there}
use Rattle.ir_interp.proofs.Jumping.{jumped, no_jump}
use Rattle.ir_interp.proofs.Standing.{untouched}
use Rattle.ir_interp.proofs.jump.jump.Goals as goal

pub returns-in_ok-enter-in-Some-clause-ok : goal.returns-in_ok-enter-in-Some-clause-ok
returns-in_ok-enter-in-Some-clause-ok c = λ z m t s e at.
    jumped z c.args.code.now m c.args.frame.now t c.args.target c.args.from c.in-Some.block.now c.enter.new.self s e at (sym c.block.ensures ∙ ap option_copied c.in-Some.is)
    (subst (λ (ps : List Phi). (locals : Locals) → AreLocals z.names m z.memory c.args.frame.now.registers locals → ArePhisKnown z.names m z.memory ps → AreLocals z.names m z.memory c.enter.new.self (phis_meant z.names locals c.args.from ps locals)) c.deref.ensures.value
    (λ locals reads known. c.in_ok-enter-in-Some.ensures.ok z.names m z.memory locals reads known))

pub returns-in_err-enter-in-Some-clause-err : goal.returns-in_err-enter-in-Some-clause-err
returns-in_err-enter-in-Some-clause-err c =
    on_err c.from_residual.result
    (λ z m s.
    still_there z c.args.code.now m m c.args.frame.now c.enter.new.self s
    (untouched z.names m z.memory c.args.frame.now.registers c.enter.new.self z.frame.locals c.in_err-enter-in-Some.ensures.err s.holds s.frame.reads) refl)

pub returns-in-None-clause-ok : goal.returns-in-None-clause-ok
returns-in-None-clause-ok c = λ z m t s e at.
    let none = no_jump z c.args.code.now m c.args.frame.now t c.args.target s at (sym c.block.ensures ∙ ap option_copied c.in-None.is) in (
      λ place. ap (λ o. enters_block z.program.signature z.frame z.memory place o) none,
      record { function = refl; block = refl; line = refl; base = refl },
    )
