use Rattle.std.proofs.Common.{ℕ, List, option_copied, sym, ap, subst, ◌∙◌, arith}
use Rattle.ir_interp.specs.Calls.{all_meant}
use Rattle.ir_interp.specs.Entering.{params_meant}
use Rattle.ir_interp.specs.Locals.{AreLocals}
use Rattle.ir_interp.proofs.Opening.{opened, opened_otherwise}
use Rattle.ir_interp.proofs.open.open.Goals as goal

pub returns-then-len : goal.returns-then-len
returns-then-len c = λ names p m memory is valid.
    let body = c.in-Some.body.now in
    let here = sym c.function.ensures ∙ ap option_copied c.in-Some.is in
    opened_otherwise names p m memory c.args.code.now c.args.function c.args.base body c.args.arguments.now.items is here
    (λ same. c.if-len.true (omega (arith, c.len.ensures, same, c.len-2.ensures, body.params.ok, c.args.arguments.now.ok)))

pub returns : goal.returns
returns c = λ names p m memory is valid.
    let here = sym c.function.ensures ∙ ap option_copied c.in-Some.is in
    opened names p m memory c.args.code.now c.args.function c.args.base c.in_ok-registers.registers c.in-Some.body.now _ is here
    (subst (λ (ps : List ℕ). AreLocals names m memory c.in_ok-registers.registers (params_meant ps (all_meant names c.args.arguments.now.items))) c.deref.ensures.value (c.in_ok-registers.ensures names m memory valid))
