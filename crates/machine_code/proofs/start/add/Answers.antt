use Rattle.std.proofs.Common.{◌≡◌, ℕ, length, option_copied, sym, ap, ◌∙◌, subst, arith}
use Rattle.machine_code.specs.Openings.{IsVariableBlock}
use Rattle.machine_code.proofs.Storing.{function_added, variable_added}
use Rattle.machine_code.proofs.start.add.Goals as goal

pub returns-in-Function : goal.returns-in-Function
returns-in-Function c = function_added c.args.bases.now c.args.blocks.now.items c.args.global.now _ c.in-Function.is

pub returns-in_ok-push-in-Some : goal.returns-in_ok-push-in-Some
returns-in_ok-push-in-Some c =
    let old = c.args.blocks.now.items in
    let count : c.len.result ≡ length old = omega (arith, c.len.ensures, c.args.blocks.now.ok) in
    variable_added c.args.bases.now old c.push.new.self.items c.args.global.now c.in-Variable.variable c.in-Some.init.now c.in_ok-made-in-Some.made c.in-Variable.is
    (sym c.defined_init.ensures ∙ ap option_copied c.in-Some.is)
    (subst (λ (n : ℕ). IsVariableBlock c.args.bases.now n c.in-Variable.variable c.in-Some.init.now c.in_ok-made-in-Some.made) count c.in_ok-made-in-Some.ensures) c.in_ok-push-in-Some.ensures.items
