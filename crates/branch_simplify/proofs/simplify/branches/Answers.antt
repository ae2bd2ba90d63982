use Rattle.std.proofs.Common.{sym, subst}
use Rattle.ir_tree.specs.Rules.{Sound}
use Rattle.ir_tree.specs.declared.function.Function.{Function}
use Rattle.ir_meaning.specs.Near.{BetterThan}
use Rattle.branch_simplify.proofs.Better.{is_better}
use Rattle.branch_simplify.proofs.SimplifiedSound.{is_sound}
use Rattle.branch_simplify.proofs.simplify.branches.Goals as goal

pub returns : goal.returns
returns c = record {
  simplified = c.in_ok-g.ensures;
  better = λ sound p formed. subst (λ (g : Function). BetterThan p 1 g c.args.f.now) (sym c.in_ok-g.ensures) (is_better c.args.f.now sound p formed);
  sound = λ sound. subst Sound (sym c.in_ok-g.ensures) (is_sound c.args.f.now sound);
}
