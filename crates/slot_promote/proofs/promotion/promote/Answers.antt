use Rattle.std.proofs.Common.{◌+◌, sym, subst}
use Rattle.ir_tree.specs.Rules.{Sound}
use Rattle.ir_tree.specs.declared.function.Function.{Function}
use Rattle.ir_meaning.specs.Near.{BetterThan}
use Rattle.slot_promote.specs.Laws.{longest}
use Rattle.slot_promote.proofs.Planned.{is_better}
use Rattle.slot_promote.proofs.PromotedSound.{is_sound}
use Rattle.slot_promote.proofs.promotion.promote.Goals as goal

pub returns : goal.returns
returns c = record {
  promoted = c.in_ok-g.ensures;
  better = λ sound p formed. subst (λ (g : Function). BetterThan p (longest c.args.f.now.blocks + 1) g c.args.f.now) (sym c.in_ok-g.ensures) (is_better c.args.f.now sound p formed);
  sound = λ sound. subst Sound (sym c.in_ok-g.ensures) (is_sound c.args.f.now sound);
}
