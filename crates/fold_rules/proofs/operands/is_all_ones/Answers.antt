use Rattle.std.proofs.Common.{ℕ, ap, ◌∙◌}
use Rattle.ir_meaning.specs.Table.{is_number}
use Rattle.fold_rules.proofs.Ones.{all_ones}
use Rattle.fold_rules.proofs.operands.is_all_ones.Goals as goal

pub returns : goal.returns
returns c = c.is_number.ensures ∙ ap (λ (n : ℕ). is_number n c.args.operand.now) (c.narrow.ensures ∙ all_ones c.args.width c.requires.within)
