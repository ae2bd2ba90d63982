use Rattle.std.proofs.Common.{◌∙◌, ℕ, List, ap, map}
use Rattle.branch_simplify.specs.Simplified.{simplified_block}
use Rattle.branch_simplify.proofs.simplify.blocks.Goals as goal

pub returns : goal.returns
returns c = c.in_ok-rows.ensures ∙ ap (λ (lost : ℕ → List ℕ). map (simplified_block lost) c.args.blocks.now) (λ i. λ m. c.in_ok-lost.ensures m i)
