use Rattle.std.proofs.Common.{◌∙◌, ℕ, ap, map}
use Rattle.branch_simplify.specs.Simplified.{phi_left}
use Rattle.branch_simplify.proofs.simplify.phis.Goals as goal

pub returns : goal.returns
returns c = c.in_ok-rows.ensures ∙ ap (λ (many : ℕ → ℕ). map (phi_left many) c.args.phis.now) (λ i. λ n. c.in_ok-lost.ensures n i)
