use Rattle.std.proofs.Common.{ℕ, Option, sym, ap, ◌∙◌}
use Rattle.ir_facts.specs.Settled.{frozen_as}
use Rattle.ir_facts.proofs.choices.settled_instr.Goals as goal

pub returns-in-Some : goal.returns-in-Some
returns-in-Some c = sym (ap (λ (o : Option (ℕ × ℕ)). frozen_as o c.args.instr.now) (sym c.choice_of.ensures ∙ c.in-Some.is))
