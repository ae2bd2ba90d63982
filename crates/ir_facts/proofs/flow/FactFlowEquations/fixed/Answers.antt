use Rattle.std.proofs.Common.{ℕ, Bool, false, ap}
use Rattle.std.specs.Prelude.{if◌then◌else◌, Some, None}
use Rattle.std.proofs.lemmas.Bool.{eq-eqb}
use Rattle.ir_facts.proofs.flow.FactFlowEquations.fixed.Goals as goal

pub returns-then-block-eq0 : goal.returns-then-block-eq0
returns-then-block-eq0 c = (
  c.args.self.now.sized,
  (λ (y : ℕ). false),
  ap (λ (t : Bool). if t then Some (λ (y : ℕ). false) else None) (eq-eqb c.args.block 0 c.if-block-eq0.true),
  (λ y small. c.args.self.now.bare y),
)
