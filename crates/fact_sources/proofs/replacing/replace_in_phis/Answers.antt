use Rattle.std.proofs.Common.{ℕ, sym, ◌∙◌, ap}
use Rattle.std.specs.Prelude.{is_some}
use Rattle.ir_edit.specs.Substituted.{operand_replaced}
use Rattle.fact_sources.specs.Naming.{phis_name}
use Rattle.fact_sources.specs.Substitutions.{value_in}
use Rattle.fact_sources.proofs.Unnamed.{nothing, operand_same, phis_same}
use Rattle.fact_sources.proofs.replacing.replace_in_phis.Goals as goal

pub returns-then-not-named : goal.returns-then-not-named
returns-then-not-named c =
    let value = value_in c.args.substitution.now in
    let among = λ (x : ℕ). is_some (value x) in
    sym (phis_same among (operand_replaced value) (operand_same among value (λ x out. nothing (value x) out)) c.args.phis.now (ap (phis_name among) (sym c.as_slice.ensures) ∙ sym c.phis_name-named.ensures ∙ c.if-not-named.true))
