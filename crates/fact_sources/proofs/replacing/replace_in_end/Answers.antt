use Rattle.std.proofs.Common.{ℕ, sym, ◌∙◌}
use Rattle.std.specs.Prelude.{is_some}
use Rattle.ir_edit.specs.Substituted.{operand_replaced}
use Rattle.fact_sources.specs.Substitutions.{value_in}
use Rattle.fact_sources.proofs.Unnamed.{end_same, nothing, operand_same}
use Rattle.fact_sources.proofs.replacing.replace_in_end.Goals as goal

pub returns-then-not-named : goal.returns-then-not-named
returns-then-not-named c =
    let value = value_in c.args.substitution.now in
    let among = λ (x : ℕ). is_some (value x) in
    sym (end_same among (operand_replaced value) (operand_same among value (λ x out. nothing (value x) out)) c.args.end.now (sym c.end_names-named.ensures ∙ c.if-not-named.true))
