use Rattle.std.proofs.Common.{List, refl, sym, subst, IsTrue, ◌↔◌}
use Rattle.std.specs.Prelude.{All}
use Rattle.ir_tree.specs.Flow.{successors}
use Rattle.ir_tree.specs.declared.block.Case.{Case}
use Rattle.ir_tree.specs.declared.block.Terminator.{Terminator}
use Rattle.ir_verify.specs.Edged.{NoEntry}
use Rattle.ir_verify.proofs.Kept.{switch_targets}
use Rattle.ir_verify.proofs.entry.leaves_entry.Goals as goal

pub returns-then-is_no_entry-2 : goal.returns-then-is_no_entry-2
returns-then-is_no_entry-2 c =
    let whole = switch_targets (NoEntry c.args.blocks.now) (λ (e : Case). e.target) c.in-Switch.default c.in-Switch.cases (c.if-is_no_entry-2.ensures.0 refl) in
    let cases = subst (λ (es : List Case). IsTrue c.cases_leave.result ↔ All (λ (e : Case). NoEntry c.args.blocks.now e.target) es) c.as_slice.ensures c.cases_leave.ensures in
    subst (λ (t : Terminator). IsTrue c.cases_leave.result ↔ All (NoEntry c.args.blocks.now) (successors t)) (sym c.in-Switch.is) (λ t. whole.0 (cases.0 t), λ h. cases.1 (whole.1 h))
