use Rattle.std.proofs.Common.{◌∙◌, ap, arith, sym}
use Rattle.ir_summary.specs.declared.summary.Summary.{Summary}
use Rattle.ir_tree.specs.Linkages.{is_local}
use Rattle.combined_index.proofs.Scopes.{not_own, own_more}
use Rattle.combined_index.proofs.scope.own_names.Goals as goal
use Rattle.combined_index.proofs.scope.own_names.Goals.{then-is_local+in_ok-insert, else-is_local}

pub loop-summary-preserved : goal.loop-summary-preserved
loop-summary-preserved c =
    let same = sym (ap (λ (s : Summary). is_local s.linkage) c.summary-item.is) ∙ sym c.is_local.ensures in
    elim c.if-is_local.branch [
      | then-is_local+in_ok-insert w ↦
          rw w.own-is
          (own_more c.args.summaries.now c.loop-summary.summary-index c.summary-item.result (omega arith) c.loop-summary.own.keys c.loop-summary.invariant w.insert.new.self.keys w.as_slice.result
          (w.as_slice.ensures ∙ ap (λ (s : Summary). s.name) c.summary-item.is) (same ∙ w.if-is_local.true) w.in_ok-insert.ensures.keys)
      | else-is_local w ↦
          rw w.own-is
          (not_own c.args.summaries.now c.loop-summary.summary-index c.summary-item.result (omega arith) c.loop-summary.own.keys c.loop-summary.invariant (same ∙ w.if-is_local.false))
    ]
